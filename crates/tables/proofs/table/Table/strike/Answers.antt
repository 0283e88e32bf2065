use Rattle.std.proofs.Common.{◌≤◌, ◌∙◌, length, refl, arith}
use Rattle.std.proofs.lemmas.List.{length-take-le}
use Rattle.std.proofs.lemmas.Result.{err_from_is_err_and}
use Rattle.tables.specs.Calls.{strike_done}
use Rattle.tables.proofs.Changing.{standing_front}
use Rattle.tables.proofs.Reading.{standing_many}
use Rattle.tables.proofs.Replying.{strikes_refused}
use Rattle.tables.proofs.table.Table.strike.Goals as goal

pub returns-in_err-index-clause-strikes : goal.returns-in_err-index-clause-strikes
returns-in_err-index-clause-strikes g c = λ n ps h.
    let p = err_from_is_err_and c.from_residual.result c.from_residual.ensures.1 in
    rw (← h.items) (ps, rw (p.1, p.2) (strikes_refused _ ps _ _ (standing_many (omega arith) h.standing) _ _ c.in_err-index.ensures), record { items = refl; standing = h.standing })

pub returns-clause-strikes : goal.returns-clause-strikes
returns-clause-strikes g c = λ n ps h.
    let xs = c.args.self.now.places.now in
    let count = c.args.self.now.count in
    let le : count ≤ length xs = omega arith in
    let long = length-take-le count xs le in
    let index = c.in_ok-index.ensures in
    let others = rw (long, h.standing.stand, index.2) at c.close_up.ensures.others in
    rw (← h.items) (
      _,
      strike_done index.0 (omega (arith, standing_many le h.standing)),
      record { items = refl; standing = standing_front xs _ count (c.close_up.ensures.long ∙ long) _ _ _ (omega arith) others h.standing.behind },
    )
