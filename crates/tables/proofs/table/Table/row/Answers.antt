use Rattle.std.proofs.Common.{length, ap, ◌∙◌, arith}
use Rattle.std.proofs.lemmas.List.{length-take-le}
use Rattle.std.proofs.lemmas.Result.{err_from_is_err_and}
use Rattle.tables.specs.Memory.{meant}
use Rattle.tables.proofs.Reading.{standing_many}
use Rattle.tables.proofs.Replying.{shows_refused, shows_done}
use Rattle.tables.proofs.table.Table.row.Goals as goal

pub returns-in_err-index : goal.returns-in_err-index
returns-in_err-index g c = λ n ps h.
    let p = err_from_is_err_and c.from_residual.result c.from_residual.ensures.1 in
    rw (← h.items, p.1, p.2) (shows_refused _ ps _ _ (standing_many (omega arith) h.standing) _ _ c.in_err-index.ensures)

pub returns : goal.returns
returns g c = λ n ps h.
    let index = c.in_ok-index.ensures in
    let x = c.index-rows-index.result in
    let many = ap length c.rows.ensures.places ∙ length-take-le c.args.self.now.count c.args.self.now.places.now (omega arith) in
    rw (← h.items, c.set.ensures, c.index-rows-index.is, ← index.2)
    (shows_done (meant g.K.SetKind.mem) _ ps c.rows.result.now c.in_ok-index.index x index.0 (omega arith) (c.rows.ensures.rows n ps h))
