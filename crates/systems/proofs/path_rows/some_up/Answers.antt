use Rattle.std.proofs.Common.{rules, tests}
use Rattle.sets.specs.Sets.{Within}
use Rattle.std.proofs.lemmas.Iterator.{cases_from_any, YieldsList-from_slice}
use Rattle.systems.specs.States.{up}
use Rattle.systems.proofs.UpRows.{row_found}
use Rattle.systems.proofs.path_rows.some_up.Goals as goal

pub returns : goal.returns
returns g c =
    let mem = g.K.SetKind.mem in
    let rows = c.args.rows.now in
    let state = c.args.state.now in
    row_found mem rows state c.any.result c.requires
    (cases_from_any _ _ c.any.result (λ x. Within (mem x) (up state)) (λ x. Within (mem x) (up state) → ⊥) c.any.ensures.ran (YieldsList-from_slice rows cc) (λ x q k. search (rules, tests)) (λ x q k. search (rules, tests)))
