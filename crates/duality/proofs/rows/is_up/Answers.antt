use Rattle.std.proofs.Common.{Decides, sym, subst}
use Rattle.sets.specs.Sets.{Within}
use Rattle.systems.specs.States.{up}
use Rattle.duality.proofs.RowFacts.{below_most, tested_within}
use Rattle.duality.proofs.rows.is_up.Goals as goal

pub returns : goal.returns
returns g c =
    let mem = g.K.SetKind.mem in
    let x = c.args.row.now.set in
    let low = below_most g.K.SetKind.top (mem x) g.met.K.SetKind.small (g.met.K.SetKind.below x) in
    sym (tested_within (mem x) (up c.args.state.now) low c.all_up.result (subst (λ y. Decides c.all_up.result (Within (mem y) (up c.args.state.now))) c.set.ensures c.all_up.ensures))
