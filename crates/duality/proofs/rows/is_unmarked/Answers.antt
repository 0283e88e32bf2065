use Rattle.std.proofs.Common.{Decides, sym, subst}
use Rattle.sets.specs.Sets.{Apart}
use Rattle.sets.specs.Marks.{marked}
use Rattle.duality.proofs.RowFacts.{below_most, tested_apart}
use Rattle.duality.proofs.rows.is_unmarked.Goals as goal

pub returns : goal.returns
returns g c =
    let mem = g.K.SetKind.mem in
    let x = c.args.row.now.set in
    let low = below_most g.K.SetKind.top (mem x) g.met.K.SetKind.small (g.met.K.SetKind.below x) in
    sym (tested_apart (mem x) (marked c.args.items.now) low c.none_marked.result (subst (λ y. Decides c.none_marked.result (Apart (mem y) (marked c.args.items.now))) c.set.ensures c.none_marked.ensures))
