use Rattle.std.proofs.Common.{sym}
use Rattle.duality.proofs.RowFacts.{below_most, tested_within}
use Rattle.duality.proofs.masks.is_in.Goals as goal

pub returns : goal.returns
returns g c =
    let bits = g.M.Mask.bits in
    let x = c.args.row.now in
    sym (tested_within (bits x) (bits c.args.other) (below_most g.M.Mask.most (bits x) g.met.M.Mask.small (g.met.M.Mask.under x)) c.is_within.result c.is_within.ensures)
