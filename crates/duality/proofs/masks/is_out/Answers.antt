use Rattle.std.proofs.Common.{sym}
use Rattle.duality.proofs.RowFacts.{below_most, tested_apart}
use Rattle.duality.proofs.masks.is_out.Goals as goal

pub returns : goal.returns
returns g c =
    let bits = g.M.Mask.bits in
    let x = c.args.row.now in
    sym (tested_apart (bits x) (bits c.args.other) (below_most g.M.Mask.most (bits x) g.met.M.Mask.small (g.met.M.Mask.under x)) c.is_apart.result c.is_apart.ensures)
