use Rattle.std.proofs.Common.{sym}
use Rattle.duality.proofs.Stacking.{length_stacked}
use Rattle.duality.proofs.splits.Splits.count.Goals as goal

pub returns : goal.returns
returns c = sym (length_stacked c.args.self.now.depth c.args.self.now.frames)
