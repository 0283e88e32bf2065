use Rattle.std.proofs.Common.{arith}
use Rattle.duality.proofs.Stacking.{stacked_push}
use Rattle.duality.proofs.splits.Splits.push.Goals as goal

pub returns : goal.returns
returns c = let s = c.args.self.now in stacked_push s.depth s.frames _ (omega arith)
