use Rattle.std.proofs.Common.{arith}
use Rattle.duality.proofs.Stacking.{stacked_turn}
use Rattle.duality.proofs.splits.Splits.turn_last.Goals as goal

pub returns-then-self-gt0 : goal.returns-then-self-gt0
returns-then-self-gt0 c f fs e = let s = c.args.self.now in stacked_turn s.depth s.frames _ f fs c.if-self-gt0.true (omega arith) e c.turn.ensures
