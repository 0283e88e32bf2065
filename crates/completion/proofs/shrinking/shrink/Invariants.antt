use Rattle.completion.proofs.Dropping.{Shrinking}
use Rattle.completion.proofs.shrinking.shrink.Given as goal

abbrev pub invariant-loop-item : goal.invariant-loop-item
invariant-loop-item g l = Shrinking (g.D.Drawing.means l.drawing) l.set l.least l.item
