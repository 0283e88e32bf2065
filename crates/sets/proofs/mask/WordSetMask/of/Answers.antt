use Rattle.std.proofs.Common.{sym}
use Rattle.sets.specs.Marks.{marked}
use Rattle.sets.proofs.MarkLaws.{held_low}
use Rattle.sets.proofs.mask.WordSetMask.of.Goals as goal

pub returns : goal.returns
unfolding marked
returns c k h = sym (held_low c.args.marks.now.words k h)
