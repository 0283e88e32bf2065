use Rattle.std.proofs.Common.{take, length}
use Rattle.sets.specs.Sets.{listed, Within}
use Rattle.sets.proofs.TwoLists.{Left}
use Rattle.sets.proofs.list.ListSetSetKind.within.Given as goal

abbrev pub invariant-walk : goal.invariant-walk
invariant-walk l = Left Within (listed (take l.self.len l.self.numbers)) (listed (take l.other.len l.other.numbers)) l.mine l.theirs

abbrev pub decreases-walk : goal.decreases-walk
decreases-walk l = length l.theirs
