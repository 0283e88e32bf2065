use Rattle.std.proofs.Common.{arith}
use Rattle.sets.specs.ListLaws.{decided_no}
use Rattle.sets.proofs.TwoLists.{apart_mine, apart_theirs, apart_same}
use Rattle.sets.proofs.list.ListSetSetKind.apart.Goals as goal

pub returns-then-x-y : goal.returns-then-x-y
returns-then-x-y c =
    decided_no (apart_same _ _ c.walk.mine.now c.walk.theirs.now c.in-len1-up.len_at_least c.in-len1-up-theirs.len_at_least c.if-x-y.true c.walk.invariant)

pub walk-preserved-then-x-y-2 : goal.walk-preserved-then-x-y-2
walk-preserved-then-x-y-2 c =
    apart_mine _ _ c.walk.mine.now c.walk.theirs.now c.in-len1-up.len_at_least c.in-len1-up-theirs.len_at_least c.if-x-y-2.true c.walk.invariant

pub walk-preserved : goal.walk-preserved
walk-preserved c =
    apart_theirs _ _ c.walk.mine.now c.walk.theirs.now c.in-len1-up.len_at_least c.in-len1-up-theirs.len_at_least (omega arith) c.walk.invariant
