use Rattle.std.proofs.Common.{sym, arith}
use Rattle.sets.specs.ListLaws.{decided_no}
use Rattle.sets.proofs.TwoLists.{within_both, within_skip, within_less, within_ended}
use Rattle.sets.proofs.list.ListSetSetKind.within.Goals as goal

pub returns-in_default-theirs : goal.returns-in_default-theirs
returns-in_default-theirs c =
    decided_no (within_ended _ _ c.walk.mine.now c.walk.theirs.now c.in-len1-up.len_at_least c.in_default-theirs.len_below c.walk.invariant)

pub returns-then-y-x : goal.returns-then-y-x
returns-then-y-x c =
    decided_no (within_less _ _ c.walk.mine.now c.walk.theirs.now c.in-len1-up.len_at_least c.in-len1-up-theirs.len_at_least c.if-y-x.true c.walk.invariant)

pub walk-preserved-then-y-x-2 : goal.walk-preserved-then-y-x-2
walk-preserved-then-y-x-2 c =
    within_both _ _ c.walk.mine.now c.walk.theirs.now c.in-len1-up.len_at_least c.in-len1-up-theirs.len_at_least (sym c.if-y-x-2.true) c.walk.invariant

pub walk-preserved : goal.walk-preserved
walk-preserved c =
    within_skip _ _ c.walk.mine.now c.walk.theirs.now c.in-len1-up.len_at_least c.in-len1-up-theirs.len_at_least (omega arith) c.walk.invariant
