use Rattle.std.proofs.Common.{take, drop}
use Rattle.sets.specs.Sets.{listed, Within}
use Rattle.sets.proofs.Walk.{but}
use Rattle.sets.proofs.ColumnLaws.{JoinedFor}
use Rattle.sets.proofs.list.ListSetSetKind.join.Given as goal

abbrev pub invariant-loop-x : goal.invariant-loop-x
invariant-loop-x l =
    let xs = take l.self.len l.self.numbers in
    JoinedFor l.columns l.joined (but (listed xs) (listed (drop l.x-index xs))) × Within (listed (drop l.x-index xs)) (listed xs)
