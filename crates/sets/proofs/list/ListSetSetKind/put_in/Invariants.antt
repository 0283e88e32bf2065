use Rattle.std.proofs.Common.{take, drop}
use Rattle.sets.specs.Sets.{listed, Within}
use Rattle.sets.proofs.Walk.{but}
use Rattle.sets.proofs.ColumnLaws.{PutFor}
use Rattle.sets.proofs.list.ListSetSetKind.put_in.Given as goal

abbrev pub invariant-loop-x : goal.invariant-loop-x
invariant-loop-x l =
    let xs = take l.self.len l.self.numbers in
    PutFor l.fn.columns l.columns (but (listed xs) (listed (drop l.x-index xs))) l.place × Within (listed (drop l.x-index xs)) (listed xs)
