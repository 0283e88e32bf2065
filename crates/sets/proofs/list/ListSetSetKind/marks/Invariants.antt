use Rattle.std.proofs.Common.{ℕ, ◌≡◌, ◌||◌, take, drop}
use Rattle.sets.specs.Sets.{listed}
use Rattle.sets.specs.Marks.{marked}
use Rattle.sets.proofs.list.ListSetSetKind.marks.Given as goal

-- a member is marked or still to come
abbrev pub invariant-loop-x : goal.invariant-loop-x
invariant-loop-x l =
    let xs = take l.self.len l.self.numbers in (j : ℕ) → (marked l.marks j || listed (drop l.x-index xs) j) ≡ listed xs j
