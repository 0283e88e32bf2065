-- States as sets of items. Assumes nothing.
use Rattle.std.specs.Prelude.{ℕ, Bool, cond, ◌&&◌, ◌==◌, nat_lt}
use Rattle.sets.specs.Sets.{Numbers}
use Rattle.sets.specs.Marks.{marked as marks_of}
use Rattle.systems.specs.declared.state.State.{State}

-- the items that are up
abbrev pub up : State → Numbers
up s = marks_of s.marks

-- the set with the item k in it or out of it, as b says, if k is one of the n items
abbrev pub marked : ℕ → ℕ → Bool → Numbers → Numbers
marked n k b s j = cond (nat_lt k n && j == k) b (s j)
