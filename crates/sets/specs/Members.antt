-- The members of a set, listed. Assumes nothing.
--
--   members_from s k n  the members of s among the n numbers from k on, in rising order
--   members_left m      the members that are still to come, of a set whose members are below top
use Rattle.std.specs.Prelude.{ℕ, ◌-◌, List, filter}
use Rattle.std.specs.List.{range_with_len}
use Rattle.sets.specs.Sets.{Numbers}
use Rattle.sets.specs.declared.members.Members.{Members}

abbrev pub members_from : Numbers → ℕ → ℕ → List ℕ
members_from s k n = filter s (range_with_len k n)

abbrev pub members_left : {X : Type 0} → (X → Numbers) → ℕ → Members X → List ℕ
members_left mem top m = members_from (mem m.set.now) m.at (top - m.at)
