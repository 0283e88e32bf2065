-- What the places of a table's memory mean, before and after a call. Assumes nothing.
--
--   meant        the set of items in a place
--   Standing     the first places mean the rows, in their order, and each place behind them, up to the capacity, the empty set
--   Beyond       the places from `from` on are as they were
use Rattle.std.specs.Prelude.{◌≡◌, ℕ, ◌≤◌, List, map, take, slice_index_or}
use Rattle.std.specs.List.{AllWithin}
use Rattle.sets.specs.Sets.{Numbers, nothing}
use Rattle.tables.specs.declared.row.Row.{Row}

abbrev pub meant : {X : Type 0} → (X → Numbers) → Row X → Numbers
meant mem row = mem row.set

pub record Standing {X : Type 0} (mem : X → Numbers) (places : List X) (capacity count : ℕ) (rows : List Numbers) : Type 0 where
  pub stand : map mem (take count places) ≡ rows
  pub behind : AllWithin (λ place. mem place ≡ nothing) places count capacity

abbrev pub Beyond : {X : Type 0} → ℕ → List X → List X → Type 0
Beyond {X} from before after = (k : ℕ) (d : X) → from ≤ k → slice_index_or after k d ≡ slice_index_or before k d
