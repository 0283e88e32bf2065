-- A row of a list, by what it means. Assumes nothing.
use Rattle.std.specs.Prelude.{◌≡◌, ℕ, ◌<◌, List, map, length, slice_index_or}
use Rattle.sets.specs.Sets.{Numbers, nothing}

-- x is one of them
pub record IsRow {X : Type 0} (f : X → Numbers) (xs : List X) (x : X) : Type 0 where
  pub row : ℕ
  pub there : row < length (map f xs)
  pub means : slice_index_or (map f xs) row nothing ≡ f x
