-- The rows of one table, as a row is put or struck. Assumes nothing.
--
-- A row r contains a row s when each item of s is an item of r; a row contains itself.
--
--   ContainsNone rows r     r contains none of the rows
--   LowestContained rows r i  row i is the lowest that r contains
--   staying n rows r        the rows, of items below n, that do not contain r
--   after_put n rows r      those, and r behind them
--   Sound                   what is true of the rows of every table, whatever it underwent
use Rattle.std.specs.Prelude.{ℕ, ◌<◌, ◌≤◌, Bool, not, List, [], ◌∷◌, ◌++◌, length, filter, slice_index_or}
use Rattle.sets.specs.Sets.{Numbers, nothing, Within, Below, within_below}
use Rattle.systems.specs.Systems.{EachRow, Antichain}

abbrev pub ContainsNone : List Numbers → Numbers → Type 0
ContainsNone rows r = (i : ℕ) → i < length rows → Within (slice_index_or rows i nothing) r → ⊥

pub record LowestContained (rows : List Numbers) (r : Numbers) (i : ℕ) : Type 0 where
  pub there : i < length rows
  pub contained : Within (slice_index_or rows i nothing) r
  pub lowest : (k : ℕ) → k < i → Within (slice_index_or rows k nothing) r → ⊥

-- the row s does not contain r
abbrev pub stays : ℕ → Numbers → Numbers → Bool
stays n r s = not (within_below n r s)

abbrev pub staying : ℕ → List Numbers → Numbers → List Numbers
staying n rows r = filter (stays n r) rows

abbrev pub after_put : ℕ → List Numbers → Numbers → List Numbers
after_put n rows r = staying n rows r ++ (r ∷ [])

pub record Sound (n capacity : ℕ) (holds : Numbers → Type 0) (rows : List Numbers) : Type 0 where
  pub items : EachRow rows (Below n)
  pub held : EachRow rows holds
  pub antichain : Antichain rows
  pub few : length rows ≤ capacity
