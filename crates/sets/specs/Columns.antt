-- The places that stand in a number's column. Assumes nothing.
--
--   column c k      the places in the column of k
--   Joined c s j    j stands in the column of some member of s
use Rattle.std.specs.Prelude.{ℕ, T, [], slice_index_or}
use Rattle.sets.specs.Sets.{Numbers}
use Rattle.sets.specs.Masks.{low_marked}
use Rattle.sets.specs.declared.marks.Marks.{Marks}
use Rattle.sets.specs.declared.columns.Columns.{Columns}

abbrev pub unmarked : Marks
unmarked = record { words = [] }

unfoldable pub column : Columns → ℕ → Numbers
column c k = low_marked (slice_index_or c.columns k unmarked)

pub record Joined (c : Columns) (s : Numbers) (j : ℕ) : Type 0 where
  pub number : ℕ
  pub member : T (s number)
  pub stands : T (column c number j)
