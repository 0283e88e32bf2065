-- The sheet text of two tables: the items with their labels, the paths, and the cuts. Assumes nothing.
--
--   items_of r          the items of a row, in rising order
--   labels_at names ks  the labels of the items ks
--   row_line head names r      the line of a row: the head and the labels of its items
--   lines_of head names rows   the lines of the rows
--   sheet_text          the whole text
use Rattle.std.specs.Prelude.{ℕ, List, [], ◌∷◌, ◌++◌, map, slice_index_or, codes}
use Rattle.sets.specs.Sets.{Numbers}
use Rattle.sets.specs.Members.{members_from}
use Rattle.sheets.specs.Bytes.{Bytes, spaced, items_text}

abbrev pub items_of : Numbers → List ℕ
items_of r = members_from r 0 256

abbrev pub labels_at : List Bytes → List ℕ → List Bytes
labels_at names ks = map (λ k. slice_index_or names k []) ks

abbrev pub row_line : Bytes → List Bytes → Numbers → Bytes
row_line head names r = head ++ (spaced (labels_at names (items_of r)) ++ (10 ∷ []))

abbrev pub lines_of : Bytes → List Bytes → List Numbers → Bytes
lines_of head names [] = []
lines_of head names (r ∷ rs) = row_line head names r ++ lines_of head names rs

abbrev pub sheet_text : List Bytes → List Numbers → List Numbers → Bytes
sheet_text names ps cs = items_text 0 names ++ (lines_of (codes "PATH") names ps ++ lines_of (codes "CUTS") names cs)
