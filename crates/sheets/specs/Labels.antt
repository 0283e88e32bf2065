-- The labels that places stand for, and the item that a label names. Assumes nothing.
--
--   named text p        the label that the place p stands for: one that leaves the text stands for the empty label
--   nowhere             a place that stands for the empty label
--   Absent names l      no name is l
--   First names l i     item i is the lowest that has the name l
use Rattle.std.specs.Prelude.{◌≡◌, ℕ, ◌+◌, ◌<◌, cond, nat_le, List, [], length, take, drop, slice_index_or}
use Rattle.sheets.specs.Bytes.{Bytes}
use Rattle.sheets.specs.declared.place.LabelPlace.{LabelPlace}

unfoldable pub named : Bytes → LabelPlace → Bytes
named text p = cond (nat_le (p.start + p.len) (length text)) (take p.len (drop p.start text)) []

abbrev pub nowhere : LabelPlace
nowhere = record { start = 0; len = 0 }

abbrev pub Absent : List Bytes → Bytes → Type 0
Absent names l = (k : ℕ) → k < length names → slice_index_or names k [] ≡ l → ⊥

pub record First (names : List Bytes) (l : Bytes) (i : ℕ) : Type 0 where
  pub there : i < length names
  pub same : slice_index_or names i [] ≡ l
  pub lowest : (k : ℕ) → k < i → slice_index_or names k [] ≡ l → ⊥
