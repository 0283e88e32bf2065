-- What the labels of a row name: each the lowest item that has it. Assumes nothing.
--
--   Looked names ls ks        the labels ls name the items ks
--   Found names row most ks   the labels of the row name items, of which the first are ks: all of them, or as many as `most`
--   Lost names row            a label of the row names no item
use Rattle.std.specs.Prelude.{◌≡◌, ℕ, ◌<◌, List, [], ◌∷◌, length, take, slice_index_or}
use Rattle.sheets.specs.Bytes.{Bytes, Labels, spaced}
use Rattle.sheets.specs.Labels.{First, Absent}

pub data Looked (names : List Bytes) : List Bytes → List ℕ → Type 0 where
  looked_none : Looked names [] []
  looked_more : (l : Bytes) (k : ℕ) (ls : List Bytes) (ks : List ℕ) → First names l k → Looked names ls ks → Looked names (l ∷ ls) (k ∷ ks)

pub record Found (names : List Bytes) (row : Bytes) (most : ℕ) (ks : List ℕ) : Type 0 where
  pub labels : List Bytes
  pub items : List ℕ
  pub formed : Labels labels
  pub parts : row ≡ spaced labels
  pub looked : Looked names labels items
  pub first : ks ≡ take most items

pub record Lost (names : List Bytes) (row : Bytes) : Type 0 where
  pub labels : List Bytes
  pub formed : Labels labels
  pub parts : row ≡ spaced labels
  pub place : ℕ
  pub there : place < length labels
  pub absent : Absent names (slice_index_or labels place [])
