-- Runs of bytes: how far a text goes on with bytes of one sort. Assumes nothing.
--
--   Visible b             a label may have the byte b
--   Each P l              each byte of l is of the sort P
--   Halts P x             nothing follows, or a byte that is not of the sort P
--   Named s label rest    a space and the label stand in front of s, then no more of a label, and `rest` is left
use Rattle.std.specs.Prelude.{◌≡◌, ℕ, ◌<◌, ◌≤◌, ◌∷◌, ◌++◌, length, slice_index}
use Rattle.sheets.specs.Bytes.{Bytes, Label}

abbrev pub Visible : ℕ → Type 0
Visible b = (33 ≤ b) × (b ≤ 126)

abbrev pub Each : (ℕ → Type 0) → Bytes → Type 0
Each P l = (k : ℕ) → k < length l → P (slice_index l k)

abbrev pub Halts : (ℕ → Type 0) → Bytes → Type 0
Halts P x = 0 < length x → P (slice_index x 0) → ⊥

pub record Named (s label rest : Bytes) : Type 0 where
  pub formed : Label label
  pub parts : s ≡ 32 ∷ (label ++ rest)
  pub halts : Halts Visible rest
