-- The leading lines that begin with ITEM, however they go on. Assumes nothing.
--
--   Skips text n rest   n such lines lead the text, and `rest` is left, which does not begin so
--   Skipped text s      the spot s behind them: its place in the text, and the number of its line
use Rattle.std.specs.Prelude.{◌≡◌, ℕ, ◌+◌, ◌≤◌, [], ◌∷◌, ◌++◌, length, drop, codes}
use Rattle.sheets.specs.Bytes.{Bytes, Feedless}
use Rattle.sheets.specs.Lines.{Begins}
use Rattle.sheets.specs.declared.skipping.Spot.{Spot}

pub data Skips : Bytes → ℕ → Bytes → Type 0 where
  skip_stop : {text : Bytes} {n : ℕ} {rest : Bytes} → (Begins text (codes "ITEM") → ⊥) → n ≡ 0 → rest ≡ text → Skips text n rest
  -- the last line may lack its line feed
  skip_last : {text : Bytes} {n : ℕ} {rest : Bytes} → Begins text (codes "ITEM") → Feedless text → n ≡ 1 → rest ≡ [] → Skips text n rest
  skip_line : {text : Bytes} {n : ℕ} {rest : Bytes} (line after : Bytes) (m : ℕ) → Begins text (codes "ITEM") → Feedless line → text ≡ line ++ (10 ∷ after) → n ≡ m + 1
      → Skips after m rest → Skips text n rest

pub record Skipped (text : Bytes) (s : Spot) : Type 0 where
  pub fits : s.at ≤ length text
  pub low : s.nth ≤ s.at + 1
  pub lines : ℕ
  pub number : s.nth ≡ lines + 1
  pub skips : Skips text lines (drop s.at text)
