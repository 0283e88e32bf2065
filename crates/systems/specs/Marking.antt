-- Nodes that are marked as lines lead to them. Assumes nothing.
--
--   marks_of  the marked nodes
--   Crossed   the marks before and after one line, and whether it led to a new node
--   Passed    the marks before and after the first n lines, and whether any led to a new node
use Rattle.std.specs.Prelude.{◌≡◌, ℕ, ◌<◌, Bool, true, false, T, ◌⊎◌, List, slice_index_or}
use Rattle.sets.specs.Sets.{Numbers, Within}
use Rattle.systems.specs.Lines.{Open, Joins, Walk, no_line}
use Rattle.systems.specs.declared.line.Line.{Line}

abbrev pub marks_of : List Bool → Numbers
marks_of m k = slice_index_or m k false

pub record Crossed (items nodes : ℕ) (s : Numbers) (l : Line) (before after : Numbers) (more : Bool) : Type 0 where
  pub grown : Within before after
  pub sound : (k : ℕ) → T (after k) → T (before k) ⊎ ((a : ℕ) × Open items nodes s l × Joins l a k × T (before a))
  pub still : more ≡ false → Within after before
  pub closed : more ≡ false → Open items nodes s l → (a b : ℕ) → Joins l a b → T (before a) → T (before b)
  pub fresh : more ≡ true → (k : ℕ) × (k < nodes) × (before k ≡ false) × T (after k)

pub record Passed (items nodes : ℕ) (lines : List Line) (s : Numbers) (n : ℕ) (before after : Numbers) (more : Bool) : Type 0 where
  pub grown : Within before after
  pub sound : ((k : ℕ) → T (before k) → Walk items nodes lines s k) → (k : ℕ) → T (after k) → Walk items nodes lines s k
  pub still : more ≡ false → Within after before
  pub closed : more ≡ false → (i : ℕ) → i < n → Open items nodes s (slice_index_or lines i no_line) → (a b : ℕ) → Joins (slice_index_or lines i no_line) a b → T (before a) → T (before b)
  pub fresh : more ≡ true → (k : ℕ) × (k < nodes) × (before k ≡ false) × T (after k)
