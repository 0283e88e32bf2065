-- Tables of minimal rows. Assumes nothing.
--
-- The rows are paths of a structure function ψ: of the drawing's for the path table, of its dual for the cut table.
--
--   Smaller     a minimal set, in a state of the item count, that is less than the row r
--   Minimals    the rows of a table, all minimal for ψ
--   Tightened   such rows, and each earlier row has a row within it
use Rattle.std.specs.Prelude.{◌≡◌, ℕ, List}
use Rattle.sets.specs.Sets.{Numbers}
use Rattle.systems.specs.States.{up}
use Rattle.systems.specs.Systems.{Structure, ProperSubset, MinimalPath, EachRow}
use Rattle.systems.specs.declared.state.State.{State}
use Rattle.tables.specs.Rows.{Sound}
use Rattle.tables.specs.Pasts.{Finer}

pub record Smaller (ψ : Structure) (r : Numbers) (s : State) : Type 0 where
  pub count : s.count ≡ ψ.items
  pub least : MinimalPath ψ (up s)
  pub less : ProperSubset (up s) r

pub record Minimals (n capacity : ℕ) (holds : Numbers → Type 0) (ψ : Structure) (rows : List Numbers) : Type 0 where
  pub sound : Sound n capacity holds rows
  pub minimal : EachRow rows (MinimalPath ψ)

pub record Tightened (n capacity : ℕ) (holds : Numbers → Type 0) (ψ : Structure) (before after : List Numbers) : Type 0 where
  pub minimals : Minimals n capacity holds ψ after
  pub finer : Finer before after
