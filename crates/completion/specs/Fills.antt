-- Minimal rows added to two tables. Assumes nothing.
--
--   AtMost k P    there are at most k sets with the property
--   why_blocked   why a table takes no minimal row, by the number with which its put is refused
--   blocked_at    the refusal of a completion for that, where it is the table of this side
--   Blocks        why no more can be added to a table: it is full, and there are more minimal rows than places; or the kind
--                 cannot hold some minimal row
--   BlocksAt      so for the table of the side that the refusal names
--   Adds, Learns, Fills   of one row; of one row for a missed state; of rows until no state is missed
use Rattle.std.specs.Prelude.{◌≡◌, ℕ, ◌+◌, ◌≤◌, ◌==◌, cond, List, length, Ok, Err, Result}
use Rattle.sets.specs.Sets.{Numbers}
use Rattle.systems.specs.Systems.{Structure, MinimalPath, Among}
use Rattle.systems.specs.Duals.{dual}
use Rattle.duality.specs.Searches.{AllCovered}
use Rattle.completion.specs.Minimals.{Tightened}
use Rattle.completion.specs.declared.side.Side.{Side}
use Rattle.completion.specs.declared.side.Side.TheVariants.{Paths, Cuts}
use Rattle.completion.specs.declared.fault.Blocked.{Blocked}
use Rattle.completion.specs.declared.fault.Blocked.TheVariants.{Full, Unheld}
use Rattle.completion.specs.declared.fault.CompletionFault.{CompletionFault}
use Rattle.completion.specs.declared.fault.CompletionFault.TheVariants.{Pair, NotBorneOut, MoreThanPlaces, CannotHold}

pub record AtMost (k : ℕ) (P : Numbers → Type 0) : Type 0 where
  pub sets : List Numbers
  pub few : length sets ≤ k
  pub all : (s : Numbers) → P s → Among sets s

pub record TableFull (capacity : ℕ) (ψ : Structure) (rows : List Numbers) : Type 0 where
  pub full : length rows ≡ capacity
  pub more : AtMost capacity (MinimalPath ψ) → ⊥

abbrev pub SomeUnheld : (Numbers → Type 0) → Structure → Type 0
SomeUnheld holds ψ = ((p : Numbers) → MinimalPath ψ p → holds p) → ⊥

-- 4 is that the kind cannot hold the row
abbrev pub why_blocked : ℕ → Blocked
why_blocked number = cond (number == 4) Unheld Full

abbrev pub blocked_at : Side → Blocked → CompletionFault
blocked_at side Full = MoreThanPlaces side
blocked_at side Unheld = CannotHold side

abbrev pub Blocks : ℕ → (Numbers → Type 0) → Structure → List Numbers → Blocked → Type 0
Blocks capacity holds ψ rows Full = TableFull capacity ψ rows
Blocks capacity holds ψ rows Unheld = SomeUnheld holds ψ

abbrev pub Adds : ℕ → ℕ → (Numbers → Type 0) → Structure → List Numbers → Result (Unit {0}) Blocked → List Numbers → Type 0
Adds n capacity holds ψ rows (Ok _) after = Tightened n capacity holds ψ rows after × (length after ≡ length rows + 1)
Adds n capacity holds ψ rows (Err b) after = (after ≡ rows) × Blocks capacity holds ψ rows b

-- a refusal is for want of a place, or because the kind cannot hold a row
abbrev pub OnlyBlocked : Result (Unit {0}) CompletionFault → Type 0
OnlyBlocked (Ok _) = Unit {0}
OnlyBlocked (Err (Pair f)) = ⊥
OnlyBlocked (Err (NotBorneOut t i)) = ⊥
OnlyBlocked (Err (MoreThanPlaces t)) = Unit {0}
OnlyBlocked (Err (CannotHold t)) = Unit {0}

-- the two tables, all rows minimal, each earlier row with one within it
pub record BothTightened (n path_capacity cut_capacity : ℕ) (holds : Numbers → Type 0) (φ : Structure) (ps cs qs ds : List Numbers) : Type 0 where
  pub paths : Tightened n path_capacity holds φ ps qs
  pub cuts : Tightened n cut_capacity holds (dual φ) cs ds

pub data BlocksAt (path_capacity cut_capacity : ℕ) (holds : Numbers → Type 0) (φ : Structure) (qs ds : List Numbers) : CompletionFault → Type 0 where
  paths_block : (b : Blocked) → Blocks path_capacity holds φ qs b → BlocksAt path_capacity cut_capacity holds φ qs ds (blocked_at Paths b)
  cuts_block : (b : Blocked) → Blocks cut_capacity holds (dual φ) ds b → BlocksAt path_capacity cut_capacity holds φ qs ds (blocked_at Cuts b)

abbrev pub Learns : ℕ → ℕ → ℕ → (Numbers → Type 0) → Structure → List Numbers → List Numbers → Result (Unit {0}) CompletionFault → List Numbers → List Numbers → Type 0
Learns n a b holds φ ps cs (Ok _) qs ds = BothTightened n a b holds φ ps cs qs ds × (length qs + length ds ≡ length ps + length cs + 1)
Learns n a b holds φ ps cs (Err f) qs ds = BothTightened n a b holds φ ps cs qs ds × BlocksAt a b holds φ qs ds f

abbrev pub Fills : ℕ → ℕ → ℕ → (Numbers → Type 0) → Structure → List Numbers → List Numbers → Result (Unit {0}) CompletionFault → List Numbers → List Numbers → Type 0
Fills n a b holds φ ps cs (Ok _) qs ds = BothTightened n a b holds φ ps cs qs ds × AllCovered n qs ds
Fills n a b holds φ ps cs (Err f) qs ds = BothTightened n a b holds φ ps cs qs ds × BlocksAt a b holds φ qs ds f
