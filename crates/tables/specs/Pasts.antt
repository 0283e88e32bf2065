-- The past of a path table and a cut table that were opened with one item count n. Assumes nothing.
--
-- It says which rows the two tables have, reckoned from what they underwent: accepted puts, strikes, and completions.
-- Refused calls and audits change no rows.
--
--   Accepted   the row can be put: its items are below n, the kind can hold it, it contains no row, and there is
--              a place for it once the rows that contain it are gone
--   Fit        the rows fit the table: no more than its capacity, and each can be held
--   Finer      each earlier row has a row within it
--   Improved   what a completion that stopped part way leaves of a table: each row minimal, each once, each
--              earlier row with a row within it
--   Past       the relation itself: the rows of the path table and of the cut table
use Rattle.std.specs.Prelude.{◌≡◌, ℕ, ◌<◌, ◌≤◌, List, [], length}
use Rattle.std.specs.List.{remove}
use Rattle.sets.specs.Sets.{Numbers, Below}
use Rattle.systems.specs.Systems.{Works, Structure, MinimalPath, MinimalCut, EachRow, Once, Lists}
use Rattle.tables.specs.Rows.{ContainsNone, staying, after_put, Sound}
use Rattle.tables.specs.Refusals.{Reply}
use Rattle.tables.specs.Calls.{Puts, Strikes}

pub record Accepted (n capacity : ℕ) (holds : Numbers → Type 0) (rows : List Numbers) (r : Numbers) : Type 0 where
  pub items : Below n r
  pub held : holds r
  pub new : ContainsNone rows r
  pub room : length (staying n rows r) < capacity

pub record Fit (capacity : ℕ) (holds : Numbers → Type 0) (rows : List Numbers) : Type 0 where
  pub few : length rows ≤ capacity
  pub held : EachRow rows holds

abbrev pub Finer : List Numbers → List Numbers → Type 0
Finer before after = EachRow before (λ r. Works after r)

pub record Improved (P : Numbers → Type 0) (before after : List Numbers) : Type 0 where
  pub minimal : EachRow after P
  pub once : Once after
  pub finer : Finer before after

pub data Past (n path_capacity cut_capacity : ℕ) (holds : Numbers → Type 0) : List Numbers → List Numbers → Type 0 where
  opened : Past n path_capacity cut_capacity holds [] []
  path_put : {ps cs : List Numbers} (r : Numbers) → Accepted n path_capacity holds ps r
      → Past n path_capacity cut_capacity holds ps cs → Past n path_capacity cut_capacity holds (after_put n ps r) cs
  cut_put : {ps cs : List Numbers} (r : Numbers) → Accepted n cut_capacity holds cs r
      → Past n path_capacity cut_capacity holds ps cs → Past n path_capacity cut_capacity holds ps (after_put n cs r)
  path_struck : {ps cs : List Numbers} (row : ℕ) → row < length ps
      → Past n path_capacity cut_capacity holds ps cs → Past n path_capacity cut_capacity holds (remove ps row) cs
  cut_struck : {ps cs : List Numbers} (row : ℕ) → row < length cs
      → Past n path_capacity cut_capacity holds ps cs → Past n path_capacity cut_capacity holds ps (remove cs row)
  -- a completion filled both tables with the minimal paths and cuts of a structure function of n items
  completed : {ps cs qs ds : List Numbers} (φ : Structure) → φ.items ≡ n
      → Lists qs (MinimalPath φ) → Fit path_capacity holds qs → Lists ds (MinimalCut φ) → Fit cut_capacity holds ds
      → Past n path_capacity cut_capacity holds ps cs → Past n path_capacity cut_capacity holds qs ds
  -- a completion stopped part way
  stopped : {ps cs qs ds : List Numbers} (φ : Structure) → φ.items ≡ n
      → Improved (MinimalPath φ) ps qs → Fit path_capacity holds qs → Improved (MinimalCut φ) cs ds → Fit cut_capacity holds ds
      → Past n path_capacity cut_capacity holds ps cs → Past n path_capacity cut_capacity holds qs ds

-- whatever the two tables underwent, their rows are sound
abbrev pub PastsAreSound : (Numbers → Type 0) → Type 0
PastsAreSound holds = (n path_capacity cut_capacity : ℕ) (ps cs : List Numbers) → Past n path_capacity cut_capacity holds ps cs
    → Sound n path_capacity holds ps × Sound n cut_capacity holds cs

-- a put or a strike, refused or not, leaves rows that have a past again
pub record CallsGoOn (holds : Numbers → Type 0) : Type 0 where
  pub path_puts : (n path_capacity cut_capacity : ℕ) (ps cs qs : List Numbers) (items : List ℕ) (r : Reply ℕ)
      → Past n path_capacity cut_capacity holds ps cs → Puts n path_capacity holds ps items r qs → Past n path_capacity cut_capacity holds qs cs
  pub cut_puts : (n path_capacity cut_capacity : ℕ) (ps cs ds : List Numbers) (items : List ℕ) (r : Reply ℕ)
      → Past n path_capacity cut_capacity holds ps cs → Puts n cut_capacity holds cs items r ds → Past n path_capacity cut_capacity holds ps ds
  pub path_strikes : (n path_capacity cut_capacity : ℕ) (ps cs qs : List Numbers) (row : ℕ) (r : Reply (Unit {0}))
      → Past n path_capacity cut_capacity holds ps cs → Strikes n ps row r qs → Past n path_capacity cut_capacity holds qs cs
  pub cut_strikes : (n path_capacity cut_capacity : ℕ) (ps cs ds : List Numbers) (row : ℕ) (r : Reply (Unit {0}))
      → Past n path_capacity cut_capacity holds ps cs → Strikes n cs row r ds → Past n path_capacity cut_capacity holds ps ds
