-- What a put of a set of items below n replies, and the rows that it leaves. Assumes nothing.
--
--   Offers     of the put
--   Replaced   the rows once the set has taken the place of a row that it is less than, and how many are gone: it is put, or the
--              row is struck because another lies within the set
use Rattle.std.specs.Prelude.{◌≡◌, ℕ, ◌-◌, List, [], ◌∷◌, length}
use Rattle.std.specs.List.{remove}
use Rattle.sets.specs.Sets.{Numbers}
use Rattle.systems.specs.Systems.{Works}
use Rattle.tables.specs.Refusals.{Reply, answered, refused}
use Rattle.tables.specs.Rows.{ContainsNone, LowestContained, staying, after_put}
use Rattle.tables.specs.Pasts.{Accepted}

pub data Offers (n capacity : ℕ) (holds : Numbers → Type 0) (rows : List Numbers) (r : Numbers) : Reply ℕ → List Numbers → Type 0 where
  offer_closed : n ≡ 0 → Offers n capacity holds rows r (refused 1 (n ∷ [])) rows
  offer_unheld : (place : ℕ) → (holds r → ⊥) → Offers n capacity holds rows r (refused 4 (place ∷ [])) rows
  offer_contains : (i : ℕ) → LowestContained rows r i → Offers n capacity holds rows r (refused 5 (i ∷ [])) rows
  offer_full : ContainsNone rows r → length rows ≡ capacity → staying n rows r ≡ rows → Offers n capacity holds rows r (refused 6 (capacity ∷ [])) rows
  offer_done : Accepted n capacity holds rows r → Offers n capacity holds rows r (answered (length rows - length (staying n rows r))) (after_put n rows r)

pub data Replaced (n capacity : ℕ) (holds : Numbers → Type 0) (rows : List Numbers) (row : ℕ) (s : Numbers) : ℕ → List Numbers → Type 0 where
  replace_put : Accepted n capacity holds rows s → Replaced n capacity holds rows row s (length rows - length (staying n rows s)) (after_put n rows s)
  replace_struck : Works rows s → Replaced n capacity holds rows row s 1 (remove rows row)
