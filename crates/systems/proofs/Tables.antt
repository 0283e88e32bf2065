-- Tests of rows whose numbers are all below n, and what they tell.
use Rattle.std.proofs.Common.{ℕ, zero, suc, ◌<◌, Bool, true, false, not, ◌&&◌, ◌||◌, T, eqb, ltb, ◌⊎◌, List, [], ◌∷◌, map, length, get_or, Decides, refl, ap, inl, inr, le_of_suc-le-suc, not-suc-le-zero, arith, eqb→eq, ltb→lt, T_not}
use lib.Dec.{not_T}
use Rattle.std.proofs.lemmas.Bool.{false≢true}
use Rattle.std.proofs.lemmas.Bool.Decides.{Decides-like, Decides-or}
use Rattle.sets.specs.Sets.{Numbers, nothing, Within, Apart, Below, listed, within_below}
use Rattle.sets.specs.Truth.{and_T, or_T, true_holds}
use Rattle.sets.proofs.Deciding.{decides_within}
use Rattle.systems.specs.Systems.{Works, Fails, EachRow, Antichain}

-- ---- rows by their numbers

abbrev pub numbers_below : ℕ → List ℕ → Bool
numbers_below n [] = true
numbers_below n (x ∷ xs) = ltb x n && numbers_below n xs

abbrev pub lists_below : ℕ → List (List ℕ) → Bool
lists_below n [] = true
lists_below n (xs ∷ xss) = numbers_below n xs && lists_below n xss

pub listed_below : (n : ℕ) (xs : List ℕ) → T (numbers_below n xs) → Below n (listed xs)
listed_below n [] t k m = absurd m
listed_below n (x ∷ xs) t k m =
    let p = and_T (ltb x n) (numbers_below n xs) t in
    elim (or_T (eqb k x) (listed xs k) m) [
      | inl e ↦ omega (arith, eqb→eq k x e, ltb→lt x n p.0)
      | inr h ↦ listed_below n xs p.1 k h
    ]

pub rows_below : (n : ℕ) (xss : List (List ℕ)) → T (lists_below n xss) → EachRow (map listed xss) (Below n)
rows_below n [] t i h = absurd (not-suc-le-zero h)
rows_below n (xs ∷ xss) t zero h = listed_below n xs (and_T (numbers_below n xs) (lists_below n xss) t).0
rows_below n (xs ∷ xss) t (suc i) h = rows_below n xss (and_T (numbers_below n xs) (lists_below n xss) t).1 i (le_of_suc-le-suc h)

-- ---- each row, some row

abbrev pub each_row : (Numbers → Bool) → List Numbers → Bool
each_row f [] = true
each_row f (r ∷ rs) = f r && each_row f rs

pub each_row_at : (f : Numbers → Bool) (rows : List Numbers) → T (each_row f rows) → EachRow rows (λ r. T (f r))
each_row_at f [] t i h = absurd (not-suc-le-zero h)
each_row_at f (r ∷ rs) t zero h = (and_T (f r) (each_row f rs) t).0
each_row_at f (r ∷ rs) t (suc i) h = each_row_at f rs (and_T (f r) (each_row f rs) t).1 i (le_of_suc-le-suc h)

abbrev pub some_row : (Numbers → Bool) → List Numbers → Bool
some_row f [] = false
some_row f (r ∷ rs) = f r || some_row f rs

abbrev pub SomeRow : List Numbers → (Numbers → Type 0) → Type 0
SomeRow rows P = (i : ℕ) × (i < length rows) × P (get_or rows i nothing)

module _ (P : Numbers → Type 0) (r : Numbers) (rs : List Numbers) where
  some_first : P r ⊎ SomeRow rs P → SomeRow (r ∷ rs) P
  some_first (inl p) = (0, omega arith, p)
  some_first (inr h) = (suc h.0, omega (arith, h.1), h.2)

  first_some : (i : ℕ) → i < suc (length rs) → P (get_or (r ∷ rs) i nothing) → P r ⊎ SomeRow rs P
  first_some zero h p = inl p
  first_some (suc i) h p = inr (i, le_of_suc-le-suc h, p)

pub decides_some_row : (f : Numbers → Bool) (P : Numbers → Type 0) (rows : List Numbers) → EachRow rows (λ r. Decides (f r) (P r)) → Decides (some_row f rows) (SomeRow rows P)
decides_some_row f P [] each = (λ e. absurd (false≢true e), λ h. absurd (not-suc-le-zero h.1))
decides_some_row f P (r ∷ rs) each =
    Decides-like (f r || some_row f rs) (some_first P r rs) (λ h. first_some P r rs h.0 h.1 h.2)
    (Decides-or (f r) (some_row f rs) (each 0 (omega arith)) (decides_some_row f P rs (λ i h. each (suc i) (omega arith))))

-- ---- paths and cuts

-- no member of s below n is a member of t
abbrev pub apart_below : ℕ → Numbers → Numbers → Bool
apart_below n s t = within_below n s (λ k. not (t k))

pub decides_apart : (n : ℕ) (s t : Numbers) → Below n s → Decides (apart_below n s t) (Apart s t)
decides_apart n s t low =
    Decides-like (apart_below n s t) (λ h k a. T_not (t k) (h k a)) (λ h k a. not_T (t k) (h k a)) (decides_within n s (λ k. not (t k)) low)

abbrev pub works_test : ℕ → List Numbers → Numbers → Bool
works_test n paths s = some_row (λ r. within_below n r s) paths

abbrev pub fails_test : ℕ → List Numbers → Numbers → Bool
fails_test n cuts s = some_row (λ r. apart_below n r s) cuts

module _ (n : ℕ) (rows : List Numbers) (low : EachRow rows (Below n)) (s : Numbers) where
  pub decides_works : Decides (works_test n rows s) (Works rows s)
  decides_works =
      Decides-like (works_test n rows s) (λ h. record { row = h.0; there = h.1; up = h.2 }) (λ w. (w.row, w.there, w.up))
      (decides_some_row (λ r. within_below n r s) (λ r. Within r s) rows (λ i h. decides_within n (get_or rows i nothing) s (low i h)))

  pub decides_fails : Decides (fails_test n rows s) (Fails rows s)
  decides_fails =
      Decides-like (fails_test n rows s) (λ h. record { row = h.0; there = h.1; down = h.2 }) (λ w. (w.row, w.there, w.down))
      (decides_some_row (λ r. apart_below n r s) (λ r. Apart r s) rows (λ i h. decides_apart n (get_or rows i nothing) s (low i h)))

-- ---- no row contains another

abbrev pub unlike_below : ℕ → Numbers → Numbers → Bool
unlike_below n s t = not (within_below n s t) && not (within_below n t s)

abbrev pub antichain_test : ℕ → List Numbers → Bool
antichain_test n [] = true
antichain_test n (r ∷ rs) = each_row (unlike_below n r) rs && antichain_test n rs

unlike_at : (n : ℕ) (s t : Numbers) → Below n s → Below n t → T (unlike_below n s t) → (Within s t → ⊥) × (Within t s → ⊥)
unlike_at n s t low high h =
    let p = and_T (not (within_below n s t)) (not (within_below n t s)) h in (
      λ w. T_not (within_below n s t) p.0 (true_holds (within_below n s t) ((decides_within n s t low).1 w)),
      λ w. T_not (within_below n t s) p.1 (true_holds (within_below n t s) ((decides_within n t s high).1 w)),
    )

module _ (n : ℕ) (r : Numbers) (rs : List Numbers) (low : EachRow (r ∷ rs) (Below n)) (t : T (antichain_test n (r ∷ rs))) where
  first_unlike : (i : ℕ) → suc i < suc (length rs) → (Within r (get_or rs i nothing) → ⊥) × (Within (get_or rs i nothing) r → ⊥)
  first_unlike i h =
      unlike_at n r (get_or rs i nothing) (low 0 (omega arith)) (low (suc i) h)
      (each_row_at (unlike_below n r) rs (and_T (each_row (unlike_below n r) rs) (antichain_test n rs) t).0 i (le_of_suc-le-suc h))

pub antichain_tested : (n : ℕ) (rows : List Numbers) → EachRow rows (Below n) → T (antichain_test n rows) → Antichain rows
antichain_tested n [] low t i j hi hj w = absurd (not-suc-le-zero hi)
antichain_tested n (r ∷ rs) low t zero zero hi hj w = refl
antichain_tested n (r ∷ rs) low t zero (suc j) hi hj w = absurd ((first_unlike n r rs low t j hj).0 w)
antichain_tested n (r ∷ rs) low t (suc i) zero hi hj w = absurd ((first_unlike n r rs low t i hi).1 w)
antichain_tested n (r ∷ rs) low t (suc i) (suc j) hi hj w =
    ap suc (antichain_tested n rs (λ k h. low (suc k) (omega arith)) (and_T (each_row (unlike_below n r) rs) (antichain_test n rs) t).1 i j (le_of_suc-le-suc hi) (le_of_suc-le-suc hj) w)
