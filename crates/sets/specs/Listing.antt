-- Laws of `listed` and `rising`. They stand in specs since the laws of an `impl` can cite nothing in proofs/.
use Rattle.std.specs.Prelude.{◌≡◌, ℕ, zero, suc, ◌<◌, ◌≤◌, Bool, true, false, not, ◌&&◌, ◌||◌, T, List, [], ◌∷◌, length, ◌==◌, nat_le, nat_lt, slice_index_or, refl}
use Rattle.std.proofs.Common.{sym, ap, subst, ◌∙◌, inl, inr, arith, add-one, leb→le, le→leb, ltb→lt, lt→ltb, eqb→eq}
use Rattle.std.proofs.Math.Dec.{eqb_refl}
use Rattle.std.proofs.lemmas.Bool.{cases_Bool, cond_both, ltb-true, ltb-false}
use Rattle.std.proofs.lemmas.Bool.Decides.{nat_tests}
use Rattle.sets.specs.Sets.{with, without, count, listed}
use Rattle.sets.specs.Rising.{rising, put, differs, cut}
use Rattle.sets.specs.Truth.{and_T, T_and, or_T, T_or_left, T_or_right, fails_false}
use Rattle.sets.specs.Counts.{count_none, count_with}

-- ---- `rising`, taken apart and made

pub rising_cons : (lo x : ℕ) (xs : List ℕ) → lo ≤ x → x < 256 → T (rising (suc x) xs) → T (rising lo (x ∷ xs))
rising_cons lo x xs h l r = T_and (nat_le lo x) (nat_lt x 256 && rising (suc x) xs) (le→leb lo x h) (T_and (nat_lt x 256) (rising (suc x) xs) (lt→ltb x 256 l) r)

pub rising_parts : (lo x : ℕ) (xs : List ℕ) → T (rising lo (x ∷ xs)) → (lo ≤ x) × (x < 256) × T (rising (suc x) xs)
rising_parts lo x xs t =
    let a = and_T (nat_le lo x) (nat_lt x 256 && rising (suc x) xs) t in
    let b = and_T (nat_lt x 256) (rising (suc x) xs) a.1 in
    (leb→le lo x a.0, ltb→lt x 256 b.0, b.1)

pub rising_from : (lo low : ℕ) (xs : List ℕ) → low ≤ lo → T (rising lo xs) → T (rising low xs)
rising_from lo low [] h t = tt
rising_from lo low (x ∷ xs) h t =
    let p = rising_parts lo x xs t in rising_cons low x xs (omega arith) p.1 p.2

pub listed_bounds : (lo : ℕ) (xs : List ℕ) (k : ℕ) → T (rising lo xs) → T (listed xs k) → (lo ≤ k) × (k < 256)
listed_bounds lo [] k t m = absurd m
listed_bounds lo (x ∷ xs) k t m =
    let p = rising_parts lo x xs t in
    elim (or_T (k == x) (listed xs k) m) [
      | inl e ↦ let q : k ≡ x = eqb→eq k x e in (omega arith, omega arith)
      | inr r ↦ let q = listed_bounds (suc x) xs k p.2 r in (omega arith, q.1)
    ]

-- a first element that is new
pub rising_new : (x : ℕ) (xs : List ℕ) → T (rising (suc x) xs) → listed xs x ≡ false
rising_new x xs t = fails_false (listed xs x) (λ m. let q = listed_bounds (suc x) xs x t m in omega arith)

-- a rising list has as many members as elements
pub count_listed : (lo : ℕ) (xs : List ℕ) → T (rising lo xs) → count (listed xs) 256 ≡ length xs
count_listed lo [] t = count_none 256
count_listed lo (x ∷ xs) t =
    let p = rising_parts lo x xs t in
    count_with (listed xs) 256 x p.1 (rising_new x xs p.2) ∙ add-one (count (listed xs) 256) ∙ ap suc (count_listed (suc x) xs p.2)

-- ---- by places

pub listed_at : (xs : List ℕ) (i d : ℕ) → i < length xs → T (listed xs (slice_index_or xs i d))
listed_at [] i d h = absurd (omega arith)
listed_at (x ∷ xs) zero d h = T_or_left (x == x) (listed xs x) (eqb_refl x)
listed_at (x ∷ xs) (suc i) d h = T_or_right (slice_index_or xs i d == x) (listed xs (slice_index_or xs i d)) (listed_at xs i d (omega arith))

pub listed_place : (xs : List ℕ) (k d : ℕ) → T (listed xs k) → (i : ℕ) × (i < length xs) × (slice_index_or xs i d ≡ k)
listed_place [] k d m = absurd m
listed_place (x ∷ xs) k d m =
    elim (or_T (k == x) (listed xs k) m) [
      | inl e ↦ (0, omega arith, sym (eqb→eq k x e))
      | inr r ↦ let q = listed_place xs k d r in (suc q.0, omega (arith, q.1), q.2)
    ]

pub rising_places : (lo : ℕ) (xs : List ℕ) → T (rising lo xs) → (i j d : ℕ) → i ≤ j → j < length xs → slice_index_or xs i d ≤ slice_index_or xs j d
rising_places lo [] t i j d h l = absurd (omega arith)
rising_places lo (x ∷ xs) t zero zero d h l = omega arith
rising_places lo (x ∷ xs) t zero (suc j) d h l =
    let p = rising_parts lo x xs t in
    let q = listed_bounds (suc x) xs (slice_index_or xs j d) p.2 (listed_at xs j d (omega arith)) in omega arith
rising_places lo (x ∷ xs) t (suc i) zero d h l = absurd (omega arith)
rising_places lo (x ∷ xs) t (suc i) (suc j) d h l = rising_places (suc x) xs (rising_parts lo x xs t).2 i j d (omega arith) (omega arith)

-- ---- `put`

or_rotate : (a b c : Bool) → (a || (b || c)) ≡ (b || (a || c))
or_rotate true true c = refl
or_rotate true false c = refl
or_rotate false b c = refl

pub listed_put : (k : ℕ) (xs : List ℕ) (j : ℕ) → listed (put k xs) j ≡ with (listed xs) k j
listed_put k [] j = refl
listed_put k (x ∷ xs) j =
    cond_both (nat_lt k x) (k ∷ put x xs) (x ∷ put k xs) (λ l. listed l j ≡ (j == k || (j == x || listed xs j)))
    (λ e. ap (λ b. (j == k) || b) (listed_put x xs j))
    (λ e. ap (λ b. (j == x) || b) (listed_put k xs j) ∙ or_rotate (j == x) (j == k) (listed xs j))

pub length_put : (k : ℕ) (xs : List ℕ) → length (put k xs) ≡ suc (length xs)
length_put k [] = refl
length_put k (x ∷ xs) =
    cond_both (nat_lt k x) (k ∷ put x xs) (x ∷ put k xs) (λ l. length l ≡ suc (suc (length xs)))
    (λ e. ap suc (length_put x xs)) (λ e. ap suc (length_put k xs))

pub rising_put : (lo k : ℕ) (xs : List ℕ) → T (rising lo xs) → lo ≤ k → k < 256 → listed xs k ≡ false → T (rising lo (put k xs))
rising_put lo k [] t h l n = rising_cons lo k [] h l tt
rising_put lo k (x ∷ xs) t h l n =
    let p = rising_parts lo x xs t in
    cond_both (nat_lt k x) (k ∷ put x xs) (x ∷ put k xs) (λ z. T (rising lo z))
    (λ e. rising_cons lo k (put x xs) h l
    (rising_put (suc k) x xs (rising_from (suc x) (suc k) xs (omega (arith, ltb-true k x e)) p.2) (ltb-true k x e) p.1 (rising_new x xs p.2)))
    (λ e.
    let le : x ≤ k = ltb-false k x e in
    let ne : k ≡ x → ⊥ = λ q. subst T n (T_or_left (k == x) (listed xs k) (subst (λ z. T (k == z)) q (eqb_refl k))) in
    let out : listed xs k ≡ false = fails_false (listed xs k) (λ m. subst T n (T_or_right (k == x) (listed xs k) m)) in
    rising_cons lo x (put k xs) p.0 p.1 (rising_put (suc x) k xs p.2 (omega arith) l out))

-- ---- `cut`

pub listed_cut : (k : ℕ) (xs : List ℕ) (j : ℕ) → listed (cut k xs) j ≡ without (listed xs) k j
listed_cut k [] j = elim (cases_Bool (j == k)) [ inl e ↦ rw e refl | inr e ↦ rw e refl ]
listed_cut k (x ∷ xs) j =
    cond_both (differs k x) (x ∷ cut k xs) (cut k xs) (λ l. listed l j ≡ (not (j == k) && (j == x || listed xs j)))
    (λ e. let ih = listed_cut k xs j in grind (arith, nat_tests))
    (λ e. let ih = listed_cut k xs j in grind (arith, nat_tests))

pub rising_cut : (lo k : ℕ) (xs : List ℕ) → T (rising lo xs) → T (rising lo (cut k xs))
rising_cut lo k [] t = tt
rising_cut lo k (x ∷ xs) t =
    let p = rising_parts lo x xs t in
    cond_both (differs k x) (x ∷ cut k xs) (cut k xs) (λ l. T (rising lo l))
    (λ e. rising_cons lo x (cut k xs) p.0 p.1 (rising_cut (suc x) k xs p.2))
    (λ e. rising_from (suc x) lo (cut k xs) (omega arith) (rising_cut (suc x) k xs p.2))

pub length_cut : (k : ℕ) (xs : List ℕ) → length (cut k xs) ≤ length xs
length_cut k [] = omega arith
length_cut k (x ∷ xs) =
    cond_both (differs k x) (x ∷ cut k xs) (cut k xs) (λ l. length l ≤ suc (length xs))
    (λ e. omega (arith, length_cut k xs)) (λ e. omega (arith, length_cut k xs))
