-- Laws of the list kind, over plain lists: what it can hold, and what the first n of xs list. They stand in specs since the laws of an `impl` can cite nothing in proofs/.
use Rattle.std.specs.Prelude.{◌≡◌, ℕ, ◌+◌, ◌<◌, ◌≤◌, true, false, T, List, length, take, Decides, ◌==◌, nat_eq, slice_index, refl}
use Rattle.std.proofs.Common.{sym, ap, subst, ◌∙◌, inl, inr, arith}
use Rattle.std.proofs.Math.Dec.{eqb_refl}
use Rattle.std.proofs.lemmas.List.{length-take, length-take-le, get_or-take}
use Rattle.std.proofs.lemmas.Bool.{cases_eq, cases_lt, eq-eqb, ne_eqb, false≢true}
use Rattle.sets.specs.Sets.{Numbers, nothing, with, without, Within, Apart, Same, count, listed}
use Rattle.sets.specs.Rising.{rising, put, cut, Sixteen}
use Rattle.sets.specs.Truth.{holds_true, true_holds, fails_false, T_or_left}
use Rattle.sets.specs.Counts.{count_none, count_mono, count_with}
use Rattle.sets.specs.Listing.{listed_bounds, count_listed, listed_at, listed_place, rising_places, listed_put, rising_put, listed_cut, rising_cut}

pub held_none : Sixteen nothing
held_none = (λ k t. absurd t, omega (arith, count_none 256))

pub held_less : (s t : Numbers) → Sixteen s → Within t s → Sixteen t
held_less s t h w = (λ k m. h.0 k (w k m), omega (arith, count_mono t s 256 w, h.1))

pub held_list : (n : ℕ) (xs : List ℕ) → n ≤ 16 → T (rising 0 (take n xs)) → Sixteen (listed (take n xs))
held_list n xs h r =
    (λ k m. (listed_bounds 0 (take n xs) k r m).1, omega (arith, count_listed 0 (take n xs) r, length-take n xs))

-- k is past the ceiling, or the list is full and k is new
pub held_not_high : (s : Numbers) (k : ℕ) → 256 ≤ k → Sixteen (with s k) → ⊥
held_not_high s k h u = let l : k < 256 = u.0 k (T_or_left (k == k) (s k) (eqb_refl k)) in omega arith

pub held_not_full : (s : Numbers) (k : ℕ) → k < 256 → s k ≡ false → 16 ≤ count s 256 → Sixteen (with s k) → ⊥
held_not_full s k l e f u = omega (arith, u.1, count_with s 256 k l e)

module _ (n : ℕ) (xs : List ℕ) (fits : n ≤ length xs) where
  pub size_list : T (rising 0 (take n xs)) → n ≡ count (listed (take n xs)) 256
  size_list r = sym (count_listed 0 (take n xs) r ∙ length-take-le n xs fits)

  pub at_list : (i : ℕ) → i < n → T (listed (take n xs) (slice_index xs i))
  at_list i h =
      subst (λ x. T (listed (take n xs) x)) (get_or-take n xs i 0 h) (listed_at (take n xs) i 0 (omega (arith, length-take-le n xs fits)))

  pub place_list : (k : ℕ) → T (listed (take n xs) k) → (i : ℕ) × (i < n) × (slice_index xs i ≡ k)
  place_list k m =
      let p = listed_place (take n xs) k 0 m in
      let l : p.0 < n = omega (arith, p.1, length-take-le n xs fits) in
      (p.0, l, sym (get_or-take n xs p.0 0 l) ∙ p.2)

  rises_list : T (rising 0 (take n xs)) → (i j : ℕ) → i ≤ j → j < n → slice_index xs i ≤ slice_index xs j
  rises_list r i j h l =
      let e = rising_places 0 (take n xs) r i j 0 h (omega (arith, length-take-le n xs fits)) in
      let a = get_or-take n xs i 0 (omega arith) in
      let b = get_or-take n xs j 0 l in
      omega arith

  -- no element from k on
  pub none_list : (k : ℕ) → ((j : ℕ) → j < n → slice_index xs j < k) → (m : ℕ) → k ≤ m → T (listed (take n xs) m) → ⊥
  none_list k b m h t = let p = place_list m t in omega (arith, b p.0 p.1, p.2)

  -- i is the place of the first element that is k or more
  module _ (k i : ℕ) (r : T (rising 0 (take n xs))) (low : (j : ℕ) → j < i → slice_index xs j < k) (l : i < n) (here : k ≤ slice_index xs i) where
    pub gap_list : (m : ℕ) → k ≤ m → m < slice_index xs i → T (listed (take n xs) m) → ⊥
    gap_list m a b t =
        let p = place_list m t in
        elim (cases_lt p.0 i) [
          | inl c ↦ omega (arith, low p.0 c, p.2)
          | inr c ↦ omega (arith, rises_list r i p.0 c p.1, p.2)
        ]

    pub member_list : nat_eq (slice_index xs i) k ≡ listed (take n xs) k
    member_list =
        elim (cases_eq (slice_index xs i) k) [
          | inl e ↦ eq-eqb (slice_index xs i) k e ∙ sym (holds_true (listed (take n xs) k) (subst (λ x. T (listed (take n xs) x)) e (at_list i l)))
          | inr e ↦ ne_eqb (slice_index xs i) k e ∙ sym (fails_false (listed (take n xs) k) (gap_list k (omega arith) (omega arith)))
        ]

-- what a loop over the first n found of another set
module _ (n : ℕ) (xs : List ℕ) (fits : n ≤ length xs) (t : Numbers) where
  pub within_yes : ((j : ℕ) → j < n → T (t (slice_index xs j))) → Within (listed (take n xs)) t
  within_yes h k m = let p = place_list n xs fits k m in subst (λ x. T (t x)) p.2 (h p.0 p.1)

  pub within_no : (i : ℕ) → i < n → t (slice_index xs i) ≡ false → Within (listed (take n xs)) t → ⊥
  within_no i l e w = subst T e (w (slice_index xs i) (at_list n xs fits i l))

  pub apart_yes : ((j : ℕ) → j < n → T (t (slice_index xs j)) → ⊥) → Apart (listed (take n xs)) t
  apart_yes h k m o = let p = place_list n xs fits k m in h p.0 p.1 (subst (λ x. T (t x)) (sym p.2) o)

  pub apart_no : (i : ℕ) → i < n → t (slice_index xs i) ≡ true → Apart (listed (take n xs)) t → ⊥
  apart_no i l e w = w (slice_index xs i) (at_list n xs fits i l) (true_holds (t (slice_index xs i)) e)

pub decided_yes : {P : Type 0} → P → Decides true P
decided_yes p = (λ e. p, λ q. refl)

pub decided_no : {P : Type 0} → (P → ⊥) → Decides false P
decided_no n = (λ e. absurd (false≢true e), λ q. absurd (n q))

-- with one number more
pub put_list : (n : ℕ) (xs ys : List ℕ) (k : ℕ) → take (n + 1) ys ≡ put k (take n xs) → Same (listed (take (n + 1) ys)) (with (listed (take n xs)) k)
put_list n xs ys k e j = ap (λ l. listed l j) e ∙ listed_put k (take n xs) j

pub put_rising : (n : ℕ) (xs ys : List ℕ) (k : ℕ) → take (n + 1) ys ≡ put k (take n xs) → T (rising 0 (take n xs)) → k < 256 → listed (take n xs) k ≡ false → T (rising 0 (take (n + 1) ys))
put_rising n xs ys k e r l m = subst (λ z. T (rising 0 z)) (sym e) (rising_put 0 k (take n xs) r (omega arith) l m)

-- with one number less
pub cut_list : (n m : ℕ) (xs ys : List ℕ) (k : ℕ) → take m ys ≡ cut k (take n xs) → Same (listed (take m ys)) (without (listed (take n xs)) k)
cut_list n m xs ys k e j = ap (λ l. listed l j) e ∙ listed_cut k (take n xs) j

pub cut_rising : (n m : ℕ) (xs ys : List ℕ) (k : ℕ) → take m ys ≡ cut k (take n xs) → T (rising 0 (take n xs)) → T (rising 0 (take m ys))
cut_rising n m xs ys k e r = subst (λ z. T (rising 0 z)) (sym e) (rising_cut 0 k (take n xs) r)
