-- What the methods of the list kind owe, over a plain rising list.
use Rattle.std.proofs.Common.{◌≡◌, ℕ, zero, suc, ◌+◌, ◌<◌, ◌≤◌, false, not, ◌&&◌, ◌||◌, ◌==◌, eqb, ◌≢◌, T, List, [], ◌∷◌, ◌++◌, length, get_or, set, take, drop, ◌-◌, Option, None, Some, MatchOption, Result, Ok, Err, MatchResult, Decides, sym, subst, inl, inr, ap, ap₂, ◌∙◌, add-one, refl, arith, eqb→eq, nat_le, T_not}
use Rattle.std.specs.List.{AllWithin, list_any, list_all, find, insert, remove}
use Rattle.std.specs.List.Sorted.{IsBinarySearchResult}
use Rattle.std.specs.Ordering.{nat_cmp}
use Rattle.std.specs.Option.{option_eq}
use Rattle.std.specs.Result.{is_ok, OkIff}
use borrow.Rule.Slice.PartMut.{put_mid, mid_of, post_of}
use Rattle.std.proofs.lemmas.List.{append_assoc, length-append, length-set, length-drop, length-take-le, length_push, take_at, take-take, take-set-le, take_more_set, drop_at, drop-append-le, drop-drop, drop-take}
use Rattle.std.proofs.lemmas.Slice.{take-put_mid}
use Rattle.std.proofs.Math.Dec.{eqb_refl, not_T}
use Rattle.std.proofs.lemmas.Bool.{cond_both, leb-true, leb-false, cases_lt, cases_order, cases_eq, eq-eqb, ne_eqb, true≢false}
use Rattle.std.proofs.lemmas.Result.{MatchResult-at_ok, MatchResult-at_err}
use Rattle.std.proofs.lemmas.List.Sorted.{searched}
use Rattle.std.proofs.lemmas.Bool.Decides.{Decides-like, Decides-at, nat_tests}
use Rattle.sets.specs.Sets.{Numbers, with, without, Within, Apart, Same, listed, Lowest, NoneFrom}
use Rattle.sets.specs.Rising.{rising}
use Rattle.sets.specs.Truth.{holds_true, true_holds, fails_false, and_T, T_and, or_T, T_or_left, T_or_right}
use Rattle.sets.specs.Listing.{rising_cons, rising_parts, rising_from, rising_new, listed_bounds, listed_at, listed_place, rising_places}

-- ---- searches

all_within : (xs : List ℕ) (t : Numbers) → T (list_all t xs) → Within (listed xs) t
all_within [] t h k m = absurd m
all_within (x ∷ xs) t h k m =
    let p = and_T (t x) (list_all t xs) h in
    elim (or_T (k == x) (listed xs k) m) [
      | inl e ↦ subst (λ z. T (t z)) (sym (eqb→eq k x e)) p.0
      | inr r ↦ all_within xs t p.1 k r
    ]

within_all : (xs : List ℕ) (t : Numbers) → Within (listed xs) t → T (list_all t xs)
within_all [] t w = tt
within_all (x ∷ xs) t w =
    T_and (t x) (list_all t xs) (w x (T_or_left (x == x) (listed xs x) (eqb_refl x))) (within_all xs t (λ k m. w k (T_or_right (k == x) (listed xs k) m)))

pub decides_all : (xs : List ℕ) (t : Numbers) → Decides (list_all t xs) (Within (listed xs) t)
decides_all xs t = (λ e. all_within xs t (true_holds (list_all t xs) e), λ w. holds_true (list_all t xs) (within_all xs t w))

none_passes : (t : Numbers) (xs : List ℕ) → not (list_any t xs) ≡ list_all (λ x. not (t x)) xs
none_passes t [] = refl
none_passes t (x ∷ xs) = let ih = none_passes t xs in grind arith

pub decides_none : (xs : List ℕ) (t : Numbers) → Decides (not (list_any t xs)) (Apart (listed xs) t)
decides_none xs t =
    Decides-at (not (list_any t xs)) (list_all (λ x. not (t x)) xs) (none_passes t xs)
    (Decides-like (list_all (λ x. not (t x)) xs) (λ w k m. T_not (t k) (w k m)) (λ a k m. not_T (t k) (a k m)) (decides_all xs (λ x. not (t x))))

-- ---- the first element at or above k

past_head : (x k : ℕ) (xs : List ℕ) → x < k → (o : Option ℕ) → MatchOption o (NoneFrom (listed xs) k) (Lowest (listed xs) k) → MatchOption o (NoneFrom (listed (x ∷ xs)) k) (Lowest (listed (x ∷ xs)) k)
past_head x k xs h None n =
    λ j a m. elim (or_T (j == x) (listed xs j) m) [ inl e ↦ let q : j ≡ x = eqb→eq j x e in omega arith | inr r ↦ n j a r ]
past_head x k xs h (Some m) l = record {
  member = T_or_right (m == x) (listed xs m) l.member;
  above = l.above;
  first = λ j a b t. elim (or_T (j == x) (listed xs j) t) [ inl e ↦ let q : j ≡ x = eqb→eq j x e in omega arith | inr r ↦ l.first j a b r ];
}

pub lowest_found : (lo k : ℕ) (xs : List ℕ) → T (rising lo xs) → MatchOption (find (λ x. nat_le k x) xs) (NoneFrom (listed xs) k) (Lowest (listed xs) k)
lowest_found lo k [] t = λ j a m. m
lowest_found lo k (x ∷ xs) t =
    let p = rising_parts lo x xs t in
    cond_both (nat_le k x) (Some x) (find (λ x. nat_le k x) xs) (λ o. MatchOption o (NoneFrom (listed (x ∷ xs)) k) (Lowest (listed (x ∷ xs)) k))
    (λ e. record {
      member = T_or_left (x == x) (listed xs x) (eqb_refl x);
      above = leb-true k x e;
      first = λ j a b m.
          elim (or_T (j == x) (listed xs j) m) [
            | inl q ↦ let same : j ≡ x = eqb→eq j x q in omega arith
            | inr r ↦ omega (arith, listed_bounds (suc x) xs j p.2 r)
          ];
    })
    (λ e. past_head x k xs (leb-false k x e) (find (λ x. nat_le k x) xs) (lowest_found (suc x) k xs p.2))

-- a member is its own first
pub own_first : (s : Numbers) (k : ℕ) (o : Option ℕ) → MatchOption o (NoneFrom s k) (Lowest s k) → option_eq eqb o (Some k) ≡ s k
own_first s k None n = sym (fails_false (s k) (n k (omega arith)))
own_first s k (Some m) l =
    elim (cases_order m k) [
      | inl e ↦ eq-eqb m k e ∙ sym (holds_true (s k) (subst (λ x. T (s x)) e l.member))
      | inr r ↦ elim r [
        | inl c ↦ absurd (omega (arith, l.above))
        | inr c ↦ ne_eqb m k (λ e. omega arith) ∙ sym (fails_false (s k) (l.first k (omega arith) c))
      ]
    ]

-- ---- one element more, and one less

-- with a member, and without a number that is none, a set stays as it is
pub with_member : (s : Numbers) (k : ℕ) → T (s k) → Same s (with s k)
with_member s k m j =
    elim (cases_eq j k) [
      | inl e ↦ holds_true (s j) (subst (λ x. T (s x)) (sym e) m) ∙ sym (ap (λ b. b || s j) (eq-eqb j k e))
      | inr n ↦ sym (ap (λ b. b || s j) (ne_eqb j k n))
    ]

pub without_other : (s : Numbers) (k : ℕ) → s k ≡ false → Same s (without s k)
without_other s k n j =
    elim (cases_eq j k) [
      | inl e ↦ ap s e ∙ n ∙ sym (ap (λ b. not b && s j) (eq-eqb j k e))
      | inr d ↦ sym (ap (λ b. not b && s j) (ne_eqb j k d))
    ]

inserted : (xs : List ℕ) (i k : ℕ) → Same (listed (insert xs i k)) (with (listed xs) k)
inserted xs zero k j = refl
inserted [] (suc i) k j = refl
inserted (x ∷ xs) (suc i) k j = let ih = inserted xs i k j in grind arith

-- i is the place of k among the elements
pub record PlaceOf (k : ℕ) (xs : List ℕ) (i : ℕ) : Type 0 where
  pub fits : i ≤ length xs
  pub below : (j : ℕ) → j < i → get_or xs j 0 < k
  pub above : (j : ℕ) → i ≤ j → j < length xs → k < get_or xs j 0

place_after : (k x : ℕ) (xs : List ℕ) (i : ℕ) → PlaceOf k (x ∷ xs) (suc i) → PlaceOf k xs i
place_after k x xs i p = record {
  fits = omega (arith, p.fits);
  below = λ j h. p.below (suc j) (omega arith);
  above = λ j h l. p.above (suc j) (omega arith) (omega arith);
}

rising_insert : (lo : ℕ) (xs : List ℕ) (i k : ℕ) → T (rising lo xs) → PlaceOf k xs i → lo ≤ k → k < 256 → T (rising lo (insert xs i k))
rising_insert lo [] zero k t p h l = rising_cons lo k [] h l tt
rising_insert lo [] (suc i) k t p h l = rising_cons lo k [] h l tt
rising_insert lo (x ∷ xs) zero k t p h l =
    let q = rising_parts lo x xs t in
    rising_cons lo k (x ∷ xs) h l (rising_cons (suc k) x xs (omega (arith, p.above 0 (omega arith) (omega arith))) q.1 q.2)
rising_insert lo (x ∷ xs) (suc i) k t p h l =
    let q = rising_parts lo x xs t in
    rising_cons lo x (insert xs i k) q.0 q.1 (rising_insert (suc x) xs i k q.2 (place_after k x xs i p) (omega (arith, p.below 0 (omega arith))) l)

-- what has a place among the elements is none of them
place_new : (xs : List ℕ) (i k : ℕ) → PlaceOf k xs i → listed xs k ≡ false
place_new xs i k p =
    fails_false (listed xs k)
    (λ m.
    let q = listed_place xs k 0 m in
    elim (cases_lt q.0 i) [ inl h ↦ omega (arith, p.below q.0 h, q.2) | inr h ↦ omega (arith, p.above q.0 h q.1, q.2) ])

place_found : (xs zs : List ℕ) (k i : ℕ) (r : Result ℕ ℕ) → T (rising 0 xs) → zs ≡ xs → IsBinarySearchResult (λ y. nat_cmp y k) zs r → r ≡ Err i → PlaceOf k xs i
place_found xs zs k i r t e s is =
    let p = MatchResult-at_err _ _ i is (searched xs k r (subst (λ l. IsBinarySearchResult (λ y. nat_cmp y k) l r) e s) (λ a b h l. rising_places 0 xs t a b 0 h l)) in
    record { fits = p.0; below = p.1; above = p.2 }

pub member_found : (xs zs : List ℕ) (k i : ℕ) (r : Result ℕ ℕ) → T (rising 0 xs) → zs ≡ xs → IsBinarySearchResult (λ y. nat_cmp y k) zs r → r ≡ Ok i → T (listed xs k)
member_found xs zs k i r t e s is =
    let p = MatchResult-at_ok _ _ i is (searched xs k r (subst (λ l. IsBinarySearchResult (λ y. nat_cmp y k) l r) e s) (λ a b h l. rising_places 0 xs t a b 0 h l)) in
    subst (λ x. T (listed xs x)) p.1 (listed_at xs i 0 p.0)

-- the number n that `u8::try_from` gave of k
pub converted : {E D : Type 0} (Q : E → Type 0) (t : Result ℕ E) {k n : ℕ} {m : Result ℕ D} → m ≡ Ok n → OkIff t (k < 256) k → is_ok m ≡ is_ok t → MatchResult t (λ x. m ≡ Ok x) Q → (n ≡ k) × (k < 256)
converted Q (Ok x) w o s e = (cc, o.0)
converted Q (Err e) w o s f = absurd (true≢false (ap is_ok (sym w) ∙ s))

-- that number is k, and no element: its place is i
pub record NewAt (n k : ℕ) (xs : List ℕ) (i : ℕ) : Type 0 where
  pub is : n ≡ k
  pub low : k < 256
  pub place : PlaceOf n xs i
  pub new : listed xs k ≡ false

-- what the conversion and a binary search that fails tell
pub new_at : {E D : Type 0} (Q : E → Type 0) (t : Result ℕ E) {k n i : ℕ} {m : Result ℕ D} {xs zs : List ℕ} {r : Result ℕ ℕ} → m ≡ Ok n → OkIff t (k < 256) k → is_ok m ≡ is_ok t → MatchResult t (λ x. m ≡ Ok x) Q → T (rising 0 xs) → zs ≡ xs → IsBinarySearchResult (λ y. nat_cmp y n) zs r → r ≡ Err i → NewAt n k xs i
new_at Q t {k} {n} {i} {m} {xs} {zs} {r} w o s e up z f at =
    let c = converted Q t w o s e in
    let p = place_found xs zs n i r up z f at in
    record { is = c.0; low = c.1; place = p; new = subst (λ j. listed xs j ≡ false) c.0 (place_new xs i n p) }

pub none_equal : (xs : List ℕ) (k : ℕ) → AllWithin (λ x. x ≢ k) xs 0 (length xs) → listed xs k ≡ false
none_equal xs k n = fails_false (listed xs k) (λ m. let q = listed_place xs k 0 m in n q.0 0 (omega arith) q.1 q.2)

removed : (lo : ℕ) (xs : List ℕ) (i : ℕ) → T (rising lo xs) → i < length xs → Same (listed (remove xs i)) (without (listed xs) (get_or xs i 0))
removed lo [] i t h j = absurd (omega arith)
removed lo (x ∷ xs) zero t h j =
    let out = rising_new x xs (rising_parts lo x xs t).2 in grind (arith, nat_tests)
removed lo (x ∷ xs) (suc i) t h j =
    let p = rising_parts lo x xs t in
    let ih = removed (suc x) xs i p.2 (omega arith) j in
    let up = listed_bounds (suc x) xs (get_or xs i 0) p.2 (listed_at xs i 0 (omega arith)) in
    grind (arith, nat_tests)

rising_remove : (lo : ℕ) (xs : List ℕ) (i : ℕ) → T (rising lo xs) → i < length xs → T (rising lo (remove xs i))
rising_remove lo [] i t h = absurd (omega arith)
rising_remove lo (x ∷ xs) zero t h = let p = rising_parts lo x xs t in rising_from (suc x) lo xs (omega arith) p.2
rising_remove lo (x ∷ xs) (suc i) t h =
    let p = rising_parts lo x xs t in rising_cons lo x (remove xs i) p.0 p.1 (rising_remove (suc x) xs i p.2 (omega arith))

-- ---- a part turned by one

-- k put behind the first n, and turned to the place i
turned_right : (n : ℕ) (xs ys : List ℕ) (i k : ℕ) → n < length xs → i ≤ n → let mid = mid_of i (n + 1 - i) (set xs n k) in ys ≡ drop (length mid - 1) mid ++ take (length mid - 1) mid → take (n + 1) (put_mid i (n + 1 - i) (set xs n k) ys) ≡ insert (take n xs) i k
turned_right n xs ys i k h l e =
    let mid = mid_of i (n + 1 - i) (set xs n k) in
    let size : length (take n xs) ≡ n = length-take-le n xs (omega arith) in
    let rest : length (drop i (take n xs)) ≡ n - i = length-drop i (take n xs) ∙ ap (λ (m : ℕ). m - i) size in
    let is : mid ≡ drop i (take n xs) ++ k ∷ [] =
    sym (drop-take i (n + 1 - i) (set xs n k)) ∙ ap (λ m. drop i (take m (set xs n k))) (omega arith)
    ∙ ap (drop i) (take_more_set xs n k h) ∙ drop-append-le i (take n xs) (k ∷ []) (omega arith) in
    let long : length mid - 1 ≡ n - i = omega (arith, ap length is, length_push (drop i (take n xs)) k) in
    let now : ys ≡ k ∷ drop i (take n xs) =
    e ∙ ap₂ (λ m l. drop m l ++ take m l) long is
    ∙ ap₂ (λ a b. a ++ b) (drop_at (drop i (take n xs)) (k ∷ []) (n - i) rest) (take_at (drop i (take n xs)) (k ∷ []) (n - i) rest) in
    take-put_mid i (n + 1 - i) (set xs n k) ys (n + 1) (omega (arith, ap length now)) (omega (arith, length-set xs n k))
    ∙ ap₂ (λ a b. a ++ b) (take-set-le i xs n k l ∙ sym (take-take i n xs l)) now

-- so the result rises, and lists k and the first n
pub put_in : (n : ℕ) (xs ys : List ℕ) (i : ℕ) {m k : ℕ} → n < length xs → T (rising 0 (take n xs)) → NewAt m k (take n xs) i → let mid = mid_of i (n + 1 - i) (set xs n m) in ys ≡ drop (length mid - 1) mid ++ take (length mid - 1) mid → let zs = take (n + 1) (put_mid i (n + 1 - i) (set xs n m) ys) in T (rising 0 zs) × Same (listed zs) (with (listed (take n xs)) k)
put_in n xs ys i {m} {k} h up p e =
    let is = turned_right n xs ys i m h (omega (arith, p.place.fits, length-take-le n xs (omega arith))) e in (
      subst (λ l. T (rising 0 l)) (sym is) (rising_insert 0 (take n xs) i m up p.place (omega arith) (omega (arith, p.is, p.low))),
      λ j. ap (λ l. listed l j) is ∙ inserted (take n xs) i m j ∙ ap (λ z. with (listed (take n xs)) z j) p.is,
    )

-- the element at i of the first n turned behind them
turned_left : (n : ℕ) (xs ys : List ℕ) (i : ℕ) → n ≤ length xs → i < n → let mid = mid_of i (n - i) xs in ys ≡ drop 1 mid ++ take 1 mid → take (n - 1) (put_mid i (n - i) xs ys) ≡ remove (take n xs) i
turned_left n xs ys i h l e =
    let mid = mid_of i (n - i) xs in
    let is : mid ≡ drop i (take n xs) = sym (drop-take i (n - i) xs) ∙ ap (λ m. drop i (take m xs)) (omega arith) in
    let rest : drop 1 mid ≡ drop (suc i) (take n xs) = ap (drop 1) is ∙ drop-drop 1 i (take n xs) ∙ ap (λ m. drop m (take n xs)) (add-one i) in
    let front : take i xs ≡ take i (take n xs) = sym (take-take i n xs (omega arith)) in
    let size : length (take i (take n xs) ++ drop (suc i) (take n xs)) ≡ n - 1 =
    omega (arith, length-append (take i (take n xs)) (drop (suc i) (take n xs)), length-take-le i (take n xs) (omega (arith, length-take-le n xs h)), length-drop (suc i) (take n xs), length-take-le n xs h) in
    ap (take (n - 1))
    (ap₂ (λ a b. a ++ (b ++ post_of i (n - i) xs)) front (e ∙ ap (λ a. a ++ take 1 mid) rest)
    ∙ sym (append_assoc (take i (take n xs)) (drop (suc i) (take n xs) ++ take 1 mid) (post_of i (n - i) xs))
    ∙ ap (λ a. a ++ post_of i (n - i) xs) (sym (append_assoc (take i (take n xs)) (drop (suc i) (take n xs)) (take 1 mid)))
    ∙ append_assoc (take i (take n xs) ++ drop (suc i) (take n xs)) (take 1 mid) (post_of i (n - i) xs))
    ∙ take_at (take i (take n xs) ++ drop (suc i) (take n xs)) (take 1 mid ++ post_of i (n - i) xs) (n - 1) size

-- so the result rises, and lists the first n without that element
pub taken_out : (n : ℕ) (xs ys : List ℕ) (i : ℕ) → n ≤ length xs → T (rising 0 (take n xs)) → i < n → let mid = mid_of i (n - i) xs in ys ≡ drop 1 mid ++ take 1 mid → let zs = take (n - 1) (put_mid i (n - i) xs ys) in T (rising 0 zs) × Same (listed zs) (without (listed (take n xs)) (get_or (take n xs) i 0))
taken_out n xs ys i h up l e =
    let is = turned_left n xs ys i h l e in
    let inside : i < length (take n xs) = omega (arith, length-take-le n xs h) in (
      subst (λ l. T (rising 0 l)) (sym is) (rising_remove 0 (take n xs) i up inside),
      λ j. ap (λ l. listed l j) is ∙ removed 0 (take n xs) i up inside j,
    )

-- ---- what is left of the elements from i on

-- the element at i is one of them, and the rest are the others
left_on : (lo : ℕ) (xs : List ℕ) (i : ℕ) → T (rising lo xs) → i < length xs → T (listed (drop i xs) (get_or xs i 0)) × Same (listed (drop (suc i) xs)) (without (listed (drop i xs)) (get_or xs i 0))
left_on lo [] i t h = absurd (omega arith)
left_on lo (x ∷ xs) zero t h =
    (T_or_left (x == x) (listed xs x) (eqb_refl x), λ j. let out = rising_new x xs (rising_parts lo x xs t).2 in grind (arith, nat_tests))
left_on lo (x ∷ xs) (suc i) t h = left_on (suc x) xs i (rising_parts lo x xs t).2 (omega arith)

-- the same of the slice of them, ys, whose element there was read as k
pub left_at : (xs ys : List ℕ) (i k : ℕ) → T (rising 0 xs) → ys ≡ xs → i < length ys → k ≡ get_or ys i 0 → T (listed (drop i xs) k) × Same (listed (drop (i + 1) xs)) (without (listed (drop i xs)) k)
left_at xs ys i k t e h r =
    let p = left_on 0 xs i t (omega (arith, ap length e)) in
    let is : get_or xs i 0 ≡ k = ap (λ l. get_or l i 0) (sym e) ∙ sym r in
    subst (λ z. T (listed (drop i xs) z) × Same (listed (drop (i + 1) xs)) (without (listed (drop i xs)) z)) is (rw add-one p)
