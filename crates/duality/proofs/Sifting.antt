-- The rows that may be left, before and after some are dropped.
use Rattle.std.proofs.Common.{◌≡◌, ℕ, suc, nat_lt, ◌+◌, ◌-◌, ◌<◌, ◌≤◌, Bool, true, false, cond, ◌||◌, List, [], ◌∷◌, ◌++◌, map, length, get_or, take, drop, filter, replicate, sym, refl, ap, ap₂, ◌∙◌, subst, arith}
use Rattle.std.specs.Prelude.{Option, Some, None, MatchOption}
use Rattle.std.specs.List.{All, count_by, sum_by, list_any}
use Rattle.std.specs.List.Sorted.{IsPermutation}
use Rattle.std.proofs.lemmas.Bool.{true≢false, lt-ltb}
use Rattle.std.proofs.lemmas.List.{length-map, length-replicate, take-map, get_or-take, map-append, length-append, length-drop, take_all, take-append-drop, length-take-le, take-take, take_at, take-append-le, drop_at, drop-take}
use Rattle.std.proofs.lemmas.List.Sums.{sum_by-cons, sum_by-append}
use Rattle.std.proofs.lemmas.List.Folds.{list_any-append}
use Rattle.std.proofs.lemmas.List.Sorted.{sum_by-IsPermutation, IsPermutation-append_comm, IsPermutation-append_left, IsPermutation-map, length_permutation}
use Rattle.std.proofs.lemmas.List.Elements.{All-replicate, filter_passes}
use Rattle.sets.specs.Sets.{Numbers, nothing}
use Rattle.systems.specs.Systems.{EachRow}
use Rattle.tables.specs.Memory.{meant}
use Rattle.tables.specs.declared.row.Row.{Row}
use Rattle.duality.specs.Shares.{Tallied, counted, having}
use Rattle.duality.specs.Remaining.{Alike, Stronger, any_row, AllPass, standing, left_masks, Counted, Fits, Sifted, Unmoved, kept}
use Rattle.duality.specs.declared.left.Left.{Left}
use Rattle.duality.proofs.RowFacts.{any_map}
use Rattle.duality.proofs.Tallies.{having_split, having_moved}

-- ---- lists in which the same rows pass
module _ {test : Numbers → Bool} where
  alike_itself : (xs : List Numbers) → Alike test xs xs
  alike_itself xs = record { alike = λ q s. refl }

  pub alike_then : {xs ys zs : List Numbers} → Alike test xs ys → Alike test ys zs → Alike test xs zs
  alike_then h k = record { alike = λ q s. h.alike q s ∙ k.alike q s }

  alike_moved : {xs ys : List Numbers} → IsPermutation xs ys → Alike test xs ys
  alike_moved {xs} {ys} h = record { alike = λ q s. sym (sum_by-IsPermutation (λ x. cond (q x) 1 0) xs ys h) }

  alike_append : {xs ys us vs : List Numbers} → Alike test xs ys → Alike test us vs → Alike test (xs ++ us) (ys ++ vs)
  alike_append {xs} {ys} {us} {vs} h k = record {
    alike = λ q s.
        let f : Numbers → ℕ = λ x. cond (q x) 1 0 in
        let a : sum_by f xs ≡ sum_by f ys = h.alike q s in
        let b : sum_by f us ≡ sum_by f vs = k.alike q s in
        sum_by-append f xs us ∙ ap (λ n. n + sum_by f us) a ∙ ap (λ n. sum_by f ys + n) b ∙ sym (sum_by-append f ys vs);
  }

  alike_filter : (xs : List Numbers) → Alike test xs (filter test xs)
  alike_filter xs = record { alike = λ q s. go q s xs } where
    kept : (q : Numbers → Bool) → Stronger q test → (x : Numbers) (xs : List Numbers) → (b : Bool) → test x ≡ b → count_by q (cond b (x ∷ xs) xs) ≡ cond (q x) 1 0 + count_by q xs
    kept q s x xs true e = sum_by-cons (λ y. cond (q y) 1 0) x xs
    kept q s x xs false e = no (q x) refl where
      no : (b : Bool) → q x ≡ b → count_by q xs ≡ cond b 1 0 + count_by q xs
      no true i = absurd (true≢false (sym (s x i) ∙ e))
      no false i = omega arith

    go : (q : Numbers → Bool) → Stronger q test → (xs : List Numbers) → count_by q xs ≡ count_by q (filter test xs)
    go q s [] = refl
    go q s (x ∷ xs) = sum_by-cons (λ y. cond (q y) 1 0) x xs ∙ ap (λ n. cond (q x) 1 0 + n) (go q s xs) ∙ sym (kept q s x (filter test xs) (test x) refl)

pub alike_under : {test other : Numbers → Bool} {xs ys : List Numbers} → Stronger other test → Alike test xs ys → Alike other xs ys
alike_under w h = record { alike = λ q s. h.alike q (λ r e. w r (s r e)) }

-- what passes among the masks in question and the rows that have none
pub any_standing : {M K : Type 0} (test : Numbers → Bool) (bits : M → Numbers) (mem : K → Numbers) (left : Left M K) (masks : List M) (behind : List (Row K)) → masks ≡ take left.count left.masks.now → behind ≡ left.behind.now
    → list_any test (standing bits mem left left.count) ≡ (list_any (λ x. test (meant mem x)) behind || list_any (λ m. test (bits m)) masks)
unfolding standing
any_standing test bits mem left masks behind e i =
    list_any-append test (map (meant mem) left.behind.now) (map bits (take left.count left.masks.now))
    ∙ ap (λ xs. list_any test (map (meant mem) xs) || list_any test (map bits (take left.count left.masks.now))) (sym i)
    ∙ ap (λ xs. list_any test (map (meant mem) behind) || list_any test (map bits xs)) (sym e)
    ∙ ap (λ b. b || list_any test (map bits masks)) (any_map test (meant mem) behind)
    ∙ ap (λ b. list_any (λ x. test (meant mem x)) behind || b) (any_map test bits masks)

-- at the start all rows stand
pub standing_all : {M K : Type 0} (bits : M → Numbers) (mem : K → Numbers) (left : Left M K) (first rows : List (Row K)) → rows ≡ first ++ left.behind.now → map bits left.masks.now ≡ map (meant mem) first → left.count ≡ length left.masks.now
    → Alike any_row (map (meant mem) rows) (standing bits mem left left.count)
unfolding standing
standing_all bits mem left first rows e i all =
    let behind = left.behind.now in
    let whole : map (meant mem) rows ≡ map (meant mem) first ++ map (meant mem) behind = ap (map (meant mem)) e ∙ map-append (meant mem) first behind in
    let taken : map bits (take left.count left.masks.now) ≡ map (meant mem) first = ap (map bits) (take_all left.count left.masks.now (omega (arith, all))) ∙ i in
    subst (λ ys. Alike any_row ys (map (meant mem) behind ++ map bits (take left.count left.masks.now))) (sym whole)
    (subst (λ ys. Alike any_row (map (meant mem) first ++ map (meant mem) behind) (map (meant mem) behind ++ ys)) (sym taken)
    (alike_moved (IsPermutation-append_comm (map (meant mem) first) (map (meant mem) behind))))

pub fits_all : {M K : Type 0} (bits : M → Numbers) (left : Left M K) (n : ℕ) → left.count ≡ n → length left.masks.now ≡ n → n ≤ 4096 → left.counts ≡ replicate 256 n → length left.planes.now ≡ 13 → left.tallied ≡ None → Fits bits left
fits_all bits left n count long few counts planes not_yet = record {
  most = omega (arith, long, few);
  inside = omega (arith, long, count);
  long = ap length counts ∙ length-replicate 256 n;
  kept = subst (All (λ c. c ≤ length left.masks.now)) (sym counts) (All-replicate (λ c. c ≤ length left.masks.now) 256 n (omega (arith, long)));
  planes = planes;
  counted = subst (λ o. MatchOption o (Unit {0}) (Counted bits left)) (sym not_yet) tt;
}

-- the same rows, with planes that are theirs
pub fits_tallied : {M K : Type 0} (bits : M → Numbers) (before after : Left M K) → Fits bits before → Unmoved before after → length after.planes.now ≡ 13 → after.tallied ≡ Some after.count → Tallied bits (left_masks bits before) after.planes.now → Fits bits after
unfolding left_masks
fits_tallied bits before after h u long now t = record {
  most = omega (arith, ap length u.masks, h.most);
  inside = omega (arith, ap length u.masks, u.count, h.inside);
  long = ap length u.counts ∙ h.long;
  kept = subst (λ masks. All (λ c. c ≤ length masks) after.counts) (sym u.masks) (subst (All (λ c. c ≤ length before.masks.now)) (sym u.counts) h.kept);
  planes = long;
  counted = subst (λ o. MatchOption o (Unit {0}) (Counted bits after)) (sym now) (record {
    enough = omega arith;
    inside = omega (arith, ap length u.masks, u.count, h.inside);
    planes = subst (λ masks. Tallied bits (map bits (take after.count masks)) after.planes.now) (sym u.masks) (subst (λ c. Tallied bits (map bits (take c before.masks.now)) after.planes.now) (sym u.count) t);
  });
}

-- the first masks are those that may be left and those that have dropped out since
pub less_dropped : {M K : Type 0} (bits : M → Numbers) (left : Left M K) (first : ℕ) (planes : List M) → Fits bits left → Counted bits left first
    → ((k : ℕ) → having (map bits (take (first - left.count) (drop left.count left.masks.now))) k ≤ counted bits left.planes.now k → counted bits planes k + having (map bits (take (first - left.count) (drop left.count left.masks.now))) k ≡ counted bits left.planes.now k)
    → Tallied bits (left_masks bits left) planes
unfolding left_masks
less_dropped bits left first planes h c less = record {
  each = λ k.
      let masks = left.masks.now in
      let n = left.count in
      let e : n + (first - n) ≡ first = omega (arith, c.enough) in
      let all = having_split bits k n (take first masks) in
      let stay = ap (λ l. having (map bits l) k) (take-take n first masks c.enough) in
      let dropped = ap (λ l. having (map bits l) k) (subst (λ m. drop n (take m masks) ≡ take (first - n) (drop n masks)) e (drop-take n (first - n) masks)) in
      omega (arith, c.planes.each k, all, stay, dropped, less k (omega (arith, c.planes.each k, all, dropped)));
}

-- planes count the rows, wherever they stand
pub tallied_moved : {M : Type 0} (bits : M → Numbers) (xs ys planes : List M) → IsPermutation xs ys → Tallied bits (map bits xs) planes → Tallied bits (map bits ys) planes
tallied_moved bits xs ys planes moved t = record { each = λ k. t.each k ∙ having_moved (map bits xs) (map bits ys) k (IsPermutation-map bits xs ys moved) }

pub counted_kept : {M K : Type 0} (bits : M → Numbers) (left : Left M K) (split : ℕ) (o : Option ℕ) → MatchOption o (Unit {0}) (Counted bits left) → MatchOption o (Unit {0}) (Counted bits (kept left split))
counted_kept bits left split None k = tt
counted_kept bits left split (Some first) k = record { enough = k.enough; inside = k.inside; planes = k.planes }

pub now_tallied : {M K : Type 0} (bits : M → Numbers) (left : Left M K) → Fits bits left → left.tallied ≡ Some left.count → Tallied bits (left_masks bits left) left.planes.now
unfolding left_masks
now_tallied bits left h now =
    let c : Counted bits left left.count = subst (λ o. MatchOption o (Unit {0}) (Counted bits left)) now h.counted in
    c.planes

pub same_masks : {M K : Type 0} (bits : M → Numbers) (before after : Left M K) → Unmoved before after → left_masks bits after ≡ left_masks bits before
unfolding left_masks
same_masks bits before after u = ap₂ {C = List Numbers} (λ c masks. map bits (take c masks)) u.count u.masks

pub many_masks : {M K : Type 0} (bits : M → Numbers) (left : Left M K) → Fits bits left → length (left_masks bits left) ≡ left.count
unfolding left_masks
many_masks bits left h = length-map (take left.count left.masks.now) bits ∙ length-take-le left.count left.masks.now h.inside

-- what holds of each row holds of each of the first
pub each_first : {X : Type 0} (f : X → Numbers) (P : Numbers → Type 0) (xs ys : List X) (n : ℕ) → ys ≡ take n xs → n ≤ length xs → EachRow (map f xs) P → EachRow (map f ys) P
each_first f P xs ys n e le h i lt =
    let l : i < n = omega (arith, length-map ys f, ap length e, length-take-le n xs le) in
    subst P (sym (ap (λ zs. get_or (map f zs) i nothing) e ∙ ap (λ zs. get_or zs i nothing) (sym (take-map f n xs)) ∙ get_or-take n (map f xs) i nothing l)) (h i (omega (arith, length-map xs f)))

-- ---- once the masks in the first places are moved, and fewer of them are kept
take_split : {X : Type 0} (k c : ℕ) (xs : List X) → k ≤ c → take c xs ≡ take k xs ++ take (c - k) (drop k xs)
take_split k c xs le =
    let e : k + (c - k) ≡ c = omega arith in
    sym (take-append-drop k (take c xs))
    ∙ ap (λ l. l ++ drop k (take c xs)) (take-take k c xs le)
    ∙ ap (λ l. take k xs ++ l) (subst (λ m. drop k (take m xs) ≡ take (c - k) (drop k xs)) e (drop-take k (c - k) xs))

map_filter : {X : Type 0} (f : X → Numbers) (test : Numbers → Bool) (xs : List X) → map f (filter (λ x. test (f x)) xs) ≡ filter test (map f xs)
map_filter f test [] = refl
map_filter f test (x ∷ xs) = go (map_filter f test xs) (test (f x)) where
  go : map f (filter (λ y. test (f y)) xs) ≡ filter test (map f xs) → (b : Bool) → map f (cond b (x ∷ filter (λ y. test (f y)) xs) (filter (λ y. test (f y)) xs)) ≡ cond b (f x ∷ filter test (map f xs)) (filter test (map f xs))
  go e true = ap (λ l. f x ∷ l) e
  go e false = e

module _ {X : Type 0} (masks : List X) (count : ℕ) (inside : count ≤ length masks) (front : List X) (moved : IsPermutation (take count masks) front) where
  many : length front ≡ count
  many = length_permutation (take count masks) front moved ∙ length-take-le count masks inside

  pub as_many : length (front ++ drop count masks) ≡ length masks
  as_many = omega (arith, length-append front (drop count masks), length-drop count masks, many, inside)

  moved_more : (c : ℕ) → count ≤ c → IsPermutation (take c masks) (front ++ take (c - count) (drop count masks))
  moved_more c le =
      subst (λ l. IsPermutation l (front ++ take (c - count) (drop count masks))) (sym (take_split count c masks le))
      (IsPermutation-append_left (take (c - count) (drop count masks)) (take count masks) front moved)

  taken : (c : ℕ) → count ≤ c → take c (front ++ drop count masks) ≡ front ++ take (c - count) (drop count masks)
  taken c le =
      let rest = drop count masks in
      take_split count c (front ++ rest) le
      ∙ ap (λ l. l ++ take (c - count) (drop count (front ++ rest))) (take_at front rest count many)
      ∙ ap (λ l. front ++ take (c - count) l) (drop_at front rest count many)

  pub moved_to : (c : ℕ) → count ≤ c → IsPermutation (take c masks) (take c (front ++ drop count masks))
  moved_to c le = subst (IsPermutation (take c masks)) (sym (taken c le)) (moved_more c le)

  module _ (stay : ℕ) (fewer : stay ≤ length (take count masks)) (bits : X → Numbers) (test : Numbers → Bool) (kept : take stay front ≡ filter (λ m. test (bits m)) (take count masks)) where
    pub passing : map bits (take stay (front ++ drop count masks)) ≡ filter test (map bits (take count masks))
    passing =
        ap (map bits) (take-append-le stay front (drop count masks) (omega (arith, length_permutation (take count masks) front moved)) ∙ kept)
        ∙ map_filter bits test (take count masks)

module _ {M K : Type 0} (bits : M → Numbers) (mem : K → Numbers) (before after : Left M K) (h : Fits bits before) (front : List M) (moved : IsPermutation (take before.count before.masks.now) front)
    (masks : after.masks.now ≡ front ++ drop before.count before.masks.now) (behind : after.behind ≡ before.behind) (counts : after.counts ≡ before.counts) (fewer : after.count ≤ length (take before.count before.masks.now))
    (planes : after.planes ≡ before.planes) (same : after.tallied ≡ before.tallied) where
  long : length after.masks.now ≡ length before.masks.now
  long = ap length masks ∙ as_many before.masks.now before.count h.inside front moved

  still_counted : (o : Option ℕ) → MatchOption o (Unit {0}) (Counted bits before) → MatchOption o (Unit {0}) (Counted bits after)
  still_counted None k = tt
  still_counted (Some first) k = record {
    enough = omega (arith, k.enough, fewer, length-take-le before.count before.masks.now h.inside);
    inside = omega (arith, long, k.inside);
    planes =
        subst (λ (p : List M). Tallied bits (map bits (take first after.masks.now)) p) (sym (ap (λ p. p.now) planes))
        (subst (λ (l : List M). Tallied bits (map bits (take first l)) before.planes.now) (sym masks)
        (tallied_moved bits (take first before.masks.now) (take first (front ++ drop before.count before.masks.now)) before.planes.now (moved_to before.masks.now before.count h.inside front moved first k.enough) k.planes));
  }

  pub fits_after : Fits bits after
  fits_after = record {
    most = omega (arith, long, h.most);
    inside = omega (arith, long, h.inside, length-take-le before.count before.masks.now h.inside);
    long = ap length counts ∙ h.long;
    kept = subst (λ n. All (λ c. c ≤ n) after.counts) (sym long) (subst (All (λ c. c ≤ length before.masks.now)) (sym counts) h.kept);
    planes = ap (λ p. length p.now) planes ∙ h.planes;
    counted = subst (λ o. MatchOption o (Unit {0}) (Counted bits after)) (sym same) (still_counted before.tallied h.counted);
  }

  pub sifted_after : (test : Numbers → Bool) → take after.count front ≡ filter (λ m. test (bits m)) (take before.count before.masks.now) → Sifted bits mem test before after
  unfolding standing left_masks
  sifted_after test kept = record {
    fits = fits_after;
    counts = counts;
    fewer = omega (arith, length-take-le before.count before.masks.now h.inside);
    others = λ c le.
        subst (λ l. Alike any_row (map (meant mem) before.behind.now ++ map bits (take c before.masks.now)) (map (meant mem) l ++ map bits (take c after.masks.now))) (ap (λ b. b.now) (sym behind))
        (alike_append (alike_itself (map (meant mem) before.behind.now))
        (subst (λ l. Alike any_row (map bits (take c before.masks.now)) (map bits (take c l))) (sym masks)
        (alike_moved (IsPermutation-map bits _ _ (moved_to before.masks.now before.count h.inside front moved c le)))));
    left =
        let p : map bits (take after.count after.masks.now) ≡ filter test (map bits (take before.count before.masks.now)) =
        ap (λ l. map bits (take after.count l)) masks ∙ passing before.masks.now before.count h.inside front moved after.count fewer bits test kept in
        subst (λ l. Alike test (map (meant mem) before.behind.now ++ map bits (take before.count before.masks.now)) (map (meant mem) l ++ map bits (take after.count after.masks.now))) (ap (λ b. b.now) (sym behind))
        (alike_append (alike_itself (map (meant mem) before.behind.now))
        (subst (Alike test (map bits (take before.count before.masks.now))) (sym p) (alike_filter (map bits (take before.count before.masks.now)))));
    only =
        let p : map bits (take after.count after.masks.now) ≡ filter test (map bits (take before.count before.masks.now)) =
        ap (λ l. map bits (take after.count l)) masks ∙ passing before.masks.now before.count h.inside front moved after.count fewer bits test kept in
        subst (AllPass test) (sym p) (filter_passes test (map bits (take before.count before.masks.now)));
    behind = behind;
  }

-- some row stays exactly where some row passes
pub any_filter : {X : Type 0} (p : X → Bool) (xs : List X) (n : ℕ) → n ≡ length (filter p xs) → nat_lt 0 n ≡ list_any p xs
any_filter p xs n e = ap (nat_lt 0) e ∙ go p xs where
  go : {X : Type 0} (p : X → Bool) (xs : List X) → nat_lt 0 (length (filter p xs)) ≡ list_any p xs
  go p [] = refl
  go p (x ∷ xs) = step (go p xs) (p x) where
    step : nat_lt 0 (length (filter p xs)) ≡ list_any p xs → (b : Bool) → nat_lt 0 (length (cond b (x ∷ filter p xs) (filter p xs))) ≡ (b || list_any p xs)
    step i true = lt-ltb 0 (suc (length (filter p xs))) (omega arith)
    step i false = i

pub or_true : (a b : Bool) → b ≡ true → (a || b) ≡ true
or_true true b e = refl
or_true false b e = e

pub or_false : (a b : Bool) → b ≡ false → (a || b) ≡ a
or_false true b e = refl
or_false false b e = e
