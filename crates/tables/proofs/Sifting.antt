-- The loop that removes the rows which contain a new one.
use Rattle.std.proofs.Common.{◌≡◌, ℕ, suc, ◌-◌, ◌<◌, ◌≤◌, Bool, true, false, cond, not, List, [], ◌∷◌, ◌++◌, map, length, take, filter, sym, refl, ap, ◌∙◌, ⊎_elim, arith}
use mathlib.Core.Path.{fun_ext}
use borrow.Rule.Slice.PartMut.{put_mid, mid_of, post_of, same_len_mid}
use Rattle.std.specs.List.{AllWithin}
use Rattle.std.proofs.lemmas.List.{length-take-le, take_all, get_or_append_left, get_or-append_right}
use Rattle.std.proofs.lemmas.List.Edits.{length-between}
use Rattle.std.proofs.lemmas.List.Sums.{length-filter, count_by-le-length}
use Rattle.std.proofs.lemmas.Slice.{take-put_mid_below}
use Rattle.std.proofs.lemmas.List.Filters.{FiltersInPlace, FiltersInPlace-all}
use Rattle.std.proofs.lemmas.Bool.{cases_Bool, cond-true}
use Rattle.sets.specs.Sets.{Numbers, nothing, Within, Below, within_below}
use Rattle.sets.proofs.Deciding.{decides_within, within_same}
use Rattle.systems.specs.Systems.{EachRow}
use Rattle.tables.specs.Memory.{Standing}
use Rattle.tables.specs.Rows.{stays}

pub stays_yes : (n : ℕ) (r s : Numbers) → Below n r → (Within r s → ⊥) → stays n r s ≡ true
stays_yes n r s low h = ⊎_elim (λ (e : within_below n r s ≡ true). absurd (h ((decides_within n r s low).0 e))) (λ (e : within_below n r s ≡ false). ap not e) (cases_Bool (within_below n r s))

pub stays_no : (n : ℕ) (r s : Numbers) → Below n r → Within r s → stays n r s ≡ false
stays_no n r s low h = ap not ((decides_within n r s low).1 h)

stays_same : (n m : ℕ) (r : Numbers) → Below n r → Below m r → stays n r ≡ stays m r
stays_same n m r a b = fun_ext (λ s. ap (λ f. not (f s)) (within_same n m r a b))

-- a filter that keeps as many keeps all
pub kept_fewer : {X : Type 0} (p : X → Bool) (xs : List X) → length (filter p xs) ≤ length xs
kept_fewer p xs = omega (arith, length-filter p xs, count_by-le-length p xs)

pub kept_whole : {X : Type 0} (p : X → Bool) (xs : List X) → length (filter p xs) ≡ length xs → filter p xs ≡ xs
kept_whole p [] e = refl
kept_whole {X} p (x ∷ xs) e = go (kept_whole p xs) (p x) e where
  go : (length (filter p xs) ≡ length xs → filter p xs ≡ xs) → (b : Bool) → length (cond b (x ∷ filter p xs) (filter p xs)) ≡ suc (length xs) → cond b (x ∷ filter p xs) (filter p xs) ≡ x ∷ xs
  go rest true h = ap (λ l. x ∷ l) (rest (omega arith))
  go rest false h = absurd (omega (arith, kept_fewer p xs))

-- and so does one that all rows pass
pub kept_all : (p : Numbers → Bool) (rows : List Numbers) → EachRow rows (λ r. p r ≡ true) → filter p rows ≡ rows
kept_all p [] each = refl
kept_all p (r ∷ rs) each =
    cond-true (p r) (r ∷ filter p rs) (filter p rs) (each 0 (omega arith)) ∙ ap (λ l. r ∷ l) (kept_all p rs (λ i h. each (suc i) (omega arith)))

map_kept : {X : Type 0} (mem : X → Numbers) (q : Numbers → Bool) (xs : List X) → map mem (filter (λ x. q (mem x)) xs) ≡ filter q (map mem xs)
map_kept mem q [] = refl
map_kept mem q (x ∷ xs) = elim (q (mem x)) as (λ v. map mem (cond v (x ∷ filter (λ y. q (mem y)) xs) (filter (λ y. q (mem y)) xs)) ≡ cond v (mem x ∷ filter q (map mem xs)) (filter q (map mem xs))) [ true ↦ ap (λ l. mem x ∷ l) (map_kept mem q xs) | false ↦ map_kept mem q xs ]

-- xs as the loop began, ys once the rows that pass p stand in the first k places, ws the places behind those once they are emptied
module _ {X : Type 0} (p : X → Bool) (xs ys ws : List X) (k i : ℕ) (h : FiltersInPlace p xs ys k i) (all : length xs ≤ i) (long : length ws ≡ length (mid_of k (length ys - k) ys)) where
  many : length ws ≡ length ys - k
  many = long ∙ length-between ys k (length ys) (omega arith)

  sifted_front : take k (put_mid k (length ys - k) ys ws) ≡ filter p xs
  sifted_front = take-put_mid_below k (length ys - k) ys ws k (omega arith) (omega (arith, h.behind, h.within, h.long)) ∙ FiltersInPlace-all h all

  -- nothing was removed
  pub sifted_whole : k ≡ length xs → put_mid k (length ys - k) ys ws ≡ xs
  sifted_whole e =
      let a : length (put_mid k (length ys - k) ys ws) ≡ length ys = same_len_mid k (length ys - k) ys ws long in
      let b = sym (take_all k (put_mid k (length ys - k) ys ws) (omega (arith, h.long))) ∙ sifted_front in
      let c : length (filter p xs) ≡ length xs = omega (arith, h.long, ap length b) in
      b ∙ kept_whole p xs c

  pub sifted_rows : {mem : X → Numbers} (q : Numbers → Bool) → p ≡ (λ x. q (mem x)) → AllWithin (λ x. mem x ≡ nothing) ws 0 (length (mid_of k (length ys - k) ys))
      → Standing mem (put_mid k (length ys - k) ys ws) (length xs) k (filter q (map mem xs))
  sifted_rows {mem} q e empty = record {
    stand = ap (map mem) (sifted_front ∙ ap (λ t. filter t xs) e) ∙ map_kept mem q xs;
    behind = λ j d a b.
        let front : length (take k ys) ≡ k = length-take-le k ys (omega (arith, h.behind, h.within, h.long)) in
        let inside : j - k < length ws = omega (arith, many, h.long) in
        let read = get_or-append_right (take k ys) (ws ++ post_of k (length ys - k) ys) k j d front a ∙ get_or_append_left ws (post_of k (length ys - k) ys) d (j - k) inside in
        rw read (empty (j - k) d (omega arith) (omega (arith, long)));
  }

-- the place x does not contain the row r: the test by which the loop sifts
unfoldable pub stays_at : {X : Type 0} → (X → Numbers) → ℕ → Numbers → X → Bool
stays_at mem n r x = stays n r (mem x)

module _ {X : Type 0} (mem : X → Numbers) (n : ℕ) (r : Numbers) (low : Below n r) where
  pub stays_at_yes : (x : X) → (Within r (mem x) → ⊥) → stays_at mem n r x ≡ true
  unfolding stays_at
  stays_at_yes x h = stays_yes n r (mem x) low h

  pub stays_at_no : (x : X) → Within r (mem x) → stays_at mem n r x ≡ false
  unfolding stays_at
  stays_at_no x h = stays_no n r (mem x) low h

  -- the test asks no more of a bound than that the row is below it
  pub stays_at_other : (m : ℕ) → Below m r → stays_at mem n r ≡ (λ x. stays m r (mem x))
  unfolding stays_at
  stays_at_other m low' = ap (λ t. λ x. t (mem x)) (stays_same n m r low low')
