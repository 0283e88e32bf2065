-- What becomes of the first places of a memory: they change, the rows behind a struck one move up, and a row is written behind the others.
use Rattle.std.proofs.Common.{◌≡◌, ℕ, suc, ◌+◌, ◌-◌, ◌<◌, ◌≤◌, ◌≢◌, List, [], ◌∷◌, ◌++◌, map, length, get_or, take, drop, set, ap, ◌∙◌, ⊎_elim, arith}
use borrow.Rule.Slice.PartMut.{put_mid, mid_of}
use mathlib.Core.Path.{fun_ext}
use Rattle.std.specs.List.{remove, AllWithin}
use Rattle.std.proofs.lemmas.Bool.{cases_lt}
use Rattle.std.proofs.lemmas.List.{set_at, take_at, get_or_at, take-append-le, length-append, length-drop, get_or_append_left, get_or-append_right, get_or-drop, get_or-set_other, take_more_set, map_push, map-append, take-map, drop-map}
use Rattle.std.proofs.lemmas.List.Edits.{length-remove}
use Rattle.std.proofs.lemmas.Slice.{put_mid-rotated}
use Rattle.sets.specs.Sets.{Numbers, nothing, Same}
use Rattle.tables.specs.Memory.{Standing, Beyond}

-- ---- the first places of xs become ys

module _ {X : Type 0} (xs ys : List X) (count : ℕ) (long : length ys ≡ count) where
  after_front : (k : ℕ) (d : X) → count ≤ k → get_or (ys ++ drop count xs) k d ≡ get_or xs k d
  after_front k d ge =
      let back : count + (k - count) ≡ k = omega arith in
      get_or-append_right ys (drop count xs) count k d long ge ∙ get_or-drop count xs (k - count) d ∙ ap (λ i. get_or xs i d) back

  pub length_front : count ≤ length xs → length (ys ++ drop count xs) ≡ length xs
  length_front le = simp (length-append, length-drop) (omega arith)

  pub standing_front : {mem : X → Numbers} (capacity stay : ℕ) (qs : List Numbers) → stay ≤ count → Standing mem ys count stay qs
      → AllWithin (λ x. mem x ≡ nothing) xs count capacity → Standing mem (ys ++ drop count xs) capacity stay qs
  standing_front {mem} capacity stay qs fewer st behind = record {
    stand = ap (map mem) (take-append-le stay ys (drop count xs) (omega arith)) ∙ st.stand;
    behind = λ k d a b. ⊎_elim
        (λ (q : k < count). rw (get_or_append_left ys (drop count xs) d k (omega arith)) (st.behind k d a q))
        (λ (q : count ≤ k). rw (after_front k d q) (behind k d q b))
        (cases_lt k count);
  }

  -- and a row is written among the places that follow
  pub beyond_written : (capacity stay : ℕ) (x : X) → count ≤ capacity → stay < capacity → Beyond capacity xs (set (ys ++ drop count xs) stay x)
  beyond_written capacity stay x le room k d ge = let ne : k ≢ stay = omega arith in rw get_or-set_other (after_front k d (omega arith))

-- ---- the rows behind a struck one move up, and the last place is emptied

module _ {X : Type 0} where
  map_removed : {Y : Type 0} (f : X → Y) (xs : List X) (i : ℕ) → map f (remove xs i) ≡ remove (map f xs) i
  map_removed f xs i = map-append f (take i xs) (drop (suc i) xs) ∙ simp (take-map, drop-map)

  module _ (xs ys : List X) (row : ℕ) (x : X) (lt : row < length xs)
      (up : ys ≡ drop 1 (mid_of row (length xs - row) xs) ++ take 1 (mid_of row (length xs - row) xs)) where
    moved_up : set (put_mid row (length xs - row) xs ys) (length xs - 1) x ≡ remove xs row ++ x ∷ []
    moved_up =
        let long = length-remove xs row lt in
        ap (λ l. set l (length xs - 1) x) (put_mid-rotated row (length xs - row) xs ys x lt (omega arith) up) ∙ set_at (remove xs row) (get_or xs row x) [] x (length xs - 1) (omega arith)

    pub closed : {mem : X → Numbers} → Same (mem x) nothing → Standing mem (set (put_mid row (length xs - row) xs ys) (length xs - 1) x) (length xs) (length xs - 1) (remove (map mem xs) row)
    closed {mem} e =
        let long = length-remove xs row lt in
        rw moved_up (record {
          stand = ap (map mem) (take_at (remove xs row) (x ∷ []) (length xs - 1) (omega arith)) ∙ map_removed mem xs row;
          behind = λ k d a b. rw (get_or_at (remove xs row) x [] d k (omega arith)) (fun_ext e);
        })

-- ---- a row more

pub standing_push : {X : Type 0} {mem : X → Numbers} {xs : List X} {capacity count : ℕ} {ps : List Numbers} (x : X) → count < length xs → Standing mem xs capacity count ps → Standing mem (set xs count x) capacity (count + 1) (ps ++ mem x ∷ [])
standing_push {X} {mem} {xs} {capacity} {count} {ps} x lt st = record {
  stand = ap (map mem) (take_more_set xs count x lt) ∙ map_push mem (take count xs) x ∙ ap (λ q. q ++ mem x ∷ []) st.stand;
  behind = λ k d a b. let ne : k ≢ count = omega arith in rw get_or-set_other (st.behind k d (omega arith) b);
}
