-- Tallies of rows.
use Rattle.std.proofs.Common.{◌≡◌, ℕ, zero, suc, ◌+◌, ◌<◌, ◌≤◌, Bool, true, false, cond, not, List, [], ◌∷◌, map, length, get_or, take, drop, filter, add-one, refl, ap, ◌∙◌, sym, arith}
use Rattle.std.proofs.lemmas.List.{length-map, drop_all}
use Rattle.std.specs.List.Sorted.{IsPermutation}
use Rattle.std.proofs.lemmas.List.Filters.{length-filter_both}
use Rattle.std.proofs.lemmas.List.Sums.{length-filter}
use Rattle.std.proofs.lemmas.List.Sorted.{sum_by-IsPermutation}
use Rattle.sets.specs.Sets.{Numbers, one}
use Rattle.duality.specs.Shares.{having}

kept_few : {X : Type 0} (p : X → Bool) (xs : List X) → length (filter p xs) ≤ length xs
kept_few p xs = omega (arith, length-filter_both p (λ x. not (p x)) (λ _. refl) xs)

pub having_none : (k : ℕ) → having [] k ≡ 0
unfolding having
having_none k = refl

-- wherever the rows stand
pub having_moved : (rows others : List Numbers) (k : ℕ) → IsPermutation rows others → having rows k ≡ having others k
unfolding having
having_moved rows others k moved =
    length-filter (λ r. r k) rows ∙ sym (sum_by-IsPermutation (λ r. cond (r k) 1 0) rows others moved) ∙ sym (length-filter (λ r. r k) others)

pub having_few : (rows : List Numbers) (k : ℕ) → having rows k ≤ length rows
unfolding having
having_few rows k = kept_few (λ r. r k) rows

pub having_more : (r : Numbers) (rows : List Numbers) (k : ℕ) → having (r ∷ rows) k ≡ one (r k) + having rows k
unfolding having
having_more r rows k = go (r k) where
  go : (b : Bool) → length (cond b (r ∷ filter (λ r. r k) rows) (filter (λ r. r k) rows)) ≡ one b + length (filter (λ r. r k) rows)
  go true = omega arith
  go false = omega arith

pub one_most : (b : Bool) → one b ≤ 1
one_most true = omega arith
one_most false = omega arith

-- ---- rows by their masks
module _ {X : Type 0} (bits : X → Numbers) (k : ℕ) where
  having_step : (x y : X) (xs : List X) → x ≡ y → having (map bits (y ∷ xs)) k ≡ one (bits x k) + having (map bits xs) k
  having_step x y xs e = having_more (bits y) (map bits xs) k ∙ ap (λ z. one (bits z k) + having (map bits xs) k) (sym e)

  -- some rows and the others
  pub having_split : (n : ℕ) (xs : List X) → having (map bits xs) k ≡ having (map bits (take n xs)) k + having (map bits (drop n xs)) k
  having_split zero xs = omega (arith, having_none k)
  having_split (suc n) [] = omega (arith, having_none k)
  having_split (suc n) (x ∷ xs) = omega (arith, having_more (bits x) (map bits xs) k, having_more (bits x) (map bits (take n xs)) k, having_split n xs)

  -- one after another
  having_at : (xs : List X) (i : ℕ) (x : X) → i < length xs → x ≡ get_or xs i x → having (drop i (map bits xs)) k ≡ one (bits x k) + having (drop (suc i) (map bits xs)) k
  having_at [] i x h e = absurd (omega arith)
  having_at (y ∷ xs) zero x h e = having_step x y xs e
  having_at (y ∷ xs) (suc i) x h e = having_at xs i x (omega arith) e

  pub having_next : (xs : List X) (i : ℕ) (x : X) → i < length xs → x ≡ get_or xs i x → having (drop i (map bits xs)) k ≡ one (bits x k) + having (drop (i + 1) (map bits xs)) k
  having_next xs i x h e = rw add-one (having_at xs i x h e)

  pub having_rest : (xs : List X) (i : ℕ) → length xs ≤ i → having (drop i (map bits xs)) k ≡ 0
  having_rest xs i h = ap (λ ys. having ys k) (drop_all i (map bits xs) (simp length-map h)) ∙ having_none k

  -- eight of them
  pub having_eight : (xs : List X) (a b c d e f g h : X) → length xs ≡ 8 → a ≡ get_or xs 0 a → b ≡ get_or xs 1 b → c ≡ get_or xs 2 c → d ≡ get_or xs 3 d → e ≡ get_or xs 4 e → f ≡ get_or xs 5 f → g ≡ get_or xs 6 g → h ≡ get_or xs 7 h
      → having (map bits xs) k ≡ one (bits a k) + one (bits b k) + one (bits c k) + one (bits d k) + one (bits e k) + one (bits f k) + one (bits g k) + one (bits h k)
  having_eight xs a b c d e f g h long p q r s t u v w =
      omega (
        arith,
        having_next xs 0 a (omega (arith, long)) p,
        having_next xs 1 b (omega (arith, long)) q,
        having_next xs 2 c (omega (arith, long)) r,
        having_next xs 3 d (omega (arith, long)) s,
        having_next xs 4 e (omega (arith, long)) t,
        having_next xs 5 f (omega (arith, long)) u,
        having_next xs 6 g (omega (arith, long)) v,
        having_next xs 7 h (omega (arith, long)) w,
        having_rest xs 8 (omega (arith, long)),
      )
