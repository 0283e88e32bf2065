-- A walk over two rising lists side by side: what the rest of both tells of the whole.
use Rattle.std.proofs.Common.{◌≡◌, ℕ, suc, ◌-◌, ◌<◌, ◌≤◌, ◌==◌, T, List, [], ◌∷◌, length, get_or, take, drop, sym, subst, inl, inr, arith, eqb→eq}
use Rattle.std.proofs.Math.Dec.{eqb_refl}
use Rattle.std.proofs.lemmas.List.{take_all}
use Rattle.sets.specs.Sets.{Numbers, Within, Apart, listed}
use Rattle.sets.specs.Rising.{rising}
use Rattle.sets.specs.Truth.{or_T, T_or_left, T_or_right}
use Rattle.sets.specs.Listing.{rising_cons, rising_parts, rising_from, listed_bounds}

-- Q of s and t comes to Q of what is left, xs and ys
pub record Left (Q : Numbers → Numbers → Type 0) (s t : Numbers) (xs ys : List ℕ) : Type 0 where
  pub mine_rises : T (rising 0 xs)
  pub theirs_rise : T (rising 0 ys)
  pub down : Q s t → Q (listed xs) (listed ys)
  pub up : Q (listed xs) (listed ys) → Q s t

-- the slice behind the first element
abbrev rest : List ℕ → List ℕ
rest xs = take (length xs - 1) (drop 1 xs)

rest_is : (x : ℕ) (xs : List ℕ) → rest (x ∷ xs) ≡ xs
rest_is x xs = take_all (suc (length xs) - 1) xs (omega arith)

-- ---- a first element and those behind it

head_in : (x : ℕ) (xs : List ℕ) → T (listed (x ∷ xs) x)
head_in x xs = T_or_left (x == x) (listed xs x) (eqb_refl x)

tail_in : (x : ℕ) (xs : List ℕ) (k : ℕ) → T (listed xs k) → T (listed (x ∷ xs) k)
tail_in x xs k m = T_or_right (k == x) (listed xs k) m

head_least : (x : ℕ) (xs : List ℕ) (k : ℕ) → T (rising 0 (x ∷ xs)) → T (listed (x ∷ xs) k) → x ≤ k
head_least x xs k t m =
    let p = rising_parts 0 x xs t in (listed_bounds x (x ∷ xs) k (rising_cons x x xs (omega arith) p.1 p.2) m).0

tail_more : (x : ℕ) (xs : List ℕ) (k : ℕ) → T (rising 0 (x ∷ xs)) → T (listed xs k) → x < k
tail_more x xs k t m = (listed_bounds (suc x) xs k (rising_parts 0 x xs t).2 m).0

tail_rises : (x : ℕ) (xs : List ℕ) → T (rising 0 (x ∷ xs)) → T (rising 0 xs)
tail_rises x xs t = rising_from (suc x) 0 xs (omega arith) (rising_parts 0 x xs t).2

-- past a first element that k is not
in_tail : (x : ℕ) (xs : List ℕ) (k : ℕ) → (k ≡ x → ⊥) → T (listed (x ∷ xs) k) → T (listed xs k)
in_tail x xs k n m = elim (or_T (k == x) (listed xs k) m) [ inl e ↦ absurd (n (eqb→eq k x e)) | inr r ↦ r ]

-- ---- a step, for any Q

module _ (Q : Numbers → Numbers → Type 0) (s t : Numbers) where
  on_mine : (x : ℕ) (xs ys : List ℕ) → Left Q s t (x ∷ xs) ys → (Q (listed (x ∷ xs)) (listed ys) → Q (listed xs) (listed ys)) → (Q (listed xs) (listed ys) → Q (listed (x ∷ xs)) (listed ys)) → Left Q s t (rest (x ∷ xs)) ys
  on_mine x xs ys l f g =
      subst (λ z. Left Q s t z ys) (sym (rest_is x xs))
      record {
        mine_rises = tail_rises x xs l.mine_rises;
        theirs_rise = l.theirs_rise;
        down = λ q. f (l.down q);
        up = λ q. l.up (g q);
      }

  on_theirs : (xs : List ℕ) (y : ℕ) (ys : List ℕ) → Left Q s t xs (y ∷ ys) → (Q (listed xs) (listed (y ∷ ys)) → Q (listed xs) (listed ys)) → (Q (listed xs) (listed ys) → Q (listed xs) (listed (y ∷ ys))) → Left Q s t xs (rest (y ∷ ys))
  on_theirs xs y ys l f g =
      subst (λ z. Left Q s t xs z) (sym (rest_is y ys))
      record {
        mine_rises = l.mine_rises;
        theirs_rise = tail_rises y ys l.theirs_rise;
        down = λ q. f (l.down q);
        up = λ q. l.up (g q);
      }

  on_both : (x : ℕ) (xs : List ℕ) (y : ℕ) (ys : List ℕ) → Left Q s t (x ∷ xs) (y ∷ ys) → (Q (listed (x ∷ xs)) (listed (y ∷ ys)) → Q (listed xs) (listed ys)) → (Q (listed xs) (listed ys) → Q (listed (x ∷ xs)) (listed (y ∷ ys))) → Left Q s t (rest (x ∷ xs)) (rest (y ∷ ys))
  on_both x xs y ys l f g =
      subst (λ z. Left Q s t z (rest (y ∷ ys))) (sym (rest_is x xs)) (subst (λ z. Left Q s t xs z) (sym (rest_is y ys))
      record {
        mine_rises = tail_rises x xs l.mine_rises;
        theirs_rise = tail_rises y ys l.theirs_rise;
        down = λ q. f (l.down q);
        up = λ q. l.up (g q);
      })

-- ---- `Within`

module _ (s t : Numbers) where
  pub within_both : (xs ys : List ℕ) → 1 ≤ length xs → 1 ≤ length ys → get_or xs 0 0 ≡ get_or ys 0 0 → Left Within s t xs ys → Left Within s t (rest xs) (rest ys)
  within_both [] ys a b e l = absurd (omega arith)
  within_both (x ∷ xs) [] a b e l = absurd (omega arith)
  within_both (x ∷ xs) (y ∷ ys) a b e l =
      on_both Within s t x xs y ys l
      (λ w k m. let past = tail_more x xs k l.mine_rises m in in_tail y ys k (λ q. omega arith) (w k (tail_in x xs k m)))
      (λ w k m. elim (or_T (k == x) (listed xs k) m) [
        | inl q ↦ let is : k ≡ x = eqb→eq k x q in let same : y ≡ k = omega arith in subst (λ z. T (listed (y ∷ ys) z)) same (head_in y ys)
        | inr r ↦ tail_in y ys k (w k r)
      ])

  pub within_skip : (xs ys : List ℕ) → 1 ≤ length xs → 1 ≤ length ys → get_or ys 0 0 < get_or xs 0 0 → Left Within s t xs ys → Left Within s t xs (rest ys)
  within_skip [] ys a b h l = absurd (omega arith)
  within_skip (x ∷ xs) [] a b h l = absurd (omega arith)
  within_skip (x ∷ xs) (y ∷ ys) a b h l =
      on_theirs Within s t (x ∷ xs) y ys l
      (λ w k m. let at = head_least x xs k l.mine_rises m in in_tail y ys k (λ q. omega arith) (w k m))
      (λ w k m. tail_in y ys k (w k m))

  pub within_less : (xs ys : List ℕ) → 1 ≤ length xs → 1 ≤ length ys → get_or xs 0 0 < get_or ys 0 0 → Left Within s t xs ys → Within s t → ⊥
  within_less [] ys a b h l w = omega arith
  within_less (x ∷ xs) [] a b h l w = omega arith
  within_less (x ∷ xs) (y ∷ ys) a b h l w = omega (arith, head_least y ys x l.theirs_rise (l.down w x (head_in x xs)))

  pub within_ended : (xs ys : List ℕ) → 1 ≤ length xs → length ys < 1 → Left Within s t xs ys → Within s t → ⊥
  within_ended [] ys a b l w = omega arith
  within_ended (x ∷ xs) [] a b l w = l.down w x (head_in x xs)
  within_ended (x ∷ xs) (y ∷ ys) a b l w = omega arith

-- ---- `Apart`

module _ (s t : Numbers) where
  pub apart_mine : (xs ys : List ℕ) → 1 ≤ length xs → 1 ≤ length ys → get_or xs 0 0 < get_or ys 0 0 → Left Apart s t xs ys → Left Apart s t (rest xs) ys
  apart_mine [] ys a b h l = absurd (omega arith)
  apart_mine (x ∷ xs) [] a b h l = absurd (omega arith)
  apart_mine (x ∷ xs) (y ∷ ys) a b h l =
      on_mine Apart s t x xs (y ∷ ys) l (λ w k m n. w k (tail_in x xs k m) n)
      (λ w k m n. let at = head_least y ys k l.theirs_rise n in w k (in_tail x xs k (λ q. omega arith) m) n)

  pub apart_theirs : (xs ys : List ℕ) → 1 ≤ length xs → 1 ≤ length ys → get_or ys 0 0 < get_or xs 0 0 → Left Apart s t xs ys → Left Apart s t xs (rest ys)
  apart_theirs [] ys a b h l = absurd (omega arith)
  apart_theirs (x ∷ xs) [] a b h l = absurd (omega arith)
  apart_theirs (x ∷ xs) (y ∷ ys) a b h l =
      on_theirs Apart s t (x ∷ xs) y ys l (λ w k m n. w k m (tail_in y ys k n))
      (λ w k m n. let at = head_least x xs k l.mine_rises m in w k m (in_tail y ys k (λ q. omega arith) n))

  pub apart_same : (xs ys : List ℕ) → 1 ≤ length xs → 1 ≤ length ys → get_or xs 0 0 ≡ get_or ys 0 0 → Left Apart s t xs ys → Apart s t → ⊥
  apart_same [] ys a b h l w = omega arith
  apart_same (x ∷ xs) [] a b h l w = omega arith
  apart_same (x ∷ xs) (y ∷ ys) a b h l w = l.down w x (head_in x xs) (subst (λ z. T (listed (y ∷ ys) z)) (sym h) (head_in y ys))
