-- Counts in planes of bits.
use Rattle.std.proofs.Common.{◌≡◌, ℕ, zero, suc, ◌+◌, ◌*◌, ◌^◌, ◌<◌, ◌≤◌, Bool, true, false, ◌&&◌, ◌||◌, T, List, [], ◌∷◌, length, get_or, set, take, drop, ◌++◌, sym, refl, ap, ap₂, ◌∙◌, subst, inl, inr, arith, add-one, mul_assoc}
use Rattle.std.proofs.Math.Nat.{pow-succ'}
use Rattle.std.proofs.lemmas.List.{take_more_set, take-set, length-set, get_or-set_same}
use Rattle.std.proofs.lemmas.Bool.{cases_Bool, cases_lt, true≢false}
use Rattle.sets.specs.Sets.{Numbers, nothing, Same, one}
use Rattle.sets.specs.Truth.{holds_true, fails_false, and_T, T_and}
use Rattle.sets.specs.Masks.{unlike}
use Rattle.duality.specs.Shares.{counted, Most}

-- ---- sums of bits
two_bits : (m : ℕ) (a b : Bool) → m * one (unlike a b) + 2 * (m * one (a && b)) ≡ m * one a + m * one b
two_bits m true true = omega arith
two_bits m true false = omega arith
two_bits m false true = omega arith
two_bits m false false = omega arith

doubled : (p n : ℕ) → 2 ^ (p + 1) * n ≡ 2 * (2 ^ p * n)
doubled p n = ap (λ q. 2 ^ q * n) (omega arith) ∙ ap (λ x. x * n) (pow-succ' 2 p) ∙ mul_assoc 2 (2 ^ p) n

neither : (a b : Bool) → (a || b) ≡ false → (a ≡ false) × (b ≡ false)
neither true b e = absurd (true≢false e)
neither false b e = (refl, e)

turned_bit : (m : ℕ) (b : Bool) → m * one (unlike b true) + m * one b ≡ m
turned_bit m true = omega arith
turned_bit m false = omega arith

unlike_false : (b : Bool) → unlike b false ≡ b
unlike_false true = refl
unlike_false false = refl

-- ---- one plane put in place of another
module _ {X : Type 0} (bits : X → Numbers) where
  pub counted_set : (ps : List X) (p : ℕ) (x d : X) (k : ℕ) → p < length ps → counted bits (set ps p x) k + 2 ^ p * one (bits (get_or ps p d) k) ≡ counted bits ps k + 2 ^ p * one (bits x k)
  unfolding counted
  counted_set [] p x d k h = absurd (omega arith)
  counted_set (q ∷ ps) zero x d k h = omega arith
  counted_set (q ∷ ps) (suc p) x d k h =
      let e : 2 ^ suc p ≡ 2 ^ (p + 1) = ap (λ n. 2 ^ n) (omega arith) in
      let a = ap (λ m. m * one (bits (get_or ps p d) k)) e ∙ doubled p (one (bits (get_or ps p d) k)) in
      let b = ap (λ m. m * one (bits x k)) e ∙ doubled p (one (bits x k)) in
      omega (arith, counted_set ps p x d k (omega arith), a, b)

  -- what is carried goes into a plane, and what that cannot hold goes on
  pub carried : (ps : List X) (p : ℕ) (plane old either both : X) (k total : ℕ) → p < length ps → plane ≡ get_or ps p plane
      → bits either k ≡ unlike (bits plane k) (bits old k) → bits both k ≡ (bits plane k && bits old k)
      → counted bits ps k + 2 ^ p * one (bits old k) ≡ total → counted bits (set ps p either) k + 2 ^ (p + 1) * one (bits both k) ≡ total
  carried ps p plane old either both k total h is x a e =
      let m = 2 ^ p in
      let u = counted_set ps p either plane k h in
      let v : m * one (bits (get_or ps p plane) k) ≡ m * one (bits plane k) = ap (λ y. m * one (bits y k)) (sym is) in
      let w = two_bits m (bits plane k) (bits old k) in
      let y : m * one (bits either k) ≡ m * one (unlike (bits plane k) (bits old k)) = ap (λ b. m * one b) x in
      let z : m * one (bits both k) ≡ m * one (bits plane k && bits old k) = ap (λ b. m * one b) a in
      omega (arith, u, v, w, y, z, e, doubled p (one (bits both k)))

  -- nothing is carried on
  pub carried_all : (ps : List X) (p : ℕ) (both : X) (k total : ℕ) → bits both k ≡ false → counted bits ps k + 2 ^ p * one (bits both k) ≡ total → counted bits ps k ≡ total
  carried_all ps p both k total off e =
      let z : 2 ^ p * one (bits both k) ≡ 2 ^ p * 0 = ap (λ b. 2 ^ p * one b) off in
      omega (arith, e, z)

  -- behind the last plane nothing is carried, where the count fits
  pub carried_out : (ps : List X) (p : ℕ) (both : X) (k total : ℕ) → p ≡ 13 → total < 2 ^ 13 → counted bits ps k + 2 ^ p * one (bits both k) ≡ total → counted bits ps k ≡ total
  carried_out ps p both k total last fits e =
      elim (cases_Bool (bits both k)) [
        | inl on ↦
            let z : 2 ^ p * one (bits both k) ≡ 2 ^ 13 * 1 = ap₂ (λ q b. 2 ^ q * one b) last on in
            absurd (omega (arith, e, z, fits))
        | inr off ↦ carried_all ps p both k total off e
      ]

  -- planes that are empty
  counted_empty : (ps : List X) (x : X) (k : ℕ) → counted bits ps k ≡ 0 → bits x k ≡ false → counted bits (ps ++ x ∷ []) k ≡ 0
  unfolding counted
  counted_empty [] x k none off = omega (arith, ap one off)
  counted_empty (p ∷ ps) x k none off = omega (arith, none, counted_empty ps x k (omega (arith, none)) off)

  pub counted_no_plane : (k : ℕ) → counted bits [] k ≡ 0
  unfolding counted
  counted_no_plane k = refl

  pub counted_emptied : (ps : List X) (p : ℕ) (x : X) (k : ℕ) → p < length ps → counted bits (take p ps) k ≡ 0 → bits x k ≡ false → counted bits (take (p + 1) (set ps p x)) k ≡ 0
  counted_emptied ps p x k h none off = ap (λ l. counted bits l k) (take_more_set ps p x h) ∙ counted_empty (take p ps) x k none off

  -- ---- plane by plane from the lowest
  counted_suc : (ps : List X) (p : ℕ) (d : X) (k : ℕ) → p < length ps → counted bits (take (suc p) ps) k ≡ counted bits (take p ps) k + 2 ^ p * one (bits (get_or ps p d) k)
  unfolding counted
  counted_suc [] p d k h = absurd (omega arith)
  counted_suc (q ∷ ps) zero d k h = omega arith
  counted_suc (q ∷ ps) (suc p) d k h =
      let e : 2 ^ suc p ≡ 2 ^ (p + 1) = ap (λ n. 2 ^ n) (omega arith) in
      let a = ap (λ m. m * one (bits (get_or ps p d) k)) e ∙ doubled p (one (bits (get_or ps p d) k)) in
      omega (arith, counted_suc ps p d k (omega arith), a)

  pub counted_to : (ps : List X) (p : ℕ) (d : X) (k : ℕ) → p < length ps → counted bits (take (p + 1) ps) k ≡ counted bits (take p ps) k + 2 ^ p * one (bits (get_or ps p d) k)
  counted_to ps p d k h = rw add-one (counted_suc ps p d k h)

  pub counted_to_set : (ps : List X) (p : ℕ) (x : X) (k : ℕ) → p < length ps → counted bits (take (p + 1) (set ps p x)) k ≡ counted bits (take p ps) k + 2 ^ p * one (bits x k)
  counted_to_set ps p x k h =
      counted_to (set ps p x) p x k (omega (arith, length-set ps p x))
      ∙ ap₂ (λ (l : List X) (y : X). counted bits l k + 2 ^ p * one (bits y k)) (take-set ps p x) (get_or-set_same ps p x x h)

  -- an item that is in none of the first planes, and in no other
  pub counted_to_none : (ps : List X) (p : ℕ) (plane : X) (before : Bool) (k : ℕ) → p < length ps → plane ≡ get_or ps p plane → (before || bits plane k) ≡ false → (before ≡ false → counted bits (take p ps) k ≡ 0) → counted bits (take (p + 1) ps) k ≡ 0
  counted_to_none ps p plane before k h is none e =
      let off = neither before (bits plane k) none in
      let a = counted_to ps p plane k h in
      let b : 2 ^ p * one (bits (get_or ps p plane) k) ≡ 2 ^ p * 0 = ap (λ (y : X). 2 ^ p * one (bits y k)) (sym is) ∙ ap (λ c. 2 ^ p * one c) off.1 in
      omega (arith, a, b, e off.0)

  -- a plane turned where the items are
  pub turned_plane : (ps qs : List X) (p : ℕ) (plane items new : X) (k : ℕ) → p < length ps → p < length qs → plane ≡ get_or ps p plane → get_or ps p plane ≡ get_or qs p plane → bits new k ≡ unlike (bits plane k) (bits items k) → bits items k ≡ true
      → counted bits (take p ps) k + counted bits (take p qs) k + 1 ≡ 2 ^ p → counted bits (take (p + 1) (set ps p new)) k + counted bits (take (p + 1) qs) k + 1 ≡ 2 ^ (p + 1)
  turned_plane ps qs p plane items new k hp hq is same x on e =
      let m = 2 ^ p in
      let a = counted_to_set ps p new k hp in
      let b = counted_to qs p plane k hq in
      let v : m * one (bits (get_or qs p plane) k) ≡ m * one (bits plane k) = ap (λ y. m * one (bits y k)) (sym same ∙ sym is) in
      let y : m * one (bits new k) ≡ m * one (unlike (bits plane k) true) = ap (λ c. m * one c) (x ∙ ap (unlike (bits plane k)) on) in
      let twice : 2 ^ (p + 1) ≡ 2 * 2 ^ p = ap (λ q. 2 ^ q) (omega arith) ∙ pow-succ' 2 p in
      omega (arith, a, b, v, y, e, turned_bit m (bits plane k), twice)

  pub kept_plane : (ps qs : List X) (p : ℕ) (plane items new : X) (k : ℕ) → p < length ps → p < length qs → plane ≡ get_or ps p plane → get_or ps p plane ≡ get_or qs p plane → bits new k ≡ unlike (bits plane k) (bits items k) → bits items k ≡ false
      → counted bits (take p ps) k ≡ counted bits (take p qs) k → counted bits (take (p + 1) (set ps p new)) k ≡ counted bits (take (p + 1) qs) k
  kept_plane ps qs p plane items new k hp hq is same x off e =
      let m = 2 ^ p in
      let a = counted_to_set ps p new k hp in
      let b = counted_to qs p plane k hq in
      let v : m * one (bits (get_or qs p plane) k) ≡ m * one (bits plane k) = ap (λ y. m * one (bits y k)) (sym same ∙ sym is) in
      let y : m * one (bits new k) ≡ m * one (bits plane k) = ap (λ c. m * one c) (x ∙ ap (unlike (bits plane k)) off ∙ unlike_false (bits plane k)) in
      omega (arith, a, b, v, y, e)

  -- ---- plane by plane from the highest
  pub counted_above : (ps : List X) (p : ℕ) (d : X) (k : ℕ) → p < length ps → counted bits (drop p ps) k ≡ one (bits (get_or ps p d) k) + 2 * counted bits (drop (suc p) ps) k
  unfolding counted
  counted_above [] p d k h = absurd (omega arith)
  counted_above (q ∷ ps) zero d k h = refl
  counted_above (q ∷ ps) (suc p) d k h = counted_above ps p d k (omega arith)

  -- no plane from p on has an item whose count is below 2 ^ p
  pub counted_high : (ps : List X) (p k : ℕ) → counted bits ps k < 2 ^ p → counted bits (drop p ps) k ≡ 0
  unfolding counted
  counted_high [] zero k h = refl
  counted_high [] (suc p) k h = refl
  counted_high (q ∷ ps) zero k h = omega (arith, h)
  counted_high (q ∷ ps) (suc p) k h = counted_high ps p k (omega (arith, h, pow-succ' 2 p))

  pub counted_none : (ps : List X) (p k : ℕ) → length ps ≤ p → counted bits (drop p ps) k ≡ 0
  unfolding counted
  counted_none [] zero k h = refl
  counted_none [] (suc p) k h = refl
  counted_none (q ∷ ps) zero k h = absurd (omega arith)
  counted_none (q ∷ ps) (suc p) k h = counted_none ps p k (omega arith)

-- ---- which items have the largest count
bit_most : (b : Bool) → one b ≤ 1
bit_most true = omega arith
bit_most false = omega arith

module _ (f g : ℕ → ℕ) (bit items leading : Numbers) (m : ℕ) (next : (k : ℕ) → g k ≡ one (bit k) + 2 * f k) (h : Most f items m leading) where
  -- some of those that lead have the bit
  pub most_more : (more : Numbers) → Same more (λ k. leading k && bit k) → (Same more nothing → ⊥) → Most g items (m * 2 + 1) more
  most_more more is some = record {
    bound = λ k t. omega (arith, next k, bit_most (bit k), h.bound k t);
    have = λ k t.
        let p = and_T (leading k) (bit k) (subst T (is k) t) in
        let q = h.have k p.0 in
        (q.0, omega (arith, next k, ap one (holds_true (bit k) p.1), q.1));
    all = λ k t e.
        let low = h.bound k t in
        let top : f k ≡ m = omega (arith, next k, bit_most (bit k)) in
        let on : T (bit k) = set_bit (bit k) (omega (arith, next k)) in
        subst T (sym (is k)) (T_and (leading k) (bit k) (h.all k t top) on);
    some = λ none. absurd (some (λ k. fails_false (more k) (none k (omega arith))));
  }
    where
      set_bit : (b : Bool) → one b ≡ 1 → T b
      set_bit true e = tt
      set_bit false e = omega arith

  -- none of them has it
  pub most_same : Same (λ k. leading k && bit k) nothing → Most g items (m * 2) leading
  most_same none = record {
    bound = λ k t.
        let low = h.bound k t in
        elim (cases_lt (f k) m) [
          | inl lt ↦ omega (arith, next k, bit_most (bit k))
          | inr ge ↦ omega (arith, next k, ap one (clear k (h.all k t (omega arith))))
        ];
    have = λ k t. let q = h.have k t in (q.0, omega (arith, next k, ap one (clear k t), q.1));
    all = λ k t e. h.all k t (omega (arith, next k, bit_most (bit k)));
    some = h.some;
  }
    where
      clear : (k : ℕ) → T (leading k) → bit k ≡ false
      clear k t = fails_false (bit k) (λ u. subst T (none k) (T_and (leading k) (bit k) t u))

pub most_none : (f : ℕ → ℕ) (items : Numbers) → ((k : ℕ) → f k ≡ 0) → Most f items 0 items
most_none f items z = record { bound = λ k t. omega (arith, z k); have = λ k t. (t, z k); all = λ k t e. t; some = λ none. none }
