-- What each method of the word kind owes, over plain numbers.
use Rattle.std.proofs.Common.{Option, None, Some, MatchOption, IfSome, is_some, ◌≡◌, ℕ, ◌-◌, ◌/◌, ◌^◌, ◌<◌, ◌≤◌, Bool, true, false, not, ◌&&◌, ◌||◌, T, eqb, ltb, leb, ◌≢◌, Decides, sym, refl, ap, ◌∙◌, subst, ap₂, inl, inr, mod-eq_of_lt, arith, le→leb, ltb→lt, leb→le}
use lib.Bits.{bit_and, bit_or, and_mask, and_le_l}
use lib.Count.{ones, count_trailing_zeros}
use Rattle.sets.specs.Sets.{Numbers, with, without, Within, Apart, Same, Below, count, Lowest, NoneFrom}
use Rattle.sets.specs.Words.{bit, word_set}
use Rattle.sets.specs.Counts.{count_same}
use Rattle.sets.proofs.Bitwise.{bit_of_and, bit_of_or, bit_single, bit_not, bits_same, bit_past, bit_low, trailing_low, trailing_here, trailing_some, count_bits}
use Rattle.std.proofs.Math.Bool.{and_comm, or_comm, and-false}
use Rattle.std.proofs.lemmas.Bool.{eq-eqb, ne_eqb, eqb-true, eqb-false, not-true, not-false, lt-ltb, le-ltb, cases_lt}
use Rattle.sets.specs.Truth.{holds_true, true_holds, and_T, T_and}
use Rattle.std.proofs.lemmas.Nat.{pow_below, pow_pos}

-- below 64 a word's set is its bits
pub word_bit : (a k : ℕ) → k < 64 → word_set a k ≡ bit a k
word_bit a k h = ap (λ b. b && bit a k) (lt-ltb k 64 h)

pub word_past : (a k : ℕ) → 64 ≤ k → word_set a k ≡ false
word_past a k h = ap (λ b. b && bit a k) (le-ltb k 64 h)

pub word_member : (a k : ℕ) → k < 64 → eqb (bit_and (a / 2 ^ k) 1) 1 ≡ word_set a k
word_member a k h = ap (λ (x : ℕ). eqb x 1) (and_mask (a / 2 ^ k) 1) ∙ sym (word_bit a k h)

pub word_size : (a : ℕ) → a < 2 ^ 64 → ones a ≡ count (word_set a) 64
word_size a h =
    ap ones (sym (mod-eq_of_lt h)) ∙ sym (count_bits a 64) ∙ count_same (bit a) (word_set a) 64 (λ k l. sym (word_bit a k l))

-- bit by bit below 64, and nothing past that
by_bits : (a : ℕ) (s : Numbers) → ((j : ℕ) → j < 64 → bit a j ≡ s j) → ((j : ℕ) → 64 ≤ j → s j ≡ false) → Same (word_set a) s
by_bits a s low high j =
    elim (cases_lt j 64) [ inl h ↦ word_bit a j h ∙ low j h | inr h ↦ word_past a j h ∙ sym (high j h) ]

pub word_with : (a k : ℕ) → k < 64 → Same (word_set (bit_or a (2 ^ k))) (with (word_set a) k)
word_with a k h =
    by_bits (bit_or a (2 ^ k)) (with (word_set a) k)
    (λ j l. bit_of_or a (2 ^ k) j ∙ or_comm (bit a j) (bit (2 ^ k) j) ∙ ap₂ (λ x y. x || y) (bit_single k j) (sym (word_bit a j l)))
    (λ j l. ap₂ (λ x y. x || y) (ne_eqb j k (λ e. omega arith)) (word_past a j l))

pub word_full : (a k : ℕ) → 64 ≤ k → Below 64 (with (word_set a) k) → ⊥
word_full a k h u = let l : k < 64 = u k (true_holds (eqb k k || word_set a k) (ap (λ b. b || word_set a k) (eq-eqb k k refl))) in omega arith

pub word_without : (a k : ℕ) → k < 64 → Same (word_set (bit_and a (2 ^ 64 - 1 - 2 ^ k))) (without (word_set a) k)
word_without a k h =
    by_bits (bit_and a (2 ^ 64 - 1 - 2 ^ k)) (without (word_set a) k)
    (λ j l. bit_of_and a (2 ^ 64 - 1 - 2 ^ k) j ∙ and_comm (bit a j) (bit (2 ^ 64 - 1 - 2 ^ k) j)
    ∙ ap₂ (λ x y. x && y) (bit_not 64 (2 ^ k) j (pow_below k 64 h) l ∙ ap not (bit_single k j)) (sym (word_bit a j l)))
    (λ j l. ap (λ x. not (eqb j k) && x) (word_past a j l) ∙ and-false (not (eqb j k)))

-- the bits below n
pub word_low : (n : ℕ) → Same (word_set (2 ^ n - 1)) (λ k. ltb k 64 && ltb k n)
word_low n k = ap (λ b. ltb k 64 && b) (bit_low n k)

pub word_all : (n : ℕ) → 64 ≤ n → Same (word_set (2 ^ 64 - 1)) (λ k. ltb k 64 && ltb k n)
word_all n h k =
    word_low 64 k ∙ elim (cases_lt k 64) [
      | inl l ↦ ap (λ b. ltb k 64 && b) (lt-ltb k 64 l ∙ sym (lt-ltb k n (omega arith)))
      | inr ge ↦ ap (λ b. b && ltb k 64) (le-ltb k 64 ge) ∙ sym (ap (λ b. b && ltb k n) (le-ltb k 64 ge))
    ]

-- what two words have in common
pub word_and : (a b k : ℕ) → word_set (bit_and a b) k ≡ (word_set a k && word_set b k)
word_and a b k =
    elim (cases_lt k 64) [
      | inl h ↦ word_bit (bit_and a b) k h ∙ bit_of_and a b k ∙ ap₂ (λ x y. x && y) (sym (word_bit a k h)) (sym (word_bit b k h))
      | inr h ↦ word_past (bit_and a b) k h ∙ ap (λ x. x && word_set b k) (sym (word_past a k h))
    ]

-- words with the same set are equal
pub word_same : (a b : ℕ) → a < 2 ^ 64 → b < 2 ^ 64 → Same (word_set a) (word_set b) → a ≡ b
word_same a b ha hb e = bits_same 64 a b ha hb (λ k h. sym (word_bit a k h) ∙ e k ∙ word_bit b k h)

pub word_none : (k : ℕ) → word_set 0 k ≡ false
word_none k = elim (cases_lt k 64) [ inl h ↦ word_bit 0 k h ∙ bit_past 0 k (pow_pos k) | inr h ↦ word_past 0 k h ]

and_keeps : (a b : Bool) → (T a → T b) → (a && b) ≡ a
and_keeps true b h = holds_true b (h tt)
and_keeps false b h = refl

and_never : (a b : Bool) → (T a → T b → ⊥) → (a && b) ≡ false
and_never true true h = absurd (h tt tt)
and_never true false h = refl
and_never false b h = refl

pub word_within : (a b : ℕ) → a < 2 ^ 64 → Decides (eqb (bit_and a b) a) (Within (word_set a) (word_set b))
word_within a b ha = (
  λ e k t.
      let both : T (word_set a k && word_set b k) = subst T (ap (λ x. word_set x k) (sym (eqb-true (bit_and a b) a e)) ∙ word_and a b k) t in
      (and_T (word_set a k) (word_set b k) both).1,
  λ w. eq-eqb (bit_and a b) a
      (word_same (bit_and a b) a (omega (arith, and_le_l a b)) ha (λ k. word_and a b k ∙ and_keeps (word_set a k) (word_set b k) (w k))),
)

pub word_apart : (a b : ℕ) → a < 2 ^ 64 → Decides (eqb (bit_and a b) 0) (Apart (word_set a) (word_set b))
word_apart a b ha = (
  λ e k s t.
      subst T (sym (word_and a b k) ∙ ap (λ x. word_set x k) (eqb-true (bit_and a b) 0 e) ∙ word_none k) (T_and (word_set a k) (word_set b k) s t),
  λ w. eq-eqb (bit_and a b) 0
      (word_same (bit_and a b) 0 (omega (arith, and_le_l a b)) (omega arith)
      (λ k. word_and a b k ∙ and_never (word_set a k) (word_set b k) (w k) ∙ sym (word_none k))),
)

-- m is the word a without the bits below k
module _ (a k m : ℕ) (ha : a < 2 ^ 64) (hm : m < 2 ^ 64) (is : (j : ℕ) → j < 64 → bit m j ≡ (bit a j && leb k j)) where
  masked_off : (j : ℕ) → k ≤ j → bit m j ≡ false → T (word_set a j) → ⊥
  masked_off j l e t =
      let p = and_T (ltb j 64) (bit a j) t in
      let h : j < 64 = ltb→lt j 64 p.0 in
      subst T (sym (is j h) ∙ e) (T_and (bit a j) (leb k j) p.1 (le→leb k j l))

  pub masked_none : m ≡ 0 → NoneFrom (word_set a) k
  masked_none e j l t = masked_off j l (ap (λ x. bit x j) e ∙ bit_past 0 j (pow_pos j)) t

  pub masked_next : m ≢ 0 → Lowest (word_set a) k (count_trailing_zeros 64 m)
  masked_next ne =
      let z = trailing_some 64 m hm ne in
      let n = count_trailing_zeros 64 m in
      let p = and_T (bit a n) (leb k n) (true_holds (bit a n && leb k n) (sym (is n z) ∙ trailing_here 64 m z)) in
      record {
        member = true_holds (word_set a n) (word_bit a n z ∙ holds_true (bit a n) p.0);
        above = leb→le k n p.1;
        first = λ j l h t. masked_off j l (trailing_low 64 m j h) t;
      }

  -- what `then` gives of it
  pub masked_lowest : (o : Option ℕ) → is_some o ≡ not (eqb m 0) → IfSome o (λ n. n ≡ count_trailing_zeros 64 m) → MatchOption o (NoneFrom (word_set a) k) (Lowest (word_set a) k)
  masked_lowest None e s = masked_none (eqb-true m 0 (not-false (eqb m 0) (sym e)))
  masked_lowest (Some n) e s = subst (Lowest (word_set a) k) (sym s) (masked_next (eqb-false m 0 (not-true (eqb m 0) (sym e))))

pub word_lowest : (a : ℕ) → a < 2 ^ 64 → a ≢ 0 → (count_trailing_zeros 64 a < 64) × T (word_set a (count_trailing_zeros 64 a))
word_lowest a h ne =
    let z = trailing_some 64 a h ne in
    let n = count_trailing_zeros 64 a in
    (z, true_holds (word_set a n) (word_bit a n z ∙ trailing_here 64 a z))
