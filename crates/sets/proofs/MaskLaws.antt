-- What masks owe, over plain words.
use Rattle.std.proofs.Common.{Option, MatchOption, IfSome, is_some, ◌≡◌, ℕ, zero, suc, ◌+◌, ◌*◌, ◌-◌, ◌/◌, ◌%◌, ◌^◌, ◌<◌, Bool, true, false, not, ◌&&◌, ◌||◌, T, eqb, leb, nat_lt, ◌≢◌, Decides, List, [], ◌∷◌, get_or, sym, refl, ap, ap₂, ◌∙◌, subst, inl, inr, arith, ltb→lt}
use lib.Bits.{bit_and, bit_or, bit_xor}
use lib.Count.{count_trailing_zeros}
use Rattle.std.proofs.lemmas.Bool.{cases_lt, lt-ltb, le-ltb, eq-eqb, eqb-true, le-leb}
use Rattle.sets.specs.Sets.{nothing, Same, Lowest, NoneFrom}
use Rattle.sets.specs.Truth.{and_T, fails_false}
use Rattle.sets.specs.Words.{bit, word_set}
use Rattle.sets.specs.Masks.{unlike}
use Rattle.sets.proofs.Bitwise.{bit_of_and, bit_of_or, bit_of_xor, bit_not, trailing_low}
use Rattle.sets.proofs.WordLaws.{word_bit, word_past, word_none, word_same, word_lowest, masked_lowest}
use Rattle.sets.proofs.MarkLaws.{held}

-- ---- two words

pub word_or : (a b k : ℕ) → word_set (bit_or a b) k ≡ (word_set a k || word_set b k)
word_or a b k =
    elim (cases_lt k 64) [
      | inl h ↦ word_bit (bit_or a b) k h ∙ bit_of_or a b k ∙ ap₂ (λ x y. x || y) (sym (word_bit a k h)) (sym (word_bit b k h))
      | inr h ↦ word_past (bit_or a b) k h ∙ sym (ap₂ (λ x y. x || y) (word_past a k h) (word_past b k h))
    ]

pub word_unlike : (a b k : ℕ) → word_set (bit_xor a b) k ≡ unlike (word_set a k) (word_set b k)
word_unlike a b k =
    elim (cases_lt k 64) [
      | inl h ↦ word_bit (bit_xor a b) k h ∙ bit_of_xor a b k ∙ ap₂ unlike (sym (word_bit a k h)) (sym (word_bit b k h))
      | inr h ↦ word_past (bit_xor a b) k h ∙ sym (ap₂ unlike (word_past a k h) (word_past b k h))
    ]

pub word_minus : (a b k : ℕ) → b < 2 ^ 64 → word_set (bit_and a (2 ^ 64 - 1 - b)) k ≡ (word_set a k && not (word_set b k))
word_minus a b k low =
    elim (cases_lt k 64) [
      | inl h ↦
          word_bit (bit_and a (2 ^ 64 - 1 - b)) k h ∙ bit_of_and a (2 ^ 64 - 1 - b) k
          ∙ ap₂ (λ x y. x && y) (sym (word_bit a k h)) (bit_not 64 b k low h ∙ ap not (sym (word_bit b k h)))
      | inr h ↦ word_past (bit_and a (2 ^ 64 - 1 - b)) k h ∙ ap (λ x. x && not (word_set b k)) (sym (word_past a k h))
    ]

-- ---- four words and four

four : (f : ℕ → ℕ → ℕ) (xs ys : List ℕ) (i : ℕ) → i < 4
    → get_or (f (get_or xs 0 0) (get_or ys 0 0) ∷ f (get_or xs 1 0) (get_or ys 1 0) ∷ f (get_or xs 2 0) (get_or ys 2 0) ∷ f (get_or xs 3 0) (get_or ys 3 0) ∷ []) i 0 ≡ f (get_or xs i 0) (get_or ys i 0)
four f xs ys zero h = refl
four f xs ys (suc zero) h = refl
four f xs ys (suc (suc zero)) h = refl
four f xs ys (suc (suc (suc zero))) h = refl
four f xs ys (suc (suc (suc (suc i)))) h = absurd (omega arith)

-- each of four words fits, where the four do
pub all_four : (xs : List ℕ) (m : ℕ) → get_or xs 0 0 < m → get_or xs 1 0 < m → get_or xs 2 0 < m → get_or xs 3 0 < m → (i : ℕ) → i < 4 → get_or xs i 0 < m
all_four xs m a b c d zero l = a
all_four xs m a b c d (suc zero) l = b
all_four xs m a b c d (suc (suc zero)) l = c
all_four xs m a b c d (suc (suc (suc zero))) l = d
all_four xs m a b c d (suc (suc (suc (suc i)))) l = absurd (omega arith)

-- an operation on words is one on what they hold, bit by bit
pub each_word : (f : ℕ → ℕ → ℕ) (g : Bool → Bool → Bool) → g false false ≡ false → (xs ys : List ℕ) → ((i k : ℕ) → i < 4 → word_set (f (get_or xs i 0) (get_or ys i 0)) k ≡ g (word_set (get_or xs i 0) k) (word_set (get_or ys i 0) k)) → (k : ℕ)
    → (nat_lt k 256 && held (f (get_or xs 0 0) (get_or ys 0 0) ∷ f (get_or xs 1 0) (get_or ys 1 0) ∷ f (get_or xs 2 0) (get_or ys 2 0) ∷ f (get_or xs 3 0) (get_or ys 3 0) ∷ []) k) ≡ g (nat_lt k 256 && held xs k) (nat_lt k 256 && held ys k)
each_word f g none xs ys h k =
    let zs = f (get_or xs 0 0) (get_or ys 0 0) ∷ f (get_or xs 1 0) (get_or ys 1 0) ∷ f (get_or xs 2 0) (get_or ys 2 0) ∷ f (get_or xs 3 0) (get_or ys 3 0) ∷ [] in
    elim (cases_lt k 256) [
      | inl l ↦
          let i : k / 64 < 4 = omega arith in
          let in' = lt-ltb k 256 l in
          ap₂ (λ b w. b && word_set w (k % 64)) in' (four f xs ys (k / 64) i)
          ∙ h (k / 64) (k % 64) i
          ∙ sym (ap (λ b. g (b && held xs k) (b && held ys k)) in')
      | inr ge ↦
          let out = le-ltb k 256 ge in
          ap (λ b. b && held zs k) out ∙ sym none ∙ sym (ap (λ b. g (b && held xs k) (b && held ys k)) out)
    ]

-- ---- whether there are any, and the lowest

pub word_is_none : (a : ℕ) → a < 2 ^ 64 → Decides (eqb a 0) (Same (word_set a) nothing)
word_is_none a h = (
  λ e k. ap (λ n. word_set n k) (eqb-true a 0 e) ∙ word_none k,
  λ none. eq-eqb a 0 (word_same a 0 h (omega arith) (λ k. none k ∙ sym (word_none k))),
)

pub lowest_of_word : (a : ℕ) → a < 2 ^ 64 → (o : Option ℕ) → is_some o ≡ not (eqb a 0) → IfSome o (λ n. n ≡ count_trailing_zeros 64 a) → MatchOption o (NoneFrom (word_set a) 0) (Lowest (word_set a) 0)
lowest_of_word a h = masked_lowest a 0 a h h (λ j l. all (bit a j) (leb 0 j) (le-leb 0 j (omega arith))) where
  all : (x y : Bool) → y ≡ true → x ≡ (x && y)
  all true y e = sym e
  all false y e = refl

module _ (ws : List ℕ) where
  low_at : (k : ℕ) → T (nat_lt k 256 && held ws k) → k / 64 < 4
  low_at k t = let l : k < 256 = ltb→lt k 256 (and_T (nat_lt k 256) (held ws k) t).0 in omega arith

  not_zero : (k : ℕ) → get_or ws (k / 64) 0 ≡ 0 → T (nat_lt k 256 && held ws k) → ⊥
  not_zero k e t = subst T (ap (λ n. word_set n (k % 64)) e ∙ word_none (k % 64)) (and_T (nat_lt k 256) (held ws k) t).1

  -- bit t of word w
  at_bit : (w t : ℕ) → w < 4 → t < 64 → (nat_lt (64 * w + t) 256 && held ws (64 * w + t)) ≡ word_set (get_or ws w 0) t
  at_bit w t lw lt =
      let i : (64 * w + t) / 64 ≡ w = omega arith in
      let j : (64 * w + t) % 64 ≡ t = omega arith in
      ap (λ b. b && held ws (64 * w + t)) (lt-ltb (64 * w + t) 256 (omega arith)) ∙ ap₂ (λ (x : ℕ) (y : ℕ). word_set (get_or ws x 0) y) i j

  pub words_none : ((i : ℕ) → i < 4 → get_or ws i 0 ≡ 0) → NoneFrom (λ k. nat_lt k 256 && held ws k) 0
  words_none h j l t = not_zero j (h (j / 64) (low_at j t)) t

  pub words_lowest : (w : ℕ) → w < 4 → ((i : ℕ) → i < w → get_or ws i 0 ≡ 0) → get_or ws w 0 < 2 ^ 64 → get_or ws w 0 ≢ 0 → Lowest (λ k. nat_lt k 256 && held ws k) 0 (64 * w + count_trailing_zeros 64 (get_or ws w 0))
  words_lowest w lw zeros fits ne =
      let a = get_or ws w 0 in
      let n = count_trailing_zeros 64 a in
      let low = word_lowest a fits ne in
      record {
        member = subst T (sym (at_bit w n lw low.0)) low.1;
        above = omega arith;
        first = λ j z l t.
            elim (cases_lt (j / 64) w) [
              | inl lt ↦ not_zero j (zeros (j / 64) lt) t
              | inr ge ↦
                  let q : j / 64 ≡ w = omega arith in
                  let r : j % 64 < n = omega arith in
                  let here = (and_T (nat_lt j 256) (held ws j) t).1 in
                  let m = and_T (nat_lt (j % 64) 64) (bit (get_or ws (j / 64) 0) (j % 64)) here in
                  subst T (ap (λ i. bit (get_or ws i 0) (j % 64)) q ∙ trailing_low 64 a (j % 64) r) m.1
            ];
      }

  pub words_are_none : (b : Bool) → Decides b ((get_or ws 0 0 ≡ 0) × (get_or ws 1 0 ≡ 0) × (get_or ws 2 0 ≡ 0) × (get_or ws 3 0 ≡ 0)) → ((i : ℕ) → i < 4 → get_or ws i 0 < 2 ^ 64) → Decides b (Same (λ k. nat_lt k 256 && held ws k) nothing)
  words_are_none b d fits = (
    λ e k. fails_false (nat_lt k 256 && held ws k) (words_none (zeros (d.0 e)) k (omega arith)),
    λ none. d.1 (word none 0 (omega arith), word none 1 (omega arith), word none 2 (omega arith), word none 3 (omega arith)),
  )
    where
      zeros : (get_or ws 0 0 ≡ 0) × (get_or ws 1 0 ≡ 0) × (get_or ws 2 0 ≡ 0) × (get_or ws 3 0 ≡ 0) → (i : ℕ) → i < 4 → get_or ws i 0 ≡ 0
      zeros z zero l = z.0
      zeros z (suc zero) l = z.1
      zeros z (suc (suc zero)) l = z.2
      zeros z (suc (suc (suc zero))) l = z.3
      zeros z (suc (suc (suc (suc i)))) l = absurd (omega arith)

      word : Same (λ k. nat_lt k 256 && held ws k) nothing → (i : ℕ) → i < 4 → get_or ws i 0 ≡ 0
      word none i l =
          word_same (get_or ws i 0) 0 (fits i l) (omega arith)
          (λ k. elim (cases_lt k 64) [
            | inl lt ↦ sym (at_bit i k l lt) ∙ none (64 * i + k) ∙ sym (word_none k)
            | inr ge ↦ word_past (get_or ws i 0) k ge ∙ sym (word_none k)
          ])
