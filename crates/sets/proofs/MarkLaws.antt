-- What the marks owe, over a plain list of words.
use Rattle.std.proofs.Common.{◌≡◌, ℕ, zero, suc, ◌/◌, ◌%◌, ◌^◌, ◌-◌, ◌*◌, ◌<◌, Bool, true, false, not, ◌&&◌, ◌||◌, ◌==◌, cond, nat_lt, T, eqb, Decides, subst, mod-eq_of_lt, List, [], ◌∷◌, length, get_or, set, sym, refl, ap, ap₂, ◌∙◌, inl, inr, arith, get_or-set_same, get_or-set_other}
use native.Mathlib.Nat.{div-eq_of_lt}
use lib.Bits.{bit_and, bit_or}
use Rattle.std.proofs.lemmas.Bool.{cases_eq, cases_lt, eq-eqb, ne_eqb, lt-ltb, le-ltb}
use Rattle.std.proofs.lemmas.List.{get_or_past}
use Rattle.std.proofs.lemmas.Bool.Decides.{Decides-like}
use Rattle.std.proofs.lemmas.Nat.{div-add-mod'}
use Rattle.sets.specs.Sets.{Numbers, with, without, Within, Apart, Same}
use Rattle.sets.specs.Words.{word_set}
use Rattle.sets.specs.WordBelow.{word_under}
use Rattle.sets.proofs.WordLaws.{word_with, word_without, word_within, word_apart, word_past, word_none}

-- the numbers that the words hold
abbrev pub held : List ℕ → Numbers
held ws j = word_set (get_or ws (j / 64) 0) (j % 64)

same_place : (j k : ℕ) → j / 64 ≡ k / 64 → (j % 64 == k % 64) ≡ (j == k)
same_place j k e =
    elim (cases_eq j k) [
      | inl q ↦ eq-eqb (j % 64) (k % 64) (ap (λ (x : ℕ). x % 64) q) ∙ sym (eq-eqb j k q)
      | inr d ↦ ne_eqb (j % 64) (k % 64) (λ q. d (omega (arith, div-add-mod' j 64, div-add-mod' k 64))) ∙ sym (ne_eqb j k d)
    ]

-- one word that differs at one bit
word_put : (ws : List ℕ) (k w : ℕ) (b : Bool) → k / 64 < length ws → Same (word_set w) (λ j. cond (j == k % 64) b (word_set (get_or ws (k / 64) 0) j)) → Same (held (set ws (k / 64) w)) (λ j. cond (j == k) b (held ws j))
word_put ws k w b h s j =
    elim (cases_eq (j / 64) (k / 64)) [
      | inl e ↦
          ap (λ v. word_set v (j % 64)) (ap (λ i. get_or (set ws (k / 64) w) i 0) e ∙ get_or-set_same ws (k / 64) w 0 h) ∙ s (j % 64)
          ∙ ap₂ (λ c v. cond c b v) (same_place j k e) (ap (λ i. word_set (get_or ws i 0) (j % 64)) (sym e))
      | inr d ↦
          ap (λ v. word_set v (j % 64)) (get_or-set_other ws (k / 64) (j / 64) w 0 d)
          ∙ ap (λ c. cond c b (held ws j)) (sym (ne_eqb j k (λ q. d (ap (λ (x : ℕ). x / 64) q))))
    ]

with_cond : (s : Numbers) (k : ℕ) → Same (with s k) (λ j. cond (j == k) true (s j))
with_cond s k j =
    elim (j == k) as (λ c. (c || s j) ≡ cond c true (s j)) [ true ↦ refl | false ↦ refl ]

without_cond : (s : Numbers) (k : ℕ) → Same (without s k) (λ j. cond (j == k) false (s j))
without_cond s k j =
    elim (j == k) as (λ c. (not c && s j) ≡ cond c false (s j)) [ true ↦ refl | false ↦ refl ]

low_cond : (k j : ℕ) (b c : Bool) → k < 256 → cond (j == k) b c ≡ cond (nat_lt k 256 && j == k) b c
low_cond k j b c h = ap (λ l. cond (l && j == k) b c) (sym (lt-ltb k 256 h))

pub mark_put : (ws : List ℕ) (k : ℕ) → k < 256 → k / 64 < length ws → Same (held (set ws (k / 64) (bit_or (get_or ws (k / 64) 0) (2 ^ (k % 64))))) (λ j. cond (nat_lt k 256 && j == k) true (held ws j))
mark_put ws k l h j =
    let a = get_or ws (k / 64) 0 in
    word_put ws k (bit_or a (2 ^ (k % 64))) true h (λ i. word_with a (k % 64) (omega arith) i ∙ with_cond (word_set a) (k % 64) i) j
    ∙ low_cond k j true (held ws j) l

pub mark_taken : (ws : List ℕ) (k : ℕ) → k < 256 → k / 64 < length ws → Same (held (set ws (k / 64) (bit_and (get_or ws (k / 64) 0) (2 ^ 64 - 1 - 2 ^ (k % 64))))) (λ j. cond (nat_lt k 256 && j == k) false (held ws j))
mark_taken ws k l h j =
    let a = get_or ws (k / 64) 0 in
    word_put ws k (bit_and a (2 ^ 64 - 1 - 2 ^ (k % 64))) false h (λ i. word_without a (k % 64) (omega arith) i ∙ without_cond (word_set a) (k % 64) i) j
    ∙ low_cond k j false (held ws j) l

-- ---- the numbers below one

-- the word of the bits below n
abbrev pub LowWord : ℕ → ℕ → Type 0
LowWord n w = Same (word_set w) (λ j. nat_lt j 64 && nat_lt j n)

low_word : (n a b c d : ℕ) → LowWord n a → LowWord (n - 64) b → LowWord (n - 128) c → LowWord (n - 192) d → (i : ℕ) → i < 4 → LowWord (n - 64 * i) (get_or (a ∷ b ∷ c ∷ d ∷ []) i 0)
low_word n a b c d p q r s zero l = subst (λ m. LowWord m a) (omega arith) p
low_word n a b c d p q r s (suc zero) l = q
low_word n a b c d p q r s (suc (suc zero)) l = r
low_word n a b c d p q r s (suc (suc (suc zero))) l = s
low_word n a b c d p q r s (suc (suc (suc (suc i)))) l = absurd (omega arith)

low_place : (k n : ℕ) → nat_lt (k % 64) (n - 64 * (k / 64)) ≡ nat_lt k n
low_place k n =
    elim (cases_lt k n) [
      | inl l ↦ lt-ltb (k % 64) (n - 64 * (k / 64)) (omega (arith, div-add-mod' k 64)) ∙ sym (lt-ltb k n l)
      | inr ge ↦ le-ltb (k % 64) (n - 64 * (k / 64)) (omega (arith, div-add-mod' k 64)) ∙ sym (le-ltb k n ge)
    ]

pub held_below : (n a b c d : ℕ) → LowWord n a → LowWord (n - 64) b → LowWord (n - 128) c → LowWord (n - 192) d → Same (held (a ∷ b ∷ c ∷ d ∷ [])) (λ k. nat_lt k 256 && nat_lt k n)
held_below n a b c d p q r s k =
    let ws = a ∷ b ∷ c ∷ d ∷ [] in
    elim (cases_lt k 256) [
      | inl l ↦
          low_word n a b c d p q r s (k / 64) (omega arith) (k % 64)
          ∙ ap₂ (λ x y. x && y) (lt-ltb (k % 64) 64 (omega arith) ∙ sym (lt-ltb k 256 l)) (low_place k n)
      | inr ge ↦
          ap (λ w. word_set w (k % 64)) (get_or_past ws (k / 64) 0 (omega arith)) ∙ word_none (k % 64) ∙ sym (ap (λ x. x && nat_lt k n) (le-ltb k 256 ge))
    ]

-- ---- against one word

-- what is below 64 stands in the first word
pub held_low : (ws : List ℕ) (k : ℕ) → k < 64 → held ws k ≡ word_set (get_or ws 0 0) k
held_low ws k h =
    ap₂ (λ (i : ℕ) (j : ℕ). word_set (get_or ws i 0) j) (div-eq_of_lt h) (mod-eq_of_lt h)

pub word_all_held : (a : ℕ) (ws : List ℕ) → a < 2 ^ 64 → Decides (eqb (bit_and a (get_or ws 0 0)) a) (Within (word_set a) (held ws))
word_all_held a ws h =
    Decides-like (eqb (bit_and a (get_or ws 0 0)) a)
    (λ w k m. subst T (sym (held_low ws k (word_under a k m))) (w k m))
    (λ w k m. subst T (held_low ws k (word_under a k m)) (w k m))
    (word_within a (get_or ws 0 0) h)

pub word_none_held : (a : ℕ) (ws : List ℕ) → a < 2 ^ 64 → Decides (eqb (bit_and a (get_or ws 0 0)) 0) (Apart (word_set a) (held ws))
word_none_held a ws h =
    Decides-like (eqb (bit_and a (get_or ws 0 0)) 0)
    (λ w k m t. w k m (subst T (held_low ws k (word_under a k m)) t))
    (λ w k m t. w k m (subst T (sym (held_low ws k (word_under a k m))) t))
    (word_apart a (get_or ws 0 0) h)

rest_none : (a i : ℕ) → 0 < i → get_or (a ∷ 0 ∷ 0 ∷ 0 ∷ []) i 0 ≡ 0
rest_none a zero h = absurd (omega arith)
rest_none a (suc zero) h = refl
rest_none a (suc (suc zero)) h = refl
rest_none a (suc (suc (suc zero))) h = refl
rest_none a (suc (suc (suc (suc i)))) h = refl

pub held_word : (a : ℕ) → Same (held (a ∷ 0 ∷ 0 ∷ 0 ∷ [])) (word_set a)
held_word a k =
    elim (cases_lt k 64) [
      | inl h ↦ held_low (a ∷ 0 ∷ 0 ∷ 0 ∷ []) k h
      | inr h ↦
          ap (λ (w : ℕ). word_set w (k % 64)) (rest_none a (k / 64) (omega arith)) ∙ word_none (k % 64) ∙ sym (word_past a k h)
    ]
