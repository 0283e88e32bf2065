-- Laws of `bit`.
use Rattle.std.proofs.Common.{◌≡◌, ℕ, zero, suc, ◌+◌, ◌-◌, ◌*◌, ◌/◌, ◌%◌, ◌^◌, ◌<◌, Bool, true, false, not, ◌&&◌, ◌||◌, eqb, ltb, leb, ◌≢◌, sym, refl, ap, ◌∙◌, ap₂, inl, inr, le_of_suc-le-suc, not-suc-le-zero, add-zero, mod-eq_of_lt, mul_assoc, pow-suc, div-one, add-one, one-add, arith}
use native.Mathlib.Nat.{mod-one, div-eq_of_lt, mul-mod_left}
use lib.Bits.{bit_and, bit_or, bit_xor, and_shr, or_shr, xor_shr, and_mod, or_mod, xor_mod, and_mask, xor_add_and}
use lib.Count.{ones, count_trailing_zeros, under, ones_cat}
use Rattle.sets.specs.Sets.{one, count}
use Rattle.sets.specs.Words.{bit}
use Rattle.sets.specs.Masks.{unlike}
use Rattle.std.proofs.lemmas.Bool.{cases_order, cases_lt, lt-leb, le-leb, lt-ltb, le-ltb, eq-eqb, ne_eqb, eqb-true}
use Rattle.std.proofs.Math.Pow.{pow_mono}
use Rattle.std.proofs.Math.Bool.{and-true}
use Rattle.std.proofs.lemmas.Nat.{shl-shr, shr-shr, pow-add, pow_below, mod_below, mod-pow-add, pow_pos, div-add-mod', shr_below}

pub on_digits : (P : ℕ → ℕ → Type 0) → P 0 0 → P 0 1 → P 1 0 → P 1 1 → (x y : ℕ) → x < 2 → y < 2 → P x y
on_digits P a b c d zero zero hx hy = a
on_digits P a b c d zero (suc zero) hx hy = b
on_digits P a b c d zero (suc (suc y)) hx hy = absurd (omega arith)
on_digits P a b c d (suc zero) zero hx hy = c
on_digits P a b c d (suc zero) (suc zero) hx hy = d
on_digits P a b c d (suc zero) (suc (suc y)) hx hy = absurd (omega arith)
on_digits P a b c d (suc (suc x)) y hx hy = absurd (omega arith)

pub bit_of_and : (a b k : ℕ) → bit (bit_and a b) k ≡ (bit a k && bit b k)
bit_of_and a b k =
    ap (λ (x : ℕ). eqb (x % 2) 1) (and_shr a b k) ∙ ap (λ (x : ℕ). eqb x 1) (and_mod (a / 2 ^ k) (b / 2 ^ k) 1)
    ∙ on_digits (λ x y. eqb (bit_and x y) 1 ≡ (eqb x 1 && eqb y 1)) refl refl refl refl (a / 2 ^ k % 2) (b / 2 ^ k % 2) (mod_below (a / 2 ^ k) 2 (omega arith)) (mod_below (b / 2 ^ k) 2 (omega arith))

pub bit_of_or : (a b k : ℕ) → bit (bit_or a b) k ≡ (bit a k || bit b k)
bit_of_or a b k =
    ap (λ (x : ℕ). eqb (x % 2) 1) (or_shr a b k) ∙ ap (λ (x : ℕ). eqb x 1) (or_mod (a / 2 ^ k) (b / 2 ^ k) 1)
    ∙ on_digits (λ x y. eqb (bit_or x y) 1 ≡ (eqb x 1 || eqb y 1)) refl refl refl refl (a / 2 ^ k % 2) (b / 2 ^ k % 2) (mod_below (a / 2 ^ k) 2 (omega arith)) (mod_below (b / 2 ^ k) 2 (omega arith))

pub bit_of_xor : (a b k : ℕ) → bit (bit_xor a b) k ≡ unlike (bit a k) (bit b k)
bit_of_xor a b k =
    ap (λ (x : ℕ). eqb (x % 2) 1) (xor_shr a b k) ∙ ap (λ (x : ℕ). eqb x 1) (xor_mod (a / 2 ^ k) (b / 2 ^ k) 1)
    ∙ on_digits (λ x y. eqb (bit_xor x y) 1 ≡ unlike (eqb x 1) (eqb y 1)) refl refl refl refl (a / 2 ^ k % 2) (b / 2 ^ k % 2) (mod_below (a / 2 ^ k) 2 (omega arith)) (mod_below (b / 2 ^ k) 2 (omega arith))

pub bit_zero : (n : ℕ) → bit n 0 ≡ eqb (n % 2) 1
bit_zero n = ap (λ (x : ℕ). eqb (x % 2) 1) (div-one n)

pub bit_shr : (n k j : ℕ) → bit (n / 2 ^ k) j ≡ bit n (k + j)
bit_shr n k j = ap (λ (x : ℕ). eqb (x % 2) 1) (shr-shr n k j)

pub bit_suc : (n j : ℕ) → bit n (suc j) ≡ bit (n / 2) j
bit_suc n j = ap (bit n) (sym (one-add j)) ∙ sym (bit_shr n 1 j)

-- past a number's length no bit is set
pub bit_past : (n k : ℕ) → n < 2 ^ k → bit n k ≡ false
bit_past n k h = ap (λ (x : ℕ). eqb (x % 2) 1) (div-eq_of_lt h)

pub bit_single_same : (k : ℕ) → bit (2 ^ k) k ≡ true
bit_single_same k = ap (λ (x : ℕ). eqb (x % 2) 1) (ap (λ (x : ℕ). x / 2 ^ k) (omega arith) ∙ shl-shr 1 k)

pub bit_single_below : (j d : ℕ) → bit (2 ^ (suc d + j)) j ≡ false
bit_single_below j d =
    ap (λ (x : ℕ). eqb (x % 2) 1) (ap (λ (x : ℕ). x / 2 ^ j) (pow-add 2 (suc d) j) ∙ shl-shr (2 ^ suc d) j)
    ∙ ap (λ (x : ℕ). eqb x 1) (ap (λ (x : ℕ). x % 2) (pow-suc 2 d) ∙ mul-mod_left (2 ^ d) 2)

pub bit_single : (k j : ℕ) → bit (2 ^ k) j ≡ eqb j k
bit_single k j =
    elim (cases_order j k) [
      | inl e ↦ ap (λ (x : ℕ). bit (2 ^ k) x) e ∙ bit_single_same k ∙ sym (eq-eqb j k e)
      | inr r ↦ elim r [
        | inl l ↦
            let e : k ≡ suc (k - suc j) + j = omega arith in
            ap (λ (x : ℕ). bit (2 ^ x) j) e ∙ bit_single_below j (k - suc j) ∙ sym (ne_eqb j k (λ q. omega arith))
        | inr l ↦ bit_past (2 ^ k) j (pow_below k j l) ∙ sym (ne_eqb j k (λ q. omega arith))
      ]
    ]

-- numbers with the same bits are equal
digit_same : (x y : ℕ) → x < 2 → y < 2 → eqb x 1 ≡ eqb y 1 → x ≡ y
digit_same = on_digits (λ x y. eqb x 1 ≡ eqb y 1 → x ≡ y) (λ e. refl) (λ e. eqb-true 0 1 e) (λ e. sym (eqb-true 0 1 (sym e))) (λ e. refl)

pub bits_same : (n a b : ℕ) → a < 2 ^ n → b < 2 ^ n → ((k : ℕ) → k < n → bit a k ≡ bit b k) → a ≡ b
bits_same zero a b ha hb h = omega arith
bits_same (suc n) a b ha hb h =
    let hi : a / 2 ≡ b / 2 =
    bits_same n (a / 2) (b / 2) (shr_below a n 1 (rw add-one ha)) (shr_below b n 1 (rw add-one hb))
    (λ k l. sym (bit_suc a k) ∙ h (suc k) (omega arith) ∙ bit_suc b k) in
    let lo : a % 2 ≡ b % 2 =
    digit_same (a % 2) (b % 2) (mod_below a 2 (omega arith)) (mod_below b 2 (omega arith)) (sym (bit_zero a) ∙ h 0 (omega arith) ∙ bit_zero b) in
    omega (arith, div-add-mod' a 2, div-add-mod' b 2)

-- `!n` of w bits
pub bit_ones : (w k : ℕ) → k < w → bit (2 ^ w - 1) k ≡ true
bit_ones w k h =
    let e : bit_and (2 ^ k) (2 ^ w - 1) ≡ 2 ^ k = and_mask (2 ^ k) w ∙ mod-eq_of_lt (pow_below k w h) in
    let both : (bit (2 ^ k) k && bit (2 ^ w - 1) k) ≡ true = sym (bit_of_and (2 ^ k) (2 ^ w - 1) k) ∙ ap (λ (x : ℕ). bit x k) e ∙ bit_single_same k in
    ap (λ b. b && bit (2 ^ w - 1) k) (sym (bit_single_same k)) ∙ both

pub bit_low : (n k : ℕ) → bit (2 ^ n - 1) k ≡ ltb k n
bit_low n k =
    elim (cases_lt k n) [
      | inl l ↦ bit_ones n k l ∙ sym (lt-ltb k n l)
      | inr ge ↦ bit_past (2 ^ n - 1) k (omega (arith, pow_mono ge, pow_pos n)) ∙ sym (le-ltb k n ge)
    ]

pub not_is_xor : (w n : ℕ) → n < 2 ^ w → 2 ^ w - 1 - n ≡ bit_xor n (2 ^ w - 1)
not_is_xor w n h =
    let e : bit_and n (2 ^ w - 1) ≡ n = and_mask n w ∙ mod-eq_of_lt h in
    omega (arith, xor_add_and n (2 ^ w - 1))

unlike_true : (b : Bool) → unlike b true ≡ not b
unlike_true true = refl
unlike_true false = refl

pub bit_not : (w n k : ℕ) → n < 2 ^ w → k < w → bit (2 ^ w - 1 - n) k ≡ not (bit n k)
bit_not w n k h l =
    ap (λ (x : ℕ). bit x k) (not_is_xor w n h) ∙ bit_of_xor n (2 ^ w - 1) k ∙ ap (unlike (bit n k)) (bit_ones w k l) ∙ unlike_true (bit n k)

-- ---- trailing zeros

low_step : (w d t : ℕ) → w % 2 ≡ d → ((j : ℕ) → j < t → bit (w / 2) j ≡ false) → (j : ℕ) → j < under d t → bit w j ≡ false
low_step w zero t e ih zero h = bit_zero w ∙ ap (λ (x : ℕ). eqb x 1) e
low_step w zero t e ih (suc j) h = bit_suc w j ∙ ih j (le_of_suc-le-suc h)
low_step w (suc d) t e ih j h = absurd (not-suc-le-zero h)

-- the bits below the count are clear
pub trailing_low : (n w j : ℕ) → j < count_trailing_zeros n w → bit w j ≡ false
unfolding count_trailing_zeros
trailing_low zero w j h = absurd (not-suc-le-zero h)
trailing_low (suc n) w j h = low_step w (w % 2) (count_trailing_zeros n (w / 2)) refl (trailing_low n (w / 2)) j h

here_step : (w d t n : ℕ) → w % 2 ≡ d → (t < n → bit (w / 2) t ≡ true) → under d t < suc n → bit w (under d t) ≡ true
here_step w zero t n e ih h = bit_suc w t ∙ ih (le_of_suc-le-suc h)
here_step w (suc zero) t n e ih h = bit_zero w ∙ ap (λ (x : ℕ). eqb x 1) e
here_step w (suc (suc d)) t n e ih h = absurd (omega (arith, mod_below w 2 (omega arith)))

-- the bit at the count is set
pub trailing_here : (n w : ℕ) → count_trailing_zeros n w < n → bit w (count_trailing_zeros n w) ≡ true
unfolding count_trailing_zeros
trailing_here zero w h = absurd (not-suc-le-zero h)
trailing_here (suc n) w h = here_step w (w % 2) (count_trailing_zeros n (w / 2)) n refl (trailing_here n (w / 2)) h

some_step : (w d t n : ℕ) → w % 2 ≡ d → (w / 2 ≢ 0 → t < n) → w ≢ 0 → under d t < suc n
some_step w zero t n e ih h = let l : t < n = ih (λ z. h (omega (arith, div-add-mod' w 2))) in omega arith
some_step w (suc d) t n e ih h = omega arith

pub trailing_some : (n w : ℕ) → w < 2 ^ n → w ≢ 0 → count_trailing_zeros n w < n
unfolding count_trailing_zeros
trailing_some zero w l h = absurd (h (omega arith))
trailing_some (suc n) w l h =
    some_step w (w % 2) (count_trailing_zeros n (w / 2)) n refl (trailing_some n (w / 2) (shr_below w n 1 (rw add-one l))) h

-- ---- the count of a word's bits

ones_digit : (d : ℕ) → d < 2 → ones d ≡ one (eqb d 1)
unfolding ones
ones_digit zero h = refl
ones_digit (suc zero) h = refl
ones_digit (suc (suc d)) h = absurd (omega arith)

pub count_bits : (n k : ℕ) → count (bit n) k ≡ ones (n % 2 ^ k)
unfolding count ones
count_bits n zero = sym (ap ones (mod-one n))
count_bits n (suc k) =
    ap₂ (λ (x y : ℕ). x + y) (sym (ones_digit (n / 2 ^ k % 2) (mod_below (n / 2 ^ k) 2 (omega arith)))) (count_bits n k)
    ∙ sym (ones_cat k (n / 2 ^ k % 2) (n % 2 ^ k) (mod_below n (2 ^ k) (pow_pos k)))
    ∙ ap ones (sym (mod-pow-add n 1 k) ∙ ap (λ (x : ℕ). n % 2 ^ x) (one-add k))

-- ---- shifts up, and what a width keeps

pub bit_mod : (n w j : ℕ) → j < w → bit (n % 2 ^ w) j ≡ bit n j
bit_mod n w j h =
    ap (λ (x : ℕ). bit x j) (sym (and_mask n w)) ∙ bit_of_and n (2 ^ w - 1) j ∙ ap (λ b. bit n j && b) (bit_ones w j h) ∙ and-true (bit n j)

pub bit_shl : (n k d : ℕ) → bit (n * 2 ^ k) (k + d) ≡ bit n d
bit_shl n k d = sym (bit_shr (n * 2 ^ k) k d) ∙ ap (λ (x : ℕ). bit x d) (shl-shr n k)

pub bit_shl_low : (n j d : ℕ) → bit (n * 2 ^ (suc d + j)) j ≡ false
bit_shl_low n j d =
    ap (λ (x : ℕ). bit x j) (ap (λ (x : ℕ). n * x) (pow-add 2 (suc d) j) ∙ sym (mul_assoc n (2 ^ suc d) (2 ^ j)))
    ∙ ap (bit (n * 2 ^ suc d * 2 ^ j)) (sym (add-zero j)) ∙ bit_shl (n * 2 ^ suc d) j 0 ∙ bit_zero (n * 2 ^ suc d)
    ∙ ap (λ (x : ℕ). eqb (x % 2) 1) (ap (λ (x : ℕ). n * x) (pow-suc 2 d) ∙ sym (mul_assoc n (2 ^ d) 2))
    ∙ ap (λ (x : ℕ). eqb x 1) (mul-mod_left (n * 2 ^ d) 2)

-- `MAX << k`
pub bit_mask : (w k j : ℕ) → j < w → bit (((2 ^ w - 1) * 2 ^ k) % 2 ^ w) j ≡ leb k j
bit_mask w k j h =
    bit_mod ((2 ^ w - 1) * 2 ^ k) w j h ∙ elim (cases_lt j k) as (λ _. bit ((2 ^ w - 1) * 2 ^ k) j ≡ leb k j) [
      | inl l ↦
          let e : k ≡ suc (k - suc j) + j = omega arith in
          ap (λ (x : ℕ). bit ((2 ^ w - 1) * 2 ^ x) j) e ∙ bit_shl_low (2 ^ w - 1) j (k - suc j) ∙ sym (lt-leb k j l)
      | inr l ↦
          let e : j ≡ k + (j - k) = omega arith in
          ap (bit ((2 ^ w - 1) * 2 ^ k)) e ∙ bit_shl (2 ^ w - 1) k (j - k) ∙ bit_ones w (j - k) (omega arith) ∙ sym (le-leb k j l)
    ]
