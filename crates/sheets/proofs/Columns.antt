-- The three columns in which a number below 1,000 stands.
use Rattle.std.proofs.Common.{◌≡◌, ℕ, ◌+◌, ◌-◌, ◌/◌, ◌%◌, ◌<◌, ◌≤◌, [], ◌∷◌, ◌++◌, length, replicate, cond, ltb, sym, ap, ◌∙◌, ◌⊎◌, inl, inr, ⊎_elim, arith}
use Rattle.std.specs.Fmt.{decimal}
use Rattle.std.proofs.lemmas.Bool.{cases_lt}
use Rattle.std.proofs.lemmas.Bool.Decides.{nat_tests}
use Rattle.std.proofs.lemmas.Fmt.{decimal_digit, decimal_step}
use Rattle.sheets.specs.Bytes.{Bytes, right}

-- the three columns of a number below 1,000, one by one
abbrev pub hundreds : ℕ → ℕ
hundreds n = cond (ltb n 100) 32 (48 + n / 100)

abbrev pub tens : ℕ → ℕ
tens n = cond (ltb n 10) 32 (48 + n / 10 % 10)

decimal_two : (n : ℕ) → 10 ≤ n → n < 100 → decimal n ≡ (48 + n / 10) ∷ (48 + n % 10) ∷ []
decimal_two n h k = decimal_step n h (omega arith) ∙ ap (λ (z : Bytes). z ++ ((48 + n % 10) ∷ [])) (decimal_digit (n / 10) (omega arith))

decimal_three : (n : ℕ) → 100 ≤ n → n < 1000 → decimal n ≡ (48 + n / 10 / 10) ∷ (48 + n / 10 % 10) ∷ (48 + n % 10) ∷ []
decimal_three n h k = decimal_step n (omega arith) (omega arith) ∙ ap (λ (z : Bytes). z ++ ((48 + n % 10) ∷ [])) (decimal_two (n / 10) (omega arith) (omega arith))

at_width : (n : ℕ) (ds : Bytes) → decimal n ≡ ds → right 3 n ≡ replicate (3 - length ds) 32 ++ ds
unfolding right
at_width n ds e = ap (λ (z : Bytes). replicate (3 - length z) 32 ++ z) e

pub right_3 : (n : ℕ) → n < 1000 → right 3 n ≡ hundreds n ∷ tens n ∷ (48 + n % 10) ∷ []
right_3 n small = ⊎_elim
    (λ (a : n < 10). at_width n _ (decimal_digit n a) ∙ grind (arith, nat_tests))
    (λ (b : 10 ≤ n). ⊎_elim
    (λ (a : n < 100). at_width n _ (decimal_two n b a) ∙ grind (arith, nat_tests))
    (λ (d : 100 ≤ n). at_width n _ (decimal_three n d small) ∙ grind (arith, nat_tests))
    (cases_lt n 100))
    (cases_lt n 10)

-- what the three columns say of the number, and back
columns_of : (n a b c : ℕ) → n < 1000 → right 3 n ≡ a ∷ b ∷ c ∷ [] → (hundreds n ≡ a) × (tens n ≡ b) × (48 + n % 10 ≡ c)
columns_of n a b c small e = let z = sym (right_3 n small) ∙ e in (cc, cc, cc)

pub record Columns (a b c : ℕ) : Type 0 where
  pub low : 48 ≤ c
  pub high : c ≤ 57
  pub kind : ((a ≡ 32) × (b ≡ 32)) ⊎ (((a ≡ 32) × (49 ≤ b) × (b ≤ 57)) ⊎ ((49 ≤ a) × (a ≤ 57) × (48 ≤ b) × (b ≤ 57)))

pub columns_kind : (n a b c : ℕ) → n < 1000 → right 3 n ≡ a ∷ b ∷ c ∷ [] → Columns a b c
columns_kind n a b c small e =
    let p = columns_of n a b c small e in
    record {
      low = omega arith;
      high = omega arith;
      kind = ⊎_elim
          (λ (x : n < 10). inl (grind (arith, nat_tests), grind (arith, nat_tests)))
          (λ (x : 10 ≤ n). ⊎_elim
          (λ (y : n < 100). inr (inl (grind (arith, nat_tests), grind (arith, nat_tests), grind (arith, nat_tests))))
          (λ (y : 100 ≤ n). inr (inr (grind (arith, nat_tests), grind (arith, nat_tests), grind (arith, nat_tests), grind (arith, nat_tests))))
          (cases_lt n 100))
          (cases_lt n 10);
    }

pub columns_right : (n a b c : ℕ) → n < 1000 → hundreds n ≡ a → tens n ≡ b → 48 + n % 10 ≡ c → (n < 1000) × (right 3 n ≡ a ∷ b ∷ c ∷ [])
columns_right n a b c small e f g = (small, right_3 n small ∙ cc)
