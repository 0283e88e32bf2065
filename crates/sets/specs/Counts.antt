-- Laws of `count`. They stand in specs since the laws of an `impl` can cite nothing in proofs/.
use Rattle.std.specs.Prelude.{◌≡◌, ℕ, zero, suc, ◌+◌, ◌<◌, ◌≤◌, Bool, true, false, ◌||◌, T, ◌==◌, refl}
use Rattle.std.proofs.Common.{ap, ap₂, ◌∙◌, arith, inl, inr}
use Rattle.sets.specs.Sets.{Numbers, nothing, with, Within, one, count}
use Rattle.std.proofs.lemmas.Bool.{cases_eq, eq-eqb, ne_eqb}

-- a count looks only below its bound
pub count_same : (s t : Numbers) (n : ℕ) → ((k : ℕ) → k < n → s k ≡ t k) → count s n ≡ count t n
unfolding count
count_same s t zero h = refl
count_same s t (suc n) h = ap₂ (λ (x y : ℕ). x + y) (ap one (h n (omega arith))) (count_same s t n (λ k l. h k (omega arith)))

pub count_none : (n : ℕ) → count nothing n ≡ 0
unfolding count
count_none zero = refl
count_none (suc n) = omega (arith, count_none n)

pub one_mono : (a b : Bool) → (T a → T b) → one a ≤ one b
one_mono true true h = omega arith
one_mono true false h = absurd (h tt)
one_mono false b h = omega arith

pub count_mono : (s t : Numbers) (n : ℕ) → Within s t → count s n ≤ count t n
unfolding count
count_mono s t zero h = omega arith
count_mono s t (suc n) h = omega (arith, one_mono (s n) (t n) (h n), count_mono s t n h)

-- one member more
pub count_with : (s : Numbers) (n k : ℕ) → k < n → s k ≡ false → count (with s k) n ≡ count s n + 1
unfolding count
count_with s zero k l e = absurd (omega arith)
count_with s (suc n) k l e =
    elim (cases_eq n k) [
      | inl p ↦
          let here : one (n == k || s n) ≡ 1 = ap (λ b. one (b || s n)) (eq-eqb n k p) in
          let there : one (s n) ≡ 0 = ap (λ j. one (s j)) p ∙ ap one e in
          let rest : count (with s k) n ≡ count s n =
          count_same (with s k) s n (λ j b. ap (λ t. t || s j) (ne_eqb j k (λ q. omega arith))) in
          omega arith
      | inr p ↦
          let here : one (n == k || s n) ≡ one (s n) = ap (λ b. one (b || s n)) (ne_eqb n k p) in
          let rest : count (with s k) n ≡ count s n + 1 = count_with s n k (omega arith) e in
          omega arith
    ]
