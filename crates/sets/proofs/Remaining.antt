-- What is left of a set's members after a call of `next`.
use Rattle.std.proofs.Common.{◌≡◌, ℕ, zero, suc, ◌+◌, ◌-◌, ◌<◌, ◌≤◌, [], ◌∷◌, sym, subst, ap, ap₂, ◌∙◌, refl, T, inl, inr, arith}
use Rattle.std.proofs.lemmas.Bool.{cases_eq, cond-true, cond-false}
use Rattle.sets.specs.Sets.{Numbers, Below, Lowest, NoneFrom}
use Rattle.sets.specs.Members.{members_from}
use Rattle.sets.specs.Truth.{holds_true, fails_false}

pub none_left : (s : Numbers) (k n : ℕ) → NoneFrom s k → members_from s k n ≡ []
none_left s k zero h = refl
none_left s k (suc n) h =
    cond-false (s k) (k ∷ members_from s (k + 1) n) (members_from s (k + 1) n) (fails_false (s k) (h k (omega arith)))
    ∙ none_left s (k + 1) n (λ j l. h j (omega arith))

first_left : (s : Numbers) (k m n : ℕ) → Lowest s k m → m < k + n → members_from s k n ≡ m ∷ members_from s (m + 1) (k + n - (m + 1))
first_left s k m zero l h = absurd (omega (arith, l.above))
first_left s k m (suc n) l h =
    elim (cases_eq k m) [
      | inl e ↦
          cond-true (s k) (k ∷ members_from s (k + 1) n) (members_from s (k + 1) n) (holds_true (s k) (subst (λ x. T (s x)) (sym e) l.member))
          ∙ ap₂ (λ (x y : ℕ). x ∷ members_from s (x + 1) y) e (omega arith)
      | inr d ↦
          cond-false (s k) (k ∷ members_from s (k + 1) n) (members_from s (k + 1) n) (fails_false (s k) (l.first k (omega arith) (omega (arith, l.above))))
          ∙ first_left s (k + 1) m n (record { member = l.member; above = omega (arith, l.above); first = λ j a b. l.first j (omega arith) b }) (omega arith)
          ∙ ap (λ (y : ℕ). m ∷ members_from s (m + 1) y) (omega arith)
    ]

-- the same up to a ceiling
pub next_left : (s : Numbers) (top k m : ℕ) → Below top s → Lowest s k m → members_from s k (top - k) ≡ m ∷ members_from s (m + 1) (top - (m + 1))
next_left s top k m b l =
    let low : m < top = b m l.member in
    let at : k ≤ m = l.above in
    first_left s k m (top - k) l (omega arith) ∙ ap (λ (y : ℕ). m ∷ members_from s (m + 1) y) (omega arith)
