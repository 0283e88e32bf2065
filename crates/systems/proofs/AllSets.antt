-- A test of every set below n, by computation.
use Rattle.std.proofs.Common.{◌≡◌, ℕ, zero, suc, Bool, true, false, not, ◌&&◌, ◌||◌, T, eqb, sym, refl, ap, ◌∙◌, subst, inl, inr, arith, T_not}
use mathlib.Core.Path.{fun_ext}
use lib.Dec.{eqb_refl}
use Rattle.std.proofs.lemmas.Bool.{cases_Bool, cases_eq, eq-eqb, ne_eqb}
use Rattle.sets.specs.Sets.{Numbers, nothing, with, without, Below}
use Rattle.sets.specs.Truth.{and_T, fails_false}

abbrev pub all_sets : ℕ → (Numbers → Bool) → Bool
all_sets zero f = f nothing
all_sets (suc n) f = all_sets n f && all_sets n (λ s. f (with s n))

none_below : (s : Numbers) → Below 0 s → nothing ≡ s
none_below s low = fun_ext (λ k. sym (fails_false (s k) (λ t. omega (arith, low k t))))

-- a set without n, and n again
module _ (s : Numbers) (n : ℕ) where
  put_back : s n ≡ true → with (without s n) n ≡ s
  put_back e =
      fun_ext (λ k. elim (cases_eq k n) [
        | inl q ↦ ap (λ b. b || (not b && s k)) (eq-eqb k n q) ∙ sym e ∙ ap s (sym q)
        | inr q ↦ ap (λ b. b || (not b && s k)) (ne_eqb k n q)
      ])

  pub below_without : Below (suc n) s → Below n (without s n)
  below_without low k t =
      let p = and_T (not (eqb k n)) (s k) t in
      let ne : k ≡ n → ⊥ = λ q. T_not (eqb k n) p.0 (subst (λ m. T (eqb k m)) q (eqb_refl k)) in
      omega (arith, low k p.1)

  pub below_not : Below (suc n) s → s n ≡ false → Below n s
  below_not low e k t =
      let ne : k ≡ n → ⊥ = λ q. subst T (ap s q ∙ e) t in
      omega (arith, low k t)

pub all_sets_at : (n : ℕ) (f : Numbers → Bool) → T (all_sets n f) → (s : Numbers) → Below n s → T (f s)
all_sets_at zero f t s low = subst (λ r. T (f r)) (none_below s low) t
all_sets_at (suc n) f t s low =
    let p = and_T (all_sets n f) (all_sets n (λ r. f (with r n))) t in
    elim (cases_Bool (s n)) [
      | inl e ↦ subst (λ r. T (f r)) (put_back s n e) (all_sets_at n (λ r. f (with r n)) p.1 (without s n) (below_without s n low))
      | inr e ↦ all_sets_at n f p.0 s (below_not s n low e)
    ]

-- two tests that agree on every set below n
abbrev pub alike : Bool → Bool → Bool
alike true b = b
alike false b = not b

alike_same : (a b : Bool) → T (alike a b) → a ≡ b
alike_same true true t = refl
alike_same true false t = absurd t
alike_same false true t = absurd t
alike_same false false t = refl

pub alike_at : (n : ℕ) (f g : Numbers → Bool) → T (all_sets n (λ s. alike (f s) (g s))) → (s : Numbers) → Below n s → f s ≡ g s
alike_at n f g t s low = alike_same (f s) (g s) (all_sets_at n (λ r. alike (f r) (g r)) t s low)
