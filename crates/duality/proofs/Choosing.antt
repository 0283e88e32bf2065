-- Which item leads, by the largest counts in two tallies.
use Rattle.std.proofs.Common.{◌≡◌, ℕ, ◌*◌, ◌≤◌, T, Bool, true, false, not, ◌&&◌, ◌||◌, List, length, Option, Some, None, MatchOption, refl, sym, ap, ap₂, ◌∙◌, subst, ⊎_elim, ◌⊎◌, inl, inr, arith}
use Rattle.std.proofs.Math.Nat.{mul-le-mul_right, le-max_left, le-max_right, max-le}
use Rattle.sets.specs.Sets.{Numbers, NoneFrom, Lowest, Same, Within}
use Rattle.sets.specs.Truth.{or_T, T_or_left, T_and, true_holds}
use Rattle.duality.specs.Shares.{Tallied, Leads, Most, counted, having, share}

module _ {X : Type 0} (bits : X → Numbers) (ps cs : List Numbers) (path_planes cut_planes : List X) (paths cuts : ℕ) (np : length ps ≡ paths) (nc : length cs ≡ cuts) (tp : Tallied bits ps path_planes) (tc : Tallied bits cs cut_planes) (items : Numbers) (p c : ℕ) (with_p with_c : Numbers)
    (mp : Most (counted bits path_planes) items p with_p) (mc : Most (counted bits cut_planes) items c with_c) where
  in_paths : (j : ℕ) → T (items j) → having ps j * length cs ≤ p * cuts
  in_paths j t = omega (arith, mul-le-mul_right cuts (mp.bound j t), ap (λ n. n * cuts) (tp.each j), ap (λ n. having ps j * n) (sym nc))

  in_cuts : (j : ℕ) → T (items j) → having cs j * length ps ≤ c * paths
  in_cuts j t = omega (arith, mul-le-mul_right paths (mc.bound j t), ap (λ n. n * paths) (tc.each j), ap (λ n. having cs j * n) (sym np))

  leads : (k m : ℕ) → T (items k) → p * cuts ≤ m → c * paths ≤ m → (having ps k * length cs ≡ m) ⊎ (having cs k * length ps ≡ m) → Leads ps cs items k
  leads k m t a b is = record {
    item = t;
    largest = λ j u.
        let at_most : share ps cs j ≤ m = max-le (omega (arith, in_paths j u)) (omega (arith, in_cuts j u)) in
        let at_least : m ≤ share ps cs k =
        ⊎_elim
        (λ e. omega (arith, le-max_left (having ps k * length cs) (having cs k * length ps)))
        (λ e. omega (arith, le-max_right (having ps k * length cs) (having cs k * length ps)))
        is in
        omega (arith, at_most, at_least);
  }

  path_share : (k : ℕ) → T (with_p k) → having ps k * length cs ≡ p * cuts
  path_share k t = ap₂ (λ (n m : ℕ). n * m) (sym (tp.each k) ∙ (mp.have k t).1) nc

  cut_share : (k : ℕ) → T (with_c k) → having cs k * length ps ≡ c * paths
  cut_share k t = ap₂ (λ (n m : ℕ). n * m) (sym (tc.each k) ∙ (mc.have k t).1) np

  pub by_paths : (o : Option ℕ) → c * paths ≤ p * cuts → MatchOption o (NoneFrom with_p 0) (Lowest with_p 0) → MatchOption o (NoneFrom items 0) (Leads ps cs items)
  by_paths None le h = mp.some h
  by_paths (Some k) le h = leads k (p * cuts) (mp.have k h.member).0 (omega arith) le (inl (path_share k h.member))

  pub by_cuts : (o : Option ℕ) → p * cuts ≤ c * paths → MatchOption o (NoneFrom with_c 0) (Lowest with_c 0) → MatchOption o (NoneFrom items 0) (Leads ps cs items)
  by_cuts None le h = mc.some h
  by_cuts (Some k) le h = leads k (c * paths) (mc.have k h.member).0 le (omega arith) (inr (cut_share k h.member))

  pub by_both : (o : Option ℕ) (both : Numbers) → Same both (λ k. with_p k || with_c k) → p * cuts ≡ c * paths → MatchOption o (NoneFrom both 0) (Lowest both 0) → MatchOption o (NoneFrom items 0) (Leads ps cs items)
  by_both None both is e h = mp.some (λ j l t. h j l (subst T (sym (is j)) (T_or_left (with_p j) (with_c j) t)))
  by_both (Some k) both is e h =
      ⊎_elim
      (λ t. leads k (p * cuts) (mp.have k t).0 (omega arith) (omega (arith, e)) (inl (path_share k t)))
      (λ t. leads k (p * cuts) (mc.have k t).0 (omega arith) (omega (arith, e)) (inr (cut_share k t ∙ sym e)))
      (or_T (with_p k) (with_c k) (subst T (is k) h.member))

-- where nothing is undecided, all that is up in the greatest state is up in the least
pub chosen : (low high : Numbers) (L : ℕ → Type 0) (o : Option ℕ) → MatchOption o (NoneFrom (λ k. high k && not (low k)) 0) L → MatchOption o (Within high low) L
chosen low high L None none = λ k t. decided k t (low k) refl where
  decided : (k : ℕ) → T (high k) → (b : Bool) → low k ≡ b → T (low k)
  decided k t true e = true_holds (low k) e
  decided k t false e = absurd (none k (omega arith) (T_and (high k) (not (low k)) t (true_holds (not (low k)) (ap not e))))
chosen low high L (Some k) h = h

pub undecided : (high low : Bool) → T (high && not low) → (high ≡ true) × (low ≡ false)
undecided true false t = (refl, refl)
undecided true true t = absurd t
undecided false low t = absurd t
