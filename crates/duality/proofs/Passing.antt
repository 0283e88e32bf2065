-- Rows that all pass a test, and the rows of a table that do.
use Rattle.std.proofs.Common.{◌≡◌, ℕ, zero, suc, ◌+◌, ◌≤◌, Bool, true, false, cond, not, ◌&&◌, List, [], ◌∷◌, ◌++◌, length, filter, refl, sym, ap, ap₂, ◌∙◌, subst, arith}
use Rattle.std.specs.Prelude.{Option, Some, None, MatchOption}
use Rattle.std.specs.List.{count_by, sum_by}
use Rattle.std.proofs.lemmas.Bool.{false≢true}
use Rattle.std.proofs.lemmas.List.Sums.{sum_by-cons, sum_by-append, length-filter}
use Rattle.sets.specs.Sets.{Numbers}
use Rattle.duality.specs.Shares.{Leads, having, share}
use Rattle.duality.specs.Remaining.{Alike, Stronger, any_row, AllPass}

-- ---- by the number of those that do not
none_fails : (test : Numbers → Bool) (rows : List Numbers) → AllPass test rows → count_by (λ r. not (test r)) rows ≡ 0
none_fails test [] h = refl
none_fails test (r ∷ rows) h =
    let first : ◌≡◌ {A = ℕ} (cond (not (test r)) 1 0) 0 = ap (λ b. cond (not b) 1 0) (h 0 r (omega arith)) in
    omega (arith, sum_by-cons (λ s. cond (not (test s)) 1 0) r rows, first, none_fails test rows (λ i d lt. h (suc i) d (omega arith)))

all_pass : (test : Numbers → Bool) (rows : List Numbers) → count_by (λ r. not (test r)) rows ≡ 0 → AllPass test rows
all_pass test [] e i d lt = absurd (omega arith)
all_pass test (r ∷ rows) e zero d lt = go (test r) refl (omega (arith, e, sum_by-cons (λ s. cond (not (test s)) 1 0) r rows)) where
  go : (b : Bool) → test r ≡ b → ◌≡◌ {A = ℕ} (cond (not b) 1 0) 0 → test r ≡ true
  go true i z = i
  go false i z = absurd (omega arith)
all_pass test (r ∷ rows) e (suc i) d lt = all_pass test rows (omega (arith, e, sum_by-cons (λ s. cond (not (test s)) 1 0) r rows)) i d (omega arith)

pub pass_alike : (test : Numbers → Bool) (xs ys : List Numbers) → Alike any_row xs ys → AllPass test xs → AllPass test ys
pass_alike test xs ys h k = all_pass test ys (sym (h.alike (λ r. not (test r)) (λ r e. refl)) ∙ none_fails test xs k)

pub pass_weaker : (test other : Numbers → Bool) (rows : List Numbers) → Stronger test other → AllPass test rows → AllPass other rows
pass_weaker test other rows w h = λ i d lt. w _ (h i d lt)

-- ---- of what stands behind other rows
pub alike_behind : {test : Numbers → Bool} (us xs ys : List Numbers) → Alike test (us ++ xs) (us ++ ys) → Alike test xs ys
alike_behind us xs ys h = record {
  alike = λ q s.
      let f : Numbers → ℕ = λ r. cond (q r) 1 0 in
      let a : sum_by f (us ++ xs) ≡ sum_by f (us ++ ys) = h.alike q s in
      omega (arith, a, sum_by-append f us xs, sum_by-append f us ys);
}

pub alike_before : {test : Numbers → Bool} (us xs ys : List Numbers) → Alike test (xs ++ us) (us ++ ys) → Alike test xs ys
alike_before us xs ys h = record {
  alike = λ q s.
      let f : Numbers → ℕ = λ r. cond (q r) 1 0 in
      let a : sum_by f (xs ++ us) ≡ sum_by f (us ++ ys) = h.alike q s in
      omega (arith, a, sum_by-append f xs us, sum_by-append f us ys);
}

-- ---- rows that all pass, and that are all that pass
counted_passing : (q test : Numbers → Bool) (rows : List Numbers) → count_by q (filter test rows) ≡ count_by (λ r. test r && q r) rows
counted_passing q test [] = refl
counted_passing q test (r ∷ rows) = go (test r) ∙ ap (λ n. cond (test r && q r) 1 0 + n) (counted_passing q test rows) ∙ sym (sum_by-cons (λ s. cond (test s && q s) 1 0) r rows) where
  go : (b : Bool) → count_by q (cond b (r ∷ filter test rows) (filter test rows)) ≡ cond (b && q r) 1 0 + count_by q (filter test rows)
  go true = sum_by-cons (λ s. cond (q s) 1 0) r (filter test rows)
  go false = omega arith

counted_all : (q test : Numbers → Bool) (rows : List Numbers) → AllPass test rows → count_by q rows ≡ count_by (λ r. test r && q r) rows
counted_all q test [] h = refl
counted_all q test (r ∷ rows) h =
    sum_by-cons (λ s. cond (q s) 1 0) r rows
    ∙ ap₂ (λ (b : Bool) (n : ℕ). cond (b && q r) 1 0 + n) (sym (h 0 r (omega arith))) (counted_all q test rows (λ i d lt. h (suc i) d (omega arith)))
    ∙ sym (sum_by-cons (λ s. cond (test s && q s) 1 0) r rows)

pub those_passing : {test : Numbers → Bool} {xs ys : List Numbers} → Alike test xs ys → AllPass test ys → Alike any_row (filter test xs) ys
those_passing {test} {xs} {ys} h k = record { alike = λ q s. counted_passing q test xs ∙ h.alike (λ r. test r && q r) (λ r. first (test r) (q r)) ∙ sym (counted_all q test ys k) } where
  first : (a b : Bool) → (a && b) ≡ true → a ≡ true
  first true b e = refl
  first false b e = absurd (false≢true e)

-- ---- the item that leads among them
having_alike : {xs ys : List Numbers} → Alike any_row xs ys → (k : ℕ) → having xs k ≡ having ys k
unfolding having
having_alike {xs} {ys} h k = length-filter (λ r. r k) xs ∙ h.alike (λ r. r k) (λ r e. refl) ∙ sym (length-filter (λ r. r k) ys)

counted_rows : (rows : List Numbers) → count_by any_row rows ≡ length rows
counted_rows [] = refl
counted_rows (r ∷ rows) = omega (arith, sum_by-cons (λ (s : Numbers). cond (any_row s) 1 0) r rows, counted_rows rows)

length_alike : {xs ys : List Numbers} → Alike any_row xs ys → length xs ≡ length ys
length_alike {xs} {ys} h = sym (counted_rows xs) ∙ h.alike any_row (λ r e. e) ∙ counted_rows ys

module _ {ps cs paths cuts : List Numbers} (p : Alike any_row ps paths) (c : Alike any_row cs cuts) (items : Numbers) where
  share_alike : (k : ℕ) → share ps cs k ≡ share paths cuts k
  share_alike k = rw (having_alike p k, having_alike c k, length_alike p, length_alike c) refl

  leads_alike : (k : ℕ) → Leads paths cuts items k → Leads ps cs items k
  leads_alike k h = record {
    item = h.item;
    largest = λ j t. subst (λ n. n ≤ share ps cs k) (sym (share_alike j)) (subst (λ n. share paths cuts j ≤ n) (sym (share_alike k)) (h.largest j t));
  }

  pub some_leads : (none : Type 0) (o : Option ℕ) → MatchOption o none (Leads paths cuts items) → MatchOption o none (Leads ps cs items)
  some_leads none None h = h
  some_leads none (Some k) h = leads_alike k h
