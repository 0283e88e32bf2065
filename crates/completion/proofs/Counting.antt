-- The item counts of two tables and a drawing.
use Rattle.std.proofs.Common.{◌≡◌, ℕ, ◌≤◌, List, [], ◌∷◌, Ok, Err, Result, sym, ◌∙◌, subst, arith}
use Rattle.tables.specs.Refusals.{Reply, answered, refused}
use Rattle.duality.specs.Pairs.{Pairs, pair_fits}
use Rattle.duality.specs.Pairs as pairs
use Rattle.completion.specs.Fills.{OnlyBlocked}
use Rattle.completion.specs.declared.fault.CompletionFault.{CompletionFault}
use Rattle.completion.specs.declared.fault.CompletionFault.TheVariants.{Pair, NotBorneOut, MoreThanPlaces, CannotHold}
use Rattle.completion.specs.Completions.{Untouched, Counts, paths_closed, cuts_closed, tables_differ, drawing_differs, counts_agree}

-- what the check of the two tables refuses
pub counts_refused : (p c d number : ℕ) (values : List ℕ) → Pairs p c (refused number values) → Counts p c d (refused number values)
counts_refused p c d number values (pairs.paths_closed e) = paths_closed e
counts_refused p c d number values (pairs.cuts_closed pos e) = cuts_closed pos e
counts_refused p c d number values (pairs.counts_differ pos low ne) = tables_differ pos low ne

-- what it lets pass
pub counts_pass : (p c : ℕ) → Pairs p c (answered tt) → (1 ≤ p) × (p ≡ c)
counts_pass p c (pair_fits pos e) = (pos, e)

pub counts_other : (p c d n m : ℕ) → Pairs p c (answered tt) → n ≡ p → m ≡ d → (m ≡ n → ⊥) → Counts p c d (refused 8 (n ∷ m ∷ []))
counts_other p c d n m h a b ne =
    let q = counts_pass p c h in
    rw (a, b) (drawing_differs q.0 q.1 (λ e. ne (b ∙ sym e ∙ sym a)))

pub counts_same : (p c d n m : ℕ) (r : Reply (Unit {0})) → Pairs p c (answered tt) → n ≡ p → m ≡ d → m ≡ n → Counts p c d r
counts_same p c d n m r h a b e = let q = counts_pass p c h in counts_agree r q.0 q.1 (sym a ∙ sym e ∙ b)

-- two tables of n items are refused only with 1, and n is 0
pub one_count : (p c n number : ℕ) (values : List ℕ) (P : ℕ → List ℕ → Type 0) → p ≡ n → c ≡ n → Pairs p c (refused number values) → (n ≡ 0 → P 1 (n ∷ [])) → P number values
one_count p c n number values P a b (pairs.paths_closed e) h = subst (λ (k : ℕ). P 1 (k ∷ [])) (sym a) (h (sym a ∙ e))
one_count p c n number values P a b (pairs.cuts_closed pos e) h = absurd (omega arith)
one_count p c n number values P a b (pairs.counts_differ pos low ne) h = absurd (ne (a ∙ sym b))

-- a refusal for want of a place or of a kind may alter the tables
pub only_untouched : (r : Result (Unit {0}) CompletionFault) (Same : Type 0) → OnlyBlocked r → Untouched r Same
only_untouched (Ok u) Same h = tt
only_untouched (Err (Pair f)) Same h = absurd h
only_untouched (Err (NotBorneOut t i)) Same h = absurd h
only_untouched (Err (MoreThanPlaces t)) Same h = tt
only_untouched (Err (CannotHold t)) Same h = tt
