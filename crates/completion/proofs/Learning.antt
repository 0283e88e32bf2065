-- One more row for a missed state, and a search that goes on with more rows.
use Rattle.std.proofs.Common.{◌≡◌, ℕ, T, List, [], ◌∷◌, Ok, Err, Result, sym, ap, ◌∙◌, subst, inl, inr, ⊎_elim, arith}
use mathlib.Core.Path.{fun_ext}
use lib.Dec.{not_T}
use Rattle.std.specs.Result.{MatchResult, IsErrAnd}
use Rattle.std.proofs.lemmas.Result.{err_from_is_err_and}
use Rattle.sets.specs.Sets.{Numbers, Same, Below}
use Rattle.systems.specs.States.{up}
use Rattle.systems.specs.Systems.{Structure, Works, Fails, EachRow, others}
use Rattle.systems.specs.Duals.{dual}
use Rattle.systems.specs.Drawings.{WorksIn}
use Rattle.systems.specs.declared.state.State.{State}
use Rattle.systems.proofs.Minimal.{within_fails}
use Rattle.systems.proofs.UpRows.{up_below}
use Rattle.tables.specs.Pasts.{Finer}
use Rattle.duality.specs.Halves.{Covered, Settled}
use Rattle.duality.specs.declared.splits.Frame.{Frame}
use Rattle.completion.specs.Minimals.{Minimals, Tightened}
use Rattle.completion.specs.Fills.{blocked_at, Adds, paths_block, cuts_block, Learns, BothTightened}
use Rattle.completion.specs.declared.side.Side.{Side}
use Rattle.completion.specs.declared.side.Side.TheVariants.{Paths, Cuts}
use Rattle.completion.specs.declared.fault.Blocked.{Blocked}
use Rattle.completion.specs.declared.fault.CompletionFault.{CompletionFault}
use Rattle.completion.proofs.Minimality.{finer_refl, finer_trans, works_finer, fails_finer, others_twice}

-- ---- a table that stays

pub tightened_same : {n capacity : ℕ} {holds : Numbers → Type 0} {ψ : Structure} {rows : List Numbers} → Minimals n capacity holds ψ rows → Tightened n capacity holds ψ rows rows
tightened_same {rows = rows} m = record { minimals = m; finer = finer_refl rows }

pub tightened_trans : {n capacity : ℕ} {holds : Numbers → Type 0} {ψ : Structure} {ps qs rs : List Numbers} → Tightened n capacity holds ψ ps qs → Tightened n capacity holds ψ qs rs → Tightened n capacity holds ψ ps rs
tightened_trans {ps = ps} {qs = qs} {rs = rs} a b = record { minimals = b.minimals; finer = finer_trans ps qs rs a.finer b.finer }

pub both_trans : {n a b : ℕ} {holds : Numbers → Type 0} {φ : Structure} {ps cs qs ds us vs : List Numbers} → BothTightened n a b holds φ ps cs qs ds → BothTightened n a b holds φ qs ds us vs → BothTightened n a b holds φ ps cs us vs
both_trans s t = record { paths = tightened_trans s.paths t.paths; cuts = tightened_trans s.cuts t.cuts }

-- ---- what `learn` says, from what `add` says

-- u is r with the side put on
abbrev Sided : Side → Result (Unit {0}) Blocked → Result (Unit {0}) CompletionFault → Type 0
Sided side r u = MatchResult r (λ x. u ≡ Ok x) (λ w. IsErrAnd u (λ f. f ≡ blocked_at side w))

module _ (n a b : ℕ) (holds : Numbers → Type 0) (φ : Structure) (ps cs : List Numbers)
    (pm : Minimals n a holds φ ps) (cm : Minimals n b holds (dual φ) cs) (u : Result (Unit {0}) CompletionFault) where
  pub learns_path : (r : Result (Unit {0}) Blocked) → Sided Paths r u → (qs : List Numbers) → Adds n a holds φ ps r qs → Learns n a b holds φ ps cs u qs cs
  learns_path (Ok x) is qs t = rw is (record { paths = t.0; cuts = tightened_same cm }, omega (arith, t.1))
  learns_path (Err w) is qs h =
      let e = err_from_is_err_and u is in
      rw (e.1, e.2, h.0) (record { paths = tightened_same pm; cuts = tightened_same cm }, paths_block w h.1)

  pub learns_cut : (r : Result (Unit {0}) Blocked) → Sided Cuts r u → (ds : List Numbers) → Adds n b holds (dual φ) cs r ds → Learns n a b holds φ ps cs u ps ds
  learns_cut (Ok x) is ds t = rw is (record { paths = tightened_same pm; cuts = t.0 }, omega (arith, t.1))
  learns_cut (Err w) is ds h =
      let e = err_from_is_err_and u is in
      rw (e.1, e.2, h.0) (record { paths = tightened_same pm; cuts = tightened_same cm }, cuts_block w h.1)

-- ---- a state the other way

-- no cut is down in s: none lies within the items that are down
no_cut_within : (n : ℕ) (cs : List Numbers) → EachRow cs (Below n) → (s : Numbers) → Below n s → (Fails cs s → ⊥) → Works cs (others n s) → ⊥
no_cut_within n cs low s b h w = h (subst (λ (v : Numbers). Fails cs v) (others_twice n s b) (within_fails n cs low (others n s) w))

-- where the system does not work, its dual works the other way
dual_works : (φ : Structure) (s : Numbers) → Below φ.items s → (T (φ.works s) → ⊥) → T ((dual φ).works (others φ.items s))
dual_works φ s b h = not_T (φ.works (others φ.items (others φ.items s))) (λ t. h (subst (λ (v : Numbers). T (φ.works v)) (others_twice φ.items s b) t))

-- f has every item the other way
module _ (φ : Structure) (n : ℕ) (s f : State) (items : φ.items ≡ n) (count : s.count ≡ n) (same : f.count ≡ s.count) (marks : Same (up f) (others s.count (up s))) where
  flipped_is : (m : ℕ) → s.count ≡ m → up f ≡ others m (up s)
  flipped_is m e = fun_ext marks ∙ ap (λ (k : ℕ). others k (up s)) e

  pub flipped_works : (T (φ.works (up s)) → ⊥) → WorksIn (dual φ) f
  flipped_works h =
      let e = count ∙ sym items in (
        same ∙ e,
        subst (λ (v : Numbers). T ((dual φ).works v)) (sym (flipped_is φ.items e))
            (dual_works φ (up s) (subst (λ (k : ℕ). Below k (up s)) e (up_below s)) h),
      )

  pub flipped_new : (cs : List Numbers) → EachRow cs (Below n) → (Fails cs (up s) → ⊥) → Works cs (up f) → ⊥
  flipped_new cs low h w =
      no_cut_within n cs low (up s) (subst (λ (k : ℕ). Below k (up s)) count (up_below s)) h (subst (λ (v : Numbers). Works cs v) (flipped_is n count) w)

-- ---- more rows cover more

covered_finer : (ps qs cs ds : List Numbers) → Finer ps qs → Finer cs ds → (s : Numbers) → Covered ps cs s → Covered qs ds s
covered_finer ps qs cs ds f g s = ⊎_elim (λ w. inl (works_finer ps qs f s w)) (λ d. inr (fails_finer cs ds g s d))

pub settled_finer : (n : ℕ) (ps qs cs ds : List Numbers) → Finer ps qs → Finer cs ds → (fs : List Frame) → Settled n ps cs fs → Settled n qs ds fs
settled_finer n ps qs cs ds f g [] o = tt
settled_finer n ps qs cs ds f g (x ∷ fs) o = ((λ e s b a t. covered_finer ps qs cs ds f g s (o.0 e s b a t)), settled_finer n ps qs cs ds f g fs o.1)
