-- Minimal paths and cuts item by item, and rows that have a row within them.
use Rattle.std.proofs.Common.{◌≡◌, ℕ, ◌<◌, Bool, true, false, not, T, eqb, ltb, List, [], ◌∷◌, ◌++◌, get_or, subst, arith, lt→ltb, T_not}
use mathlib.Core.Path.{fun_ext}
use lib.Dec.{not_T}
use Rattle.std.proofs.lemmas.List.{get_or_append_left, length_push}
use Rattle.sets.specs.Sets.{Numbers, nothing, without, Within, Apart, Below}
use Rattle.sets.specs.Truth.{and_T, T_and}
use Rattle.systems.specs.Systems.{Structure, MinimalPath, MinimalCut, Works, Fails, others}
use Rattle.systems.specs.Duals.{dual, others_below}
use Rattle.systems.proofs.Minimal.{within_both}
use Rattle.tables.specs.Pasts.{Finer}

-- what is not refuted of a test holds
holds_unless : (b : Bool) → ((T b → ⊥) → ⊥) → T b
holds_unless true h = tt
holds_unless false h = absurd (h (λ t. t))

-- ---- without an item

pub without_within : (s : Numbers) (j : ℕ) → Within (without s j) s
without_within s j k t = (and_T (not (eqb k j)) (s k) t).1

without_less : (s t : Numbers) (j : ℕ) → Within s t → Within (without s j) (without t j)
without_less s t j h k m = let p = and_T (not (eqb k j)) (s k) m in T_and (not (eqb k j)) (t k) p.0 (h k p.1)

-- ---- the items that a set leaves

others_in : (n : ℕ) (s : Numbers) (k : ℕ) → k < n → (T (s k) → ⊥) → T (others n s k)
others_in n s k lt out = T_and (ltb k n) (not (s k)) (lt→ltb k n lt) (not_T (s k) out)

others_out : (n : ℕ) (s : Numbers) (k : ℕ) → T (others n s k) → T (s k) → ⊥
others_out n s k o = T_not (s k) (and_T (ltb k n) (not (s k)) o).1

twice_within : (n : ℕ) (s : Numbers) → Within (others n (others n s)) s
twice_within n s k o = holds_unless (s k) (λ out. others_out n (others n s) k o (others_in n s k (others_below n (others n s) k o) out))

within_twice : (n : ℕ) (s : Numbers) → Below n s → Within s (others n (others n s))
within_twice n s low k t = others_in n (others n s) k (low k t) (λ o. others_out n s k o t)

pub others_twice : (n : ℕ) (s : Numbers) → Below n s → others n (others n s) ≡ s
others_twice n s low = fun_ext (within_both (others n (others n s)) s (twice_within n s) (within_twice n s low))

-- ---- minimal, item by item

module _ (ψ : Structure) where
  -- what is needed stays needed once other items are gone
  pub needed_less : (p q : Numbers) (j : ℕ) → Below ψ.items p → Within q p → (T (ψ.works (without p j)) → ⊥) → T (ψ.works (without q j)) → ⊥
  needed_less p q j low h needed t =
      needed (ψ.monotone (without q j) (without p j) (λ k u. low k (h k (without_within q j k u))) (λ k u. low k (without_within p j k u)) (without_less q p j h) t)

-- ---- paths and cuts

module _ (φ : Structure) where
  pub dual_minimal : (c : Numbers) → MinimalPath (dual φ) c → MinimalCut φ c
  dual_minimal c m = record {
    items = m.items;
    stops = T_not (φ.works (others φ.items c)) m.works;
    least = λ q h. holds_unless (φ.works (others φ.items q)) (λ f. m.least q h (not_T (φ.works (others φ.items q)) f));
  }

  -- a path and a cut share an item
  pub path_meets_cut : (p c : Numbers) → Below φ.items p → T (φ.works p) → (T (φ.works (others φ.items c)) → ⊥) → Apart c p → ⊥
  path_meets_cut p c low works stops apart =
      stops (φ.monotone p (others φ.items c) low (others_below φ.items c) (λ k t. others_in φ.items c k (low k t) (λ m. apart k m t)) works)

-- ---- rows that have a row within them

pub works_wider : (rows : List Numbers) (s t : Numbers) → Within s t → Works rows s → Works rows t
works_wider rows s t h w = record { row = w.row; there = w.there; up = λ k m. h k (w.up k m) }

pub works_finer : (ps qs : List Numbers) → Finer ps qs → (s : Numbers) → Works ps s → Works qs s
works_finer ps qs f s w = works_wider qs (get_or ps w.row nothing) s w.up (f w.row w.there)

pub fails_finer : (cs ds : List Numbers) → Finer cs ds → (s : Numbers) → Fails cs s → Fails ds s
fails_finer cs ds f s w =
    let v = f w.row w.there in
    record { row = v.row; there = v.there; down = λ k m. w.down k (v.up k m) }

pub finer_refl : (rows : List Numbers) → Finer rows rows
finer_refl rows i h = record { row = i; there = h; up = λ k m. m }

pub finer_trans : (ps qs rs : List Numbers) → Finer ps qs → Finer qs rs → Finer ps rs
finer_trans ps qs rs f g i h = works_finer qs rs g (get_or ps i nothing) (f i h)

pub finer_push : (rows : List Numbers) (p : Numbers) → Finer rows (rows ++ p ∷ [])
finer_push rows p i h =
    let l = length_push rows p in
    record { row = i; there = omega arith; up = λ k m. subst (λ (v : Numbers). T (v k)) (get_or_append_left rows (p ∷ []) nothing i h) m }
