-- Minimal rows that cover every state are all the minimal rows.
use Rattle.std.proofs.Common.{ℕ, T, List, get_or, subst, inl, inr}
use Rattle.sets.specs.Sets.{Numbers, nothing}
use Rattle.systems.specs.Systems.{Structure, MinimalPath, MinimalCut, Works, Among, EachRow, Once, Lists, others}
use Rattle.systems.specs.Duals.{others_below}
use Rattle.systems.proofs.Minimal.{within_both, minimal_path_back, minimal_cut_back, fails_within}
use Rattle.tables.specs.Rows.{Sound}
use Rattle.duality.specs.Searches.{AllCovered}
use Rattle.completion.proofs.Minimality.{path_meets_cut}

pub sound_once : (n capacity : ℕ) (holds : Numbers → Type 0) (rows : List Numbers) → Sound n capacity holds rows → Once rows
sound_once n capacity holds rows s i j hi hj e = s.antichain i j hi hj (λ k t. subst T (e k) t)

module _ (φ : Structure) (ps cs : List Numbers) (paths : EachRow ps (MinimalPath φ)) (cuts : EachRow cs (MinimalCut φ)) (cover : AllCovered φ.items ps cs) where
  -- a row within a minimal path is that path
  path_among : (p : Numbers) → MinimalPath φ p → Works ps p → Among ps p
  path_among p m w =
      let r = get_or ps w.row nothing in
      record { row = w.row; there = w.there; same = within_both r p w.up (minimal_path_back φ r p (paths w.row w.there) m w.up) }

  cut_among : (c : Numbers) → MinimalCut φ c → Works cs c → Among cs c
  cut_among c m w =
      let r = get_or cs w.row nothing in
      record { row = w.row; there = w.there; same = within_both r c w.up (minimal_cut_back φ r c (cuts w.row w.there) m w.up) }

  -- in the state of a minimal path no cut row is down
  all_paths : (p : Numbers) → MinimalPath φ p → Among ps p
  all_paths p m =
      elim (cover p m.items) [
        | inl w ↦ path_among p m w
        | inr f ↦ absurd (path_meets_cut φ p (get_or cs f.row nothing) m.items m.works (cuts f.row f.there).stops f.down)
      ]

  -- with a minimal cut alone down no path row is up
  all_cuts : (c : Numbers) → MinimalCut φ c → Among cs c
  all_cuts c m =
      elim (cover (others φ.items c) (others_below φ.items c)) [
        | inl w ↦ absurd (m.stops (φ.monotone (get_or ps w.row nothing) (others φ.items c) (paths w.row w.there).items (others_below φ.items c) w.up (paths w.row w.there).works))
        | inr f ↦ cut_among c m (fails_within φ.items cs (λ i h. (cuts i h).items) c f)
      ]

  pub lists_paths : Once ps → Lists ps (MinimalPath φ)
  lists_paths once = record { each = paths; all = all_paths; once = once }

  pub lists_cuts : Once cs → Lists cs (MinimalCut φ)
  lists_cuts once = record { each = cuts; all = all_cuts; once = once }
