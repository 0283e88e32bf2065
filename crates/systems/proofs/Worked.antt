-- The worked examples.
use Rattle.std.proofs.Common.{◌≡◌, ℕ, true, false, not, ◌&&◌, ◌||◌, T, List, [], ◌∷◌, Decides, refl, not-suc-le-zero, arith}
use Rattle.std.proofs.lemmas.Bool.Decides.{Decides-at, not_from_Decides}
use Rattle.sets.specs.Sets.{Numbers, Below, listed}
use Rattle.systems.specs.Systems.{Works, Fails, Missed, Doubled, EachRow, SameSystem}
use Rattle.systems.specs.Lines.{connects, reached}
use Rattle.systems.specs.Examples.{rows, bridge_lines, bridge, bridge_paths, bridge_cuts, WorkedExamples}
use Rattle.systems.proofs.Tables.{lists_below, rows_below, works_test, fails_test, decides_works, decides_fails, antichain_tested}
use Rattle.systems.proofs.AllSets.{all_sets, alike, alike_at}
use Rattle.systems.proofs.Minimal.{lists_minimal_paths, lists_minimal_cuts, same_by_structure, never_both_by_test, same_by_test}

-- ---- the bridge

paths_low : EachRow bridge_paths (Below 5)
paths_low = rows_below 5 ((0 ∷ 2 ∷ []) ∷ (1 ∷ 3 ∷ []) ∷ (0 ∷ 3 ∷ 4 ∷ []) ∷ (1 ∷ 2 ∷ 4 ∷ []) ∷ []) tt

cuts_low : EachRow bridge_cuts (Below 5)
cuts_low = rows_below 5 ((0 ∷ 1 ∷ []) ∷ (2 ∷ 3 ∷ []) ∷ (0 ∷ 3 ∷ 4 ∷ []) ∷ (1 ∷ 2 ∷ 4 ∷ []) ∷ []) tt

bridge_up : T (all_sets 5 (λ s. alike (connects 5 4 bridge_lines s) (works_test 5 bridge_paths s)))
unfolding reached
bridge_up = tt

bridge_down : T (all_sets 5 (λ s. alike (not (connects 5 4 bridge_lines s)) (fails_test 5 bridge_cuts s)))
unfolding reached
bridge_down = tt

bridge_works : (s : Numbers) → Below 5 s → Decides (connects 5 4 bridge_lines s) (Works bridge_paths s)
bridge_works s b =
    Decides-at (connects 5 4 bridge_lines s) (works_test 5 bridge_paths s)
    (alike_at 5 (connects 5 4 bridge_lines) (works_test 5 bridge_paths) bridge_up s b) (decides_works 5 bridge_paths paths_low s)

bridge_fails : (s : Numbers) → Below 5 s → Decides (not (connects 5 4 bridge_lines s)) (Fails bridge_cuts s)
bridge_fails s b =
    Decides-at (not (connects 5 4 bridge_lines s)) (fails_test 5 bridge_cuts s)
    (alike_at 5 (λ r. not (connects 5 4 bridge_lines r)) (fails_test 5 bridge_cuts) bridge_down s b) (decides_fails 5 bridge_cuts cuts_low s)

-- ---- rows given by their numbers

module _ (n : ℕ) (ps cs : List (List ℕ)) (p : T (lists_below n ps)) (c : T (lists_below n cs)) where
  same_lists : T (all_sets n (λ s. works_test n (rows ps) s || fails_test n (rows cs) s)) → T (all_sets n (λ s. not (works_test n (rows ps) s && fails_test n (rows cs) s))) → SameSystem n (rows ps) (rows cs)
  same_lists = same_by_test n (rows ps) (rows cs) (rows_below n ps p) (rows_below n cs c)

  never_both_lists : T (all_sets n (λ s. not (works_test n (rows ps) s && fails_test n (rows cs) s))) → (s : Numbers) → Below n s → Doubled (rows ps) (rows cs) s → ⊥
  never_both_lists t s b d = never_both_by_test n (rows ps) (rows cs) (rows_below n ps p) (rows_below n cs c) t s b d.0 d.1

  missed_lists : (s : Numbers) → works_test n (rows ps) s ≡ false → fails_test n (rows cs) s ≡ false → Missed (rows ps) (rows cs) s
  missed_lists s w f = (
    not_from_Decides (works_test n (rows ps) s) (decides_works n (rows ps) (rows_below n ps p) s) w,
    not_from_Decides (fails_test n (rows cs) s) (decides_fails n (rows cs) (rows_below n cs c) s) f,
  )

  doubled_lists : (s : Numbers) → works_test n (rows ps) s ≡ true → fails_test n (rows cs) s ≡ true → Doubled (rows ps) (rows cs) s
  doubled_lists s w f = ((decides_works n (rows ps) (rows_below n ps p) s).0 w, (decides_fails n (rows cs) (rows_below n cs c) s).0 f)

pub worked_examples_lem : WorkedExamples
worked_examples_lem = record {
  series = same_lists 2 ((0 ∷ 1 ∷ []) ∷ []) ((0 ∷ []) ∷ (1 ∷ []) ∷ []) tt tt tt tt;
  one_cut_short = missed_lists 2 ((0 ∷ 1 ∷ []) ∷ []) ((0 ∷ []) ∷ []) tt tt (listed (0 ∷ [])) refl refl;
  one_cut_short_never_doubled = never_both_lists 2 ((0 ∷ 1 ∷ []) ∷ []) ((0 ∷ []) ∷ []) tt tt tt;
  contradiction = doubled_lists 2 ((0 ∷ []) ∷ []) ((1 ∷ []) ∷ []) tt tt (listed (0 ∷ [])) refl refl;
  no_rows = λ s b. (λ w. not-suc-le-zero w.there, λ f. not-suc-le-zero f.there);
  always_works = same_lists 1 ([] ∷ []) [] tt tt tt tt;
  always_both = λ s b. (record { row = 0; there = omega arith; up = λ k t. absurd t }, record { row = 0; there = omega arith; down = λ k t m. t });
  two_of_three = same_lists 3 ((0 ∷ 1 ∷ []) ∷ (0 ∷ 2 ∷ []) ∷ (1 ∷ 2 ∷ []) ∷ []) ((0 ∷ 1 ∷ []) ∷ (0 ∷ 2 ∷ []) ∷ (1 ∷ 2 ∷ []) ∷ []) tt tt tt tt;
  bridge_minimal_paths = lists_minimal_paths bridge bridge_paths paths_low (antichain_tested 5 bridge_paths paths_low tt) bridge_works;
  bridge_minimal_cuts = lists_minimal_cuts bridge bridge_cuts cuts_low (antichain_tested 5 bridge_cuts cuts_low tt) bridge_fails;
  bridge_same = same_by_structure bridge bridge_paths bridge_cuts bridge_works bridge_fails;
}
