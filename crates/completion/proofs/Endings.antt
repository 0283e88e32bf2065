-- How a completion ends.
use Rattle.std.proofs.Common.{◌≡◌, ℕ, List, [], ◌∷◌, get_or, Ok, Err, Result, sym, refl, subst, arith, T_not}
use mathlib.Core.Path.{fun_ext}
use lib.Dec.{not_T}
use Rattle.sets.specs.Sets.{Numbers, nothing}
use Rattle.systems.specs.Systems.{Structure, MinimalPath, MinimalCut, EachRow, Lists, others}
use Rattle.systems.specs.Duals.{dual}
use Rattle.tables.specs.Refusals.{Reply, answered, refused}
use Rattle.tables.specs.Rows.{Sound}
use Rattle.tables.specs.Pasts.{Fit, Improved, Past, completed, stopped}
use Rattle.duality.specs.Searches.{AllCovered}
use Rattle.completion.specs.Minimals.{Tightened}
use Rattle.completion.specs.Fills.{AtMost, TableFull, SomeUnheld, BothTightened, BlocksAt, paths_block, cuts_block, Fills}
use Rattle.completion.specs.Completions.{completion_refusal, completion_reply, PathBorne, CutBorne, Possible, FirstNot, Completed, Completes, complete_closed, complete_differs, complete_path_unborne, complete_cut_unborne, complete_paths_full, complete_cuts_full, complete_paths_unheld, complete_cuts_unheld, complete_done}
use Rattle.completion.specs.declared.fault.Blocked.TheVariants.{Full, Unheld}
use Rattle.completion.specs.declared.fault.CompletionFault.{CompletionFault}
use Rattle.completion.proofs.Minimality.{dual_minimal}
use Rattle.completion.proofs.Listing.{sound_once, lists_paths, lists_cuts}
use Rattle.completion.proofs.Learning.{tightened_trans}

-- ---- a cut row is a path row of the dual

module _ (φ : Structure) (rows : List Numbers) where
  pub borne_cuts : EachRow rows (PathBorne (dual φ)) → EachRow rows (CutBorne φ)
  borne_cuts b i h = T_not (φ.works (others φ.items (get_or rows i nothing))) (b i h)

  pub first_not_cut : (i : ℕ) → FirstNot (PathBorne (dual φ)) rows i → FirstNot (CutBorne φ) rows i
  first_not_cut i f = record {
    there = f.there;
    fails = λ b. f.fails (not_T (φ.works (others φ.items (get_or rows i nothing))) b);
    first = λ k h. T_not (φ.works (others φ.items (get_or rows k nothing))) (f.first k h);
  }

-- ---- a side in terms of the tables

at_most_as : (k : ℕ) (P Q : Numbers → Type 0) → ((s : Numbers) → Q s → P s) → AtMost k P → AtMost k Q
at_most_as k P Q h m = record { sets = m.sets; few = m.few; all = λ s q. m.all s (h s q) }

listed_at_most : (n capacity : ℕ) (holds P : Numbers → Type 0) (rows : List Numbers) → Sound n capacity holds rows → Lists rows P → AtMost capacity P
listed_at_most n capacity holds P rows s l = record { sets = rows; few = s.few; all = l.all }

listed_held : (n capacity : ℕ) (holds P : Numbers → Type 0) (rows : List Numbers) → Sound n capacity holds rows → Lists rows P → (s : Numbers) → P s → holds s
listed_held n capacity holds P rows s l t p = let a = l.all t p in subst holds (fun_ext a.same) (s.held a.row a.there)

sound_fit : (n capacity : ℕ) (holds : Numbers → Type 0) (rows : List Numbers) → Sound n capacity holds rows → Fit capacity holds rows
sound_fit n capacity holds rows s = record { few = s.few; held = s.held }

module _ (n a b : ℕ) (holds : Numbers → Type 0) (φ : Structure) (ps cs : List Numbers) (past : Past n a b holds ps cs) where
  -- ---- refusals that change nothing

  pub closed_completed : n ≡ 0 → Completed n a b holds φ ps cs (refused 1 (n ∷ [])) ps cs
  closed_completed e = record { outcome = complete_closed e; done = λ pos p. absurd (omega arith); past = past }

  pub differs_completed : (φ.items ≡ n → ⊥) → Completed n a b holds φ ps cs (refused 8 (n ∷ φ.items ∷ [])) ps cs
  differs_completed ne = record { outcome = complete_differs ne; done = λ pos p. absurd (ne p.count); past = past }

  module _ (count : φ.items ≡ n) where
    pub path_unborne_completed : (i : ℕ) → FirstNot (PathBorne φ) ps i → Completed n a b holds φ ps cs (refused 9 (0 ∷ i ∷ [])) ps cs
    path_unborne_completed i f = record {
      outcome = complete_path_unborne i count f;
      done = λ pos p. absurd (f.fails (p.paths_borne i f.there));
      past = past;
    }

    pub cut_unborne_completed : (i : ℕ) → EachRow ps (PathBorne φ) → FirstNot (CutBorne φ) cs i → Completed n a b holds φ ps cs (refused 9 (1 ∷ i ∷ [])) ps cs
    cut_unborne_completed i borne f = record {
      outcome = complete_cut_unborne i count borne f;
      done = λ pos p. absurd (f.fails (p.cuts_borne i f.there));
      past = past;
    }

    -- ---- after the rows gave way to minimal ones

    module _ (qs ds : List Numbers) (tight : BothTightened n a b holds φ ps cs qs ds) where
      path_rows : Sound n a holds qs
      path_rows = tight.paths.minimals.sound

      cut_rows : Sound n b holds ds
      cut_rows = tight.cuts.minimals.sound

      cuts_minimal : EachRow ds (MinimalCut φ)
      cuts_minimal i h = dual_minimal φ (get_or ds i nothing) (tight.cuts.minimals.minimal i h)

      paths_improved : Improved (MinimalPath φ) ps qs
      paths_improved = record { minimal = tight.paths.minimals.minimal; once = sound_once n a holds qs path_rows; finer = tight.paths.finer }

      cuts_improved : Improved (MinimalCut φ) cs ds
      cuts_improved = record { minimal = cuts_minimal; once = sound_once n b holds ds cut_rows; finer = tight.cuts.finer }

      past_stopped : Past n a b holds qs ds
      past_stopped = stopped φ count paths_improved (sound_fit n a holds qs path_rows) cuts_improved (sound_fit n b holds ds cut_rows) past

      -- each of the four is impossible for a possible completion
      refuses : (r : Reply (Unit {0})) → Completes n a b holds φ ps cs r qs ds → (Possible n a b holds φ ps cs → ⊥) → Completed n a b holds φ ps cs r qs ds
      refuses r outcome f = record { outcome = outcome; done = λ pos p. absurd (f p); past = past_stopped }

      no_cut_room : TableFull b (dual φ) ds → AtMost b (MinimalCut φ) → ⊥
      no_cut_room t m = t.more (at_most_as b (MinimalCut φ) (MinimalPath (dual φ)) (dual_minimal φ) m)

      some_cut_unheld : SomeUnheld holds (dual φ) → ((c : Numbers) → MinimalCut φ c → holds c) → ⊥
      some_cut_unheld u h = u (λ c m. h c (dual_minimal φ c m))

      blocked_completed : (f : CompletionFault) → BlocksAt a b holds φ qs ds f → Completed n a b holds φ ps cs (refused (completion_refusal f).number (completion_refusal f).values) qs ds
      blocked_completed f (paths_block Full w) =
          refuses (refused 10 (0 ∷ [])) (complete_paths_full count paths_improved cuts_improved w.full w.more) (λ p. w.more p.path_room)
      blocked_completed f (paths_block Unheld w) =
          refuses (refused 11 (0 ∷ [])) (complete_paths_unheld count paths_improved cuts_improved w) (λ p. w p.paths_held)
      blocked_completed f (cuts_block Full w) =
          refuses (refused 10 (1 ∷ [])) (complete_cuts_full count paths_improved cuts_improved w.full (no_cut_room w)) (λ p. no_cut_room w p.cut_room)
      blocked_completed f (cuts_block Unheld w) =
          refuses (refused 11 (1 ∷ [])) (complete_cuts_unheld count paths_improved cuts_improved (some_cut_unheld w)) (λ p. some_cut_unheld w p.cuts_held)

      module _ (paths_borne : EachRow ps (PathBorne φ)) (cuts_borne : EachRow cs (CutBorne φ)) where
        done_completed : AllCovered n qs ds → Completed n a b holds φ ps cs (answered tt) qs ds
        done_completed cover =
            let covered = subst (λ (k : ℕ). AllCovered k qs ds) (sym count) cover in
            let paths : Lists qs (MinimalPath φ) = lists_paths φ qs ds tight.paths.minimals.minimal cuts_minimal covered paths_improved.once in
            let cuts : Lists ds (MinimalCut φ) = lists_cuts φ qs ds tight.paths.minimals.minimal cuts_minimal covered cuts_improved.once in
            record {
              outcome = complete_done (record {
                count = count;
                paths_borne = paths_borne;
                cuts_borne = cuts_borne;
                path_room = listed_at_most n a holds (MinimalPath φ) qs path_rows paths;
                cut_room = listed_at_most n b holds (MinimalCut φ) ds cut_rows cuts;
                paths_held = listed_held n a holds (MinimalPath φ) qs path_rows paths;
                cuts_held = listed_held n b holds (MinimalCut φ) ds cut_rows cuts;
              }) paths cuts;
              done = λ pos p. refl;
              past = completed φ count paths (sound_fit n a holds qs path_rows) cuts (sound_fit n b holds ds cut_rows) past;
            }

    -- ---- the stages together: rows borne out, rows that gave way to minimal ones, rows added

    module _ (paths_borne : EachRow ps (PathBorne φ)) (cuts_borne : EachRow cs (CutBorne φ)) (es fs : List Numbers) (paths : Tightened n a holds φ ps es) (cuts : Tightened n b holds (dual φ) cs fs) (qs ds : List Numbers) where
      both_trans : BothTightened n a b holds φ es fs qs ds → BothTightened n a b holds φ ps cs qs ds
      both_trans t = record { paths = tightened_trans paths t.paths; cuts = tightened_trans cuts t.cuts }

      pub completed_from : (r : Result (Unit {0}) CompletionFault) → Fills n a b holds φ es fs r qs ds → Completed n a b holds φ ps cs (completion_reply r) qs ds
      completed_from (Ok u) f = done_completed qs ds (both_trans f.0) paths_borne cuts_borne f.1
      completed_from (Err e) f = blocked_completed qs ds (both_trans f.0) e f.1
