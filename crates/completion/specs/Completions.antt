-- What a completion replies, and the rows that it leaves. Assumes nothing.
--
--   completion_refusal  the number and the values of each refusal; of the tables, the paths are 0 and the cuts 1
--   Counts              the checks of the item counts of the paths, the cuts and the drawing
--   Possible            the drawing has the count, bears out every row, and has no more minimal paths and cuts than the tables
--                       have places, and none that the kind cannot hold
--   Completes           the reply and the rows after it
--   Completed           that, DONE exactly when it is possible, and a past again
use Rattle.std.specs.Prelude.{◌≡◌, ℕ, ◌<◌, ◌≤◌, T, List, [], ◌∷◌, ◌++◌, codes, length, Ok, Err, Result, ◌≢◌, slice_index_or}
use Rattle.std.specs.Fmt.{decimal}
use Rattle.sets.specs.Sets.{Numbers, nothing}
use Rattle.systems.specs.Systems.{Structure, MinimalPath, MinimalCut, EachRow, Lists, others}
use Rattle.tables.specs.Refusals.{Refusal, Reply, answered, refused, reply}
use Rattle.tables.specs.Pasts.{Past, Improved}
use Rattle.duality.specs.Pairs.{pair_refusal, pair_text}
use Rattle.completion.specs.Fills.{AtMost}
use Rattle.completion.specs.declared.side.Side.{Side}
use Rattle.completion.specs.declared.side.Side.TheVariants.{Paths, Cuts}
use Rattle.completion.specs.declared.fault.CompletionFault.{CompletionFault}
use Rattle.completion.specs.declared.fault.CompletionFault.TheVariants.{Pair, NotBorneOut, MoreThanPlaces, CannotHold}

abbrev pub side_number : Side → ℕ
side_number Paths = 0
side_number Cuts = 1

abbrev pub side_word : Side → List ℕ
side_word Paths = codes "paths"
side_word Cuts = codes "cuts"

abbrev pub completion_refusal : CompletionFault → Refusal
completion_refusal (Pair fault) = pair_refusal fault
completion_refusal (NotBorneOut side row) = record { number = 9; values = side_number side ∷ row ∷ [] }
completion_refusal (MoreThanPlaces side) = record { number = 10; values = side_number side ∷ [] }
completion_refusal (CannotHold side) = record { number = 11; values = side_number side ∷ [] }

-- what a refusal says, with its values
abbrev pub completion_text : CompletionFault → List ℕ
completion_text (Pair fault) = pair_text fault
completion_text (NotBorneOut side row) = codes "row " ++ decimal row ++ codes " of the " ++ side_word side ++ codes " is not borne out"
completion_text (MoreThanPlaces side) = codes "more minimal " ++ side_word side ++ codes " than places"
completion_text (CannotHold side) = codes "minimal " ++ side_word side ++ codes " that cannot be held"

abbrev pub completion_reply : {Answer : Type 0} → Result Answer CompletionFault → Reply Answer
completion_reply = reply completion_refusal

pub data Counts (p c d : ℕ) : Reply (Unit {0}) → Type 0 where
  paths_closed : p ≡ 0 → Counts p c d (refused 1 (p ∷ []))
  cuts_closed : 1 ≤ p → c ≡ 0 → Counts p c d (refused 1 (c ∷ []))
  tables_differ : 1 ≤ p → 1 ≤ c → (p ≢ c) → Counts p c d (refused 8 (p ∷ c ∷ []))
  drawing_differs : 1 ≤ p → p ≡ c → (p ≢ d) → Counts p c d (refused 8 (p ∷ d ∷ []))
  counts_agree : (r : Reply (Unit {0})) → 1 ≤ p → p ≡ c → p ≡ d → Counts p c d r

-- refusals 1, 8 and 9 leave all memory as it was
abbrev pub Untouched : Result (Unit {0}) CompletionFault → Type 0 → Type 0
Untouched (Ok _) Same = Unit {0}
Untouched (Err (Pair f)) Same = Same
Untouched (Err (NotBorneOut t i)) Same = Same
Untouched (Err (MoreThanPlaces t)) Same = Unit {0}
Untouched (Err (CannotHold t)) Same = Unit {0}

-- with the path row alone up the system works; with the cut row alone down it does not
abbrev pub PathBorne : Structure → Numbers → Type 0
PathBorne φ p = T (φ.works p)

abbrev pub CutBorne : Structure → Numbers → Type 0
CutBorne φ c = T (φ.works (others φ.items c)) → ⊥

pub record Possible (n path_capacity cut_capacity : ℕ) (holds : Numbers → Type 0) (φ : Structure) (ps cs : List Numbers) : Type 0 where
  pub count : φ.items ≡ n
  pub paths_borne : EachRow ps (PathBorne φ)
  pub cuts_borne : EachRow cs (CutBorne φ)
  pub path_room : AtMost path_capacity (MinimalPath φ)
  pub cut_room : AtMost cut_capacity (MinimalCut φ)
  pub paths_held : (p : Numbers) → MinimalPath φ p → holds p
  pub cuts_held : (c : Numbers) → MinimalCut φ c → holds c

-- row i is the first that is not borne out
pub record FirstNot (P : Numbers → Type 0) (rows : List Numbers) (i : ℕ) : Type 0 where
  pub there : i < length rows
  pub fails : P (slice_index_or rows i nothing) → ⊥
  pub first : (k : ℕ) → k < i → P (slice_index_or rows k nothing)

pub data Completes (n path_capacity cut_capacity : ℕ) (holds : Numbers → Type 0) (φ : Structure) (ps cs : List Numbers) : Reply (Unit {0}) → List Numbers → List Numbers → Type 0 where
  complete_closed : n ≡ 0 → Completes n path_capacity cut_capacity holds φ ps cs (refused 1 (n ∷ [])) ps cs
  complete_differs : (φ.items ≢ n) → Completes n path_capacity cut_capacity holds φ ps cs (refused 8 (n ∷ φ.items ∷ [])) ps cs
  complete_path_unborne : (i : ℕ) → φ.items ≡ n → FirstNot (PathBorne φ) ps i → Completes n path_capacity cut_capacity holds φ ps cs (refused 9 (0 ∷ i ∷ [])) ps cs
  complete_cut_unborne : (i : ℕ) → φ.items ≡ n → EachRow ps (PathBorne φ) → FirstNot (CutBorne φ) cs i → Completes n path_capacity cut_capacity holds φ ps cs (refused 9 (1 ∷ i ∷ [])) ps cs
  complete_paths_full : {qs ds : List Numbers} → φ.items ≡ n → Improved (MinimalPath φ) ps qs → Improved (MinimalCut φ) cs ds → length qs ≡ path_capacity → (AtMost path_capacity (MinimalPath φ) → ⊥) → Completes n path_capacity cut_capacity holds φ ps cs (refused 10 (0 ∷ [])) qs ds
  complete_cuts_full : {qs ds : List Numbers} → φ.items ≡ n → Improved (MinimalPath φ) ps qs → Improved (MinimalCut φ) cs ds → length ds ≡ cut_capacity → (AtMost cut_capacity (MinimalCut φ) → ⊥) → Completes n path_capacity cut_capacity holds φ ps cs (refused 10 (1 ∷ [])) qs ds
  complete_paths_unheld : {qs ds : List Numbers} → φ.items ≡ n → Improved (MinimalPath φ) ps qs → Improved (MinimalCut φ) cs ds → (((p : Numbers) → MinimalPath φ p → holds p) → ⊥) → Completes n path_capacity cut_capacity holds φ ps cs (refused 11 (0 ∷ [])) qs ds
  complete_cuts_unheld : {qs ds : List Numbers} → φ.items ≡ n → Improved (MinimalPath φ) ps qs → Improved (MinimalCut φ) cs ds → (((c : Numbers) → MinimalCut φ c → holds c) → ⊥) → Completes n path_capacity cut_capacity holds φ ps cs (refused 11 (1 ∷ [])) qs ds
  complete_done : {qs ds : List Numbers} → Possible n path_capacity cut_capacity holds φ ps cs → Lists qs (MinimalPath φ) → Lists ds (MinimalCut φ) → Completes n path_capacity cut_capacity holds φ ps cs (answered tt) qs ds

pub record Completed (n path_capacity cut_capacity : ℕ) (holds : Numbers → Type 0) (φ : Structure) (ps cs : List Numbers) (r : Reply (Unit {0})) (qs ds : List Numbers) : Type 0 where
  pub outcome : Completes n path_capacity cut_capacity holds φ ps cs r qs ds
  -- DONE whenever it is possible
  pub done : 1 ≤ n → Possible n path_capacity cut_capacity holds φ ps cs → r ≡ answered tt
  pub past : Past n path_capacity cut_capacity holds qs ds
