-- Whole runs: one more call behind a run.
use Rattle.std.proofs.Common.{◌≡◌, ℕ, ◌+◌, ◌<◌, ◌≤◌, List, [], ◌∷◌, ◌++◌, length, get_or, take, set, Result, sym, subst}
use Rattle.std.proofs.lemmas.List.{take_more, take_more_set, take-append-le}
use Rattle.sets.specs.Sets.{Numbers}
use Rattle.sets.specs.declared.kind.SetKind.{Ghosts}
use Rattle.systems.specs.Systems.{Structure}
use Rattle.tables.specs.Pasts.{Past}
use Rattle.tables.specs.Pasts.Past.{opened}
use Rattle.tables.specs.Tables.{Holds, Left}
use Rattle.tables.specs.declared.row.Row.{Row}
use Rattle.tables.specs.declared.table.Table.{Table}
use Rattle.completion.specs.Replays.{Replays}
use Rattle.completion.specs.Runs.{Step, Run, none, next}
use Rattle.completion.specs.declared.call.Call.{Call}
use Rattle.completion.specs.declared.call.Answer.{Answer}
use Rattle.completion.specs.declared.refused.Refused.{Refused}

run_push : {n a b : ℕ} {holds : Numbers → Type 0} {drawings : List Structure} {call : Call} {calls : List Call} {answer : Result Answer Refused} {answers : List (Result Answer Refused)} {ps cs us vs qs ds : List Numbers}
    → Run n a b holds drawings calls ps cs answers us vs → Past n a b holds us vs → Step n a b holds drawings call us vs answer qs ds
    → Run n a b holds drawings (calls ++ call ∷ []) ps cs (answers ++ answer ∷ []) qs ds
run_push none past step = next past step none
run_push (next p s r) past step = next p s (run_push r past step)

-- the first `made` calls were made, and the tables P and C hold what they end with
pub record Reached {X : Type 0} {G : Ghosts X} (mem : X → Numbers) (holds : Numbers → Type 0) (drawings : List Structure) (calls : List Call) (answers : List (Result Answer Refused)) (made n a b : ℕ) (P C : Table X G) : Type 0 where
  pub us : List Numbers
  pub vs : List Numbers
  pub paths : Holds mem P n us
  pub cuts : Holds mem C n vs
  pub past : Past n a b holds us vs
  pub run : Run n a b holds drawings (take made calls) [] [] (take made answers) us vs

abbrev pub Running : {X : Type 0} {G : Ghosts X} → (X → Numbers) → (Numbers → Type 0) → List Structure → List Call → List (Result Answer Refused) → ℕ → Table X G → Table X G → Table X G → Table X G → Type 0
Running mem holds drawings calls answers made P₀ C₀ P C = (n : ℕ) → Holds mem P₀ n [] → Holds mem C₀ n [] → Reached mem holds drawings calls answers made n P₀.capacity C₀.capacity P C

-- what `step` says
abbrev Stepped : {X : Type 0} {G : Ghosts X} → (X → Numbers) → (Numbers → Type 0) → List Structure → Call → Result Answer Refused → Table X G → Table X G → Table X G → Table X G → Type 0
Stepped mem holds drawings call answer P C P' C' = (n : ℕ) (ps cs : List Numbers) → Past n P.capacity C.capacity holds ps cs → Holds mem P n ps → Holds mem C n cs
    → (qs ds : List Numbers) × Holds mem P' n qs × Holds mem C' n ds × Past n P.capacity C.capacity holds qs ds × Step n P.capacity C.capacity holds drawings call ps cs answer qs ds

module _ {X : Type 0} {G : Ghosts X} {mem : X → Numbers} {holds : Numbers → Type 0} {drawings : List Structure} {calls : List Call} {answers : List (Result Answer Refused)} where
  pub running_none : {P C : Table X G} → Running mem holds drawings calls answers 0 P C P C
  running_none n hp hc = record { us = []; vs = []; paths = hp; cuts = hc; past = opened; run = none }

  module _ {P₀ C₀ P C P' C' : Table X G} {i : ℕ} (inv : Running mem holds drawings calls answers i P₀ C₀ P C) (kept_paths : P.capacity ≡ P₀.capacity) (kept_cuts : C.capacity ≡ C₀.capacity) where
    pub running_more : (d : Call) (answer : Result Answer Refused) → i < length calls → i < length answers → Stepped mem holds drawings (get_or calls i d) answer P C P' C'
        → Running mem holds drawings calls (set answers i answer) (i + 1) P₀ C₀ P' C'
    running_more d answer called answered stepped n hp hc =
        let r = inv n hp hc in
        let us = r.us in
        let vs = r.vs in
        let before : Past n P.capacity C.capacity holds us vs =
        subst (λ (b : ℕ). Past n P.capacity b holds us vs) (sym kept_cuts) (subst (λ (a : ℕ). Past n a C₀.capacity holds us vs) (sym kept_paths) r.past) in
        let s = stepped n us vs before r.paths r.cuts in
        let qs = s.0 in
        let ds = s.1 in
        let past : Past n P₀.capacity C₀.capacity holds qs ds =
        subst (λ (b : ℕ). Past n P₀.capacity b holds qs ds) kept_cuts (subst (λ (a : ℕ). Past n a C.capacity holds qs ds) kept_paths s.4) in
        let step : Step n P₀.capacity C₀.capacity holds drawings (get_or calls i d) us vs answer qs ds =
        subst (λ (b : ℕ). Step n P₀.capacity b holds drawings (get_or calls i d) us vs answer qs ds) kept_cuts
        (subst (λ (a : ℕ). Step n a C.capacity holds drawings (get_or calls i d) us vs answer qs ds) kept_paths s.5) in
        let run = run_push r.run r.past step in
        record {
          us = qs;
          vs = ds;
          paths = s.2;
          cuts = s.3;
          past = past;
          run = subst (λ (l : List (Result Answer Refused)). Run n P₀.capacity C₀.capacity holds drawings (take (i + 1) calls) [] [] l qs ds) (sym (take_more_set answers i answer answered))
              (subst (λ (l : List Call). Run n P₀.capacity C₀.capacity holds drawings l [] [] (take i answers ++ answer ∷ []) qs ds) (sym (take_more calls i d called)) run);
        }

module _ {X : Type 0} {G : Ghosts X} {mem : X → Numbers} {holds : Numbers → Type 0} {drawings : List Structure} {calls : List Call} {answers : List (Result Answer Refused)} {P C : Table X G} {n made a₀ b₀ : ℕ} where
  pub replayed : {paths paths' cuts cuts' : List (Row X)} {m p q : ℕ} (a b : ℕ) (reached : Reached mem holds drawings calls answers made n a₀ b₀ P C) (rest : List (Result Answer Refused)) → made ≡ m → m ≤ length answers
      → a₀ ≡ a → b₀ ≡ b → Left mem paths paths' a p reached.us → Left mem cuts cuts' b q reached.vs
      → Replays mem n a b holds drawings calls (answers ++ rest) paths paths' cuts cuts' (record { made = m; paths = p; cuts = q })
  replayed {m} a b reached rest all few ea eb lp lc =
      let us = reached.us in
      let vs = reached.vs in
      let run : Run n a b holds drawings (take m calls) [] [] (take m answers) us vs =
      subst (λ (k : ℕ). Run n a b holds drawings (take k calls) [] [] (take k answers) us vs) all
      (subst (λ (k : ℕ). Run n a k holds drawings (take made calls) [] [] (take made answers) us vs) eb
      (subst (λ (k : ℕ). Run n k b₀ holds drawings (take made calls) [] [] (take made answers) us vs) ea reached.run)) in
      record {
        us = us;
        vs = vs;
        run = rw take-append-le run;
        past = subst (λ (k : ℕ). Past n a k holds us vs) eb (subst (λ (k : ℕ). Past n k b₀ holds us vs) ea reached.past);
        path_memory = lp;
        cut_memory = lc;
      }
