-- Runs of calls on two tables that were opened with one item count n. Assumes nothing.
--
--   Step   one call: its answer is what is claimed of it for the rows before, and gives the rows after
--   Run    calls one after the other; before each, the rows have a past
use Rattle.std.specs.Prelude.{ℕ, ◌<◌, ◌≤◌, false, List, [], ◌∷◌, length, Ok, Err, Result, slice_index_or}
use Rattle.std.specs.Borrow.{Bor}
use Rattle.sets.specs.Sets.{Numbers}
use Rattle.systems.specs.Systems.{Structure}
use Rattle.tables.specs.Refusals.{answered, refused, table_refusal}
use Rattle.tables.specs.Calls.{Puts, Strikes}
use Rattle.tables.specs.Pasts.{Past}
use Rattle.duality.specs.Pairs.{Pairs, pair_refusal}
use Rattle.duality.specs.Verdicts.{Audited}
use Rattle.tables.specs.declared.fault.TableFault.{TableFault}
use Rattle.duality.specs.declared.fault.PairFault.{PairFault}
use Rattle.duality.specs.declared.verdict.Verdict.{Verdict}
use Rattle.completion.specs.Completions.{Completed, completion_refusal}
use Rattle.completion.specs.declared.fault.CompletionFault.{CompletionFault}
use Rattle.completion.specs.declared.call.Call.{Call}
use Rattle.completion.specs.declared.call.Call.TheVariants.{PutPath, PutCut, StrikePath, StrikeCut, Audit, Complete}
use Rattle.completion.specs.declared.call.Answer.{Answer}
use Rattle.completion.specs.declared.call.Answer.TheVariants.{Removed, Struck, Said, Done}
use Rattle.completion.specs.declared.refused.Refused.{Refused}
use Rattle.completion.specs.declared.refused.Refused.TheVariants.{Table, Pair, Completion, NoDrawing}

-- a structure function of no items that never works
abbrev pub no_structure : Structure
no_structure = record { items = 0; works = λ _. false; monotone = λ s t a b h x. x }

pub data Step (n a b : ℕ) (holds : Numbers → Type 0) (drawings : List Structure) : Call → List Numbers → List Numbers → Result Answer Refused → List Numbers → List Numbers → Type 0 where
  path_put : {ps cs qs : List Numbers} (items : Bor (List ℕ)) (k : ℕ) → Puts n a holds ps items.now (answered k) qs → Step n a b holds drawings (PutPath items) ps cs (Ok (Removed k)) qs cs
  path_refused : {ps cs qs : List Numbers} (items : Bor (List ℕ)) (f : TableFault) → Puts n a holds ps items.now (refused (table_refusal f).number (table_refusal f).values) qs → Step n a b holds drawings (PutPath items) ps cs (Err (Table f)) qs cs
  cut_put : {ps cs ds : List Numbers} (items : Bor (List ℕ)) (k : ℕ) → Puts n b holds cs items.now (answered k) ds → Step n a b holds drawings (PutCut items) ps cs (Ok (Removed k)) ps ds
  cut_refused : {ps cs ds : List Numbers} (items : Bor (List ℕ)) (f : TableFault) → Puts n b holds cs items.now (refused (table_refusal f).number (table_refusal f).values) ds → Step n a b holds drawings (PutCut items) ps cs (Err (Table f)) ps ds
  path_struck : {ps cs qs : List Numbers} (row : ℕ) → Strikes n ps row (answered tt) qs → Step n a b holds drawings (StrikePath row) ps cs (Ok Struck) qs cs
  path_kept : {ps cs qs : List Numbers} (row : ℕ) (f : TableFault) → Strikes n ps row (refused (table_refusal f).number (table_refusal f).values) qs → Step n a b holds drawings (StrikePath row) ps cs (Err (Table f)) qs cs
  cut_struck : {ps cs ds : List Numbers} (row : ℕ) → Strikes n cs row (answered tt) ds → Step n a b holds drawings (StrikeCut row) ps cs (Ok Struck) ps ds
  cut_kept : {ps cs ds : List Numbers} (row : ℕ) (f : TableFault) → Strikes n cs row (refused (table_refusal f).number (table_refusal f).values) ds → Step n a b holds drawings (StrikeCut row) ps cs (Err (Table f)) ps ds
  audited : {ps cs : List Numbers} (v : Verdict) → Audited n ps cs v → Step n a b holds drawings Audit ps cs (Ok (Said v)) ps cs
  not_audited : {ps cs : List Numbers} (f : PairFault) → Pairs n n (refused (pair_refusal f).number (pair_refusal f).values) → Step n a b holds drawings Audit ps cs (Err (Pair f)) ps cs
  completed : {ps cs qs ds : List Numbers} (i : ℕ) → i < length drawings → Completed n a b holds (slice_index_or drawings i no_structure) ps cs (answered tt) qs ds → Step n a b holds drawings (Complete i) ps cs (Ok Done) qs ds
  not_completed : {ps cs qs ds : List Numbers} (i : ℕ) (f : CompletionFault) → i < length drawings → Completed n a b holds (slice_index_or drawings i no_structure) ps cs (refused (completion_refusal f).number (completion_refusal f).values) qs ds → Step n a b holds drawings (Complete i) ps cs (Err (Completion f)) qs ds
  no_drawing : {ps cs : List Numbers} (i : ℕ) → length drawings ≤ i → Step n a b holds drawings (Complete i) ps cs (Err (NoDrawing i)) ps cs

pub data Run (n a b : ℕ) (holds : Numbers → Type 0) (drawings : List Structure) : List Call → List Numbers → List Numbers → List (Result Answer Refused) → List Numbers → List Numbers → Type 0 where
  none : {ps cs : List Numbers} → Run n a b holds drawings [] ps cs [] ps cs
  next : {call : Call} {calls : List Call} {answer : Result Answer Refused} {answers : List (Result Answer Refused)} {ps cs qs ds us vs : List Numbers}
      → Past n a b holds ps cs → Step n a b holds drawings call ps cs answer qs ds → Run n a b holds drawings calls qs ds answers us vs
      → Run n a b holds drawings (call ∷ calls) ps cs (answer ∷ answers) us vs
