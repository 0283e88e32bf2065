-- What is printed for a text. Assumes nothing.
--
--   printed names ps cs found   the bytes: the report, or the STOP line of the refusal
--   Reports            the rows ps and cs are read with the reply; `found` is the refusal of a row, or the verdict of an audit; and where the
--                      report is longer than `room`, it is refusal 12
--   KindAnswer         the same of a text with its labels at these places: its rows are read into two fresh tables, and their memory is left so
--   word_means, list_means   the set that a value of the word kind, or of the list kind, means
--   Memory             what a text is read into, before the call or after it: places for labels, and for rows in words and in lists
--   verdict_of r       the verdict of a text, or why there is none
--   Leaves             a report is written over `before`, or nothing is
--   Finds              the whole, of a text that may have no labels
--   AnswerCall         and what the call answers, and leaves of the output memory
use Rattle.std.specs.Prelude.{◌≡◌, ℕ, ◌<◌, ◌≤◌, min, List, [], ◌++◌, map, length, take, drop, Ok, Err, Result}
use Rattle.sets.specs.Sets.{Numbers, Below, listed}
use Rattle.sets.specs.Words.{word_set}
use Rattle.sets.specs.Rising.{Sixteen}
use Rattle.sets.specs.declared.word.WordSet.{WordSet}
use Rattle.sets.specs.declared.list.ListSet.{ListSet}
use Rattle.tables.specs.Tables.{Left}
use Rattle.tables.specs.declared.row.Row.{Row}
use Rattle.duality.specs.Verdicts.{Audited}
use Rattle.duality.specs.declared.verdict.Verdict.{Verdict}
use Rattle.sheets.specs.Bytes.{Bytes}
use Rattle.sheets.specs.Items.{ItemsCall}
use Rattle.sheets.specs.Labels.{named}
use Rattle.sheets.specs.RowsCalls.{RowsCall}
use Rattle.sheets.specs.declared.items_fault.ItemsFault.{ItemsFault}
use Rattle.sheets.specs.declared.place.LabelPlace.{LabelPlace}
use Rattle.sheets.specs.declared.rows_fault.RowsFault.{RowsFault}
use Rattle.writing.specs.Reports.{report_text, stop_text}
use Rattle.writing.specs.TextFaults.{text_refusal, text_fault_line}
use Rattle.writing.specs.declared.answer.Answer.{Answer}
use Rattle.writing.specs.declared.answer.Reported.{Reported}
use Rattle.writing.specs.declared.fault.WriteFault.{WriteFault}
use Rattle.writing.specs.declared.fault.WriteFault.TheVariants.{NoRoom}
use Rattle.writing.specs.declared.text_fault.TextFault.{TextFault}
use Rattle.writing.specs.declared.text_fault.TextFault.TheVariants.{Items, Rows, Write}

abbrev pub printed : List Bytes → List Numbers → List Numbers → Result Verdict TextFault → Bytes
printed names ps cs (Ok verdict) = report_text names (length ps) (length cs) verdict
printed names ps cs (Err fault) = stop_text (text_refusal fault).number (text_fault_line fault)

pub data Reports (n : ℕ) (names : List Bytes) (ps cs : List Numbers) (room : ℕ) : Result (Unit {0}) RowsFault → Result Verdict TextFault → Type 0 where
  row_refused : (fault : RowsFault) → Reports n names ps cs room (Err fault) (Err (Rows fault))
  reported : (v : Verdict) → Audited n ps cs v → length (report_text names (length ps) (length cs) v) ≤ room → Reports n names ps cs room (Ok tt) (Ok v)
  not_reported : (v : Verdict) → Audited n ps cs v → room < length (report_text names (length ps) (length cs) v)
      → Reports n names ps cs room (Ok tt) (Err (Write (NoRoom (length (report_text names (length ps) (length cs) v)))))

pub record KindAnswer {X : Type 0} (mem : X → Numbers) (holds : Numbers → Type 0) (text : Bytes) (labels : List LabelPlace) (paths paths' cuts cuts' : List (Row X)) (room : ℕ) (found : Result Verdict TextFault) (bytes : Bytes) : Type 0 where
  pub reply : Result (Unit {0}) RowsFault
  pub ps : List Numbers
  pub cs : List Numbers
  pub call : RowsCall (length labels) (length labels) (min 4096 (length paths)) (min 4096 (length cuts)) holds text labels [] [] reply ps cs
  pub reports : Reports (length labels) (map (named text) labels) ps cs room reply found
  pub prints : bytes ≡ printed (map (named text) labels) ps cs found
  pub path_memory : Left mem paths paths' (min 4096 (length paths)) (length ps) ps
  pub cut_memory : Left mem cuts cuts' (min 4096 (length cuts)) (length cs) cs

abbrev pub verdict_of : Result Reported TextFault → Result Verdict TextFault
verdict_of (Ok r) = Ok r.verdict
verdict_of (Err fault) = Err fault

abbrev pub Leaves : Result Reported TextFault → Bytes → Bytes → Bytes → Type 0
Leaves (Ok r) bytes before after = (r.len ≡ length bytes) × (length bytes ≤ length before) × (after ≡ bytes ++ drop (length bytes) before)
Leaves (Err fault) bytes before after = after ≡ before

abbrev pub word_means : WordSet → Numbers
word_means x = word_set x.bits

abbrev pub list_means : ListSet → Numbers
list_means x = listed (take x.len x.numbers)

pub record Memory : Type 0 where
  pub labels : List LabelPlace
  pub word_paths : List (Row WordSet)
  pub word_cuts : List (Row WordSet)
  pub list_paths : List (Row ListSet)
  pub list_cuts : List (Row ListSet)

abbrev pub SameWords : Memory → Memory → Type 0
SameWords m m' = (m'.word_paths ≡ m.word_paths) × (m'.word_cuts ≡ m.word_cuts)

abbrev pub SameLists : Memory → Memory → Type 0
SameLists m m' = (m'.list_paths ≡ m.list_paths) × (m'.list_cuts ≡ m.list_cuts)

module _ (text : Bytes) (room : ℕ) (m m' : Memory) where
  pub data Finds : Result Verdict TextFault → Bytes → Type 0 where
    no_labels : (fault : ItemsFault) → ItemsCall text m.labels m'.labels (Err fault) → SameWords m m' → SameLists m m'
        → Finds (Err (Items fault)) (printed [] [] [] (Err (Items fault)))
    in_words : (n : ℕ) → ItemsCall text m.labels m'.labels (Ok n) → n ≤ 64 → SameLists m m' → (found : Result Verdict TextFault) (bytes : Bytes)
        → KindAnswer word_means (Below 64) text (take n m'.labels) m.word_paths m'.word_paths m.word_cuts m'.word_cuts room found bytes → Finds found bytes
    in_lists : (n : ℕ) → ItemsCall text m.labels m'.labels (Ok n) → 64 < n → SameWords m m' → (found : Result Verdict TextFault) (bytes : Bytes)
        → KindAnswer list_means Sixteen text (take n m'.labels) m.list_paths m'.list_paths m.list_cuts m'.list_cuts room found bytes → Finds found bytes

  pub data AnswerCall (before : Bytes) : Result Answer WriteFault → Bytes → Type 0 where
    answered : (found : Result Verdict TextFault) (bytes : Bytes) → Finds found bytes → length bytes ≤ length before
        → AnswerCall before (Ok (record { len = length bytes; found = found })) (bytes ++ drop (length bytes) before)
    unanswered : (found : Result Verdict TextFault) (bytes : Bytes) → Finds found bytes → length before < length bytes
        → AnswerCall before (Err (NoRoom (length bytes))) before
