-- The call that reads a text and writes it again. Assumes nothing.
--
--   KindSheet      of a text with its labels at these places: its rows are read into two fresh tables of 1,000 places each, whose sheet text is
--                  written over `before` and reads back as the same labels and rows; or a row is refused, or the text has no room
--   TextSheet      the whole, of a text that may have no labels
--   sheet_code r   the length of the sheet text, or minus the number of the refusal
--   SheetCall      what the call answers
use Rattle.std.specs.Prelude.{◌≡◌, ℕ, ◌<◌, ◌≤◌, ℤ, pos, neg_ℤ, List, [], ◌++◌, map, length, take, drop, Ok, Err, Result}
use Rattle.sets.specs.Sets.{Numbers, Below}
use Rattle.sets.specs.Rising.{Sixteen}
use Rattle.sheets.specs.Bytes.{Bytes}
use Rattle.sheets.specs.Items.{ItemsCall}
use Rattle.sheets.specs.Labels.{named}
use Rattle.sheets.specs.RowsCalls.{RowsCall}
use Rattle.sheets.specs.declared.items_fault.ItemsFault.{ItemsFault}
use Rattle.sheets.specs.declared.place.LabelPlace.{LabelPlace}
use Rattle.sheets.specs.declared.rows_fault.RowsFault.{RowsFault}
use Rattle.writing.specs.RoundTrips.{ReadsBack}
use Rattle.writing.specs.SheetTexts.{sheet_text}
use Rattle.writing.specs.TextFaults.{text_refusal}
use Rattle.writing.specs.declared.fault.WriteFault.TheVariants.{NoRoom}
use Rattle.writing.specs.declared.text_fault.TextFault.{TextFault}
use Rattle.writing.specs.declared.text_fault.TextFault.TheVariants.{Items, Rows, Write}

module _ (holds : Numbers → Type 0) (text : Bytes) (labels : List LabelPlace) where
  -- the rows of the text are read, or refused
  abbrev pub Read : Result (Unit {0}) RowsFault → List Numbers → List Numbers → Type 0
  Read reply ps cs = RowsCall (length labels) (length labels) 1000 1000 holds text labels [] [] reply ps cs

  abbrev pub again : List Numbers → List Numbers → Bytes
  again ps cs = sheet_text (map (named text) labels) ps cs

  pub data KindSheet (before : Bytes) : Result ℕ TextFault → Bytes → Type 0 where
    row_refused : (fault : RowsFault) (ps cs : List Numbers) → Read (Err fault) ps cs → KindSheet before (Err (Rows fault)) before
    not_rewritten : (ps cs : List Numbers) → Read (Ok tt) ps cs → length before < length (again ps cs)
        → KindSheet before (Err (Write (NoRoom (length (again ps cs))))) before
    rewritten : (ps cs : List Numbers) → Read (Ok tt) ps cs → length (again ps cs) ≤ length before
        → (length (again ps cs) ≤ 65535 → ReadsBack (length labels) 1000 1000 holds (map (named text) labels) ps cs (again ps cs))
        → KindSheet before (Ok (length (again ps cs))) (again ps cs ++ drop (length (again ps cs)) before)

module _ (text before : Bytes) where
  pub data TextSheet : Result ℕ TextFault → Bytes → Type 0 where
    no_labels : (places places' : List LabelPlace) (fault : ItemsFault) → length places ≡ 256 → ItemsCall text places places' (Err fault)
        → TextSheet (Err (Items fault)) before
    in_words : (places places' : List LabelPlace) (n : ℕ) → length places ≡ 256 → ItemsCall text places places' (Ok n) → n ≤ 64
        → (r : Result ℕ TextFault) (after : Bytes) → KindSheet (Below 64) text (take n places') before r after → TextSheet r after
    in_lists : (places places' : List LabelPlace) (n : ℕ) → length places ≡ 256 → ItemsCall text places places' (Ok n) → 64 < n
        → (r : Result ℕ TextFault) (after : Bytes) → KindSheet Sixteen text (take n places') before r after → TextSheet r after

abbrev pub sheet_code : Result ℕ TextFault → ℤ
sheet_code (Ok len) = pos len
sheet_code (Err fault) = neg_ℤ (pos (text_refusal fault).number)

pub record SheetCall (text before : Bytes) (code : ℤ) (after : Bytes) : Type 0 where
  pub answer : Result ℕ TextFault
  pub sheet : TextSheet text before answer after
  pub code_is : code ≡ sheet_code answer
