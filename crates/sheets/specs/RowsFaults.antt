-- The refusals of the second reading call, and how the faults of the layers below are passed on. Assumes nothing.
--
--   rows_refusal      the number and the values of each refusal
--   rows_fault_text   what it says, with its values
--   unformed          the refusal of a line that is not formed
--   rows_fault_line   the line that it names; 0 if it names none
--   unfit             the refusal of tables and labels that do not fit together
--   at_line           the refusal of a row, with the row's line
use Rattle.std.specs.Prelude.{ℕ, List, [], ◌∷◌, ◌++◌, codes}
use Rattle.std.specs.Fmt.{decimal}
use Rattle.tables.specs.Refusals.{Refusal, table_refusal, table_text}
use Rattle.duality.specs.declared.fault.PairFault.{PairFault}
use Rattle.duality.specs.declared.fault.PairFault.TheVariants.{ItemCount as NoCount, CountsDiffer as Differ}
use Rattle.sheets.specs.declared.line.LineFault.{LineFault}
use Rattle.sheets.specs.declared.line.LineFault.TheVariants.{Bad}
use Rattle.sheets.specs.declared.putting.RowFault.{RowFault}
use Rattle.sheets.specs.declared.putting.RowFault.TheVariants.{NoItem as NoSuchItem, Table}
use Rattle.sheets.specs.declared.rows_fault.RowsFault.{RowsFault}
use Rattle.sheets.specs.declared.rows_fault.RowsFault.TheVariants.{ItemCount, CountsDiffer, TooLong, Unformed, NoItem, Put}

abbrev pub rows_refusal : RowsFault → Refusal
rows_refusal (ItemCount count) = record { number = 1; values = count ∷ [] }
rows_refusal (CountsDiffer first second) = record { number = 8; values = first ∷ second ∷ [] }
rows_refusal (TooLong len) = record { number = 13; values = len ∷ [] }
rows_refusal (Unformed line) = record { number = 14; values = line ∷ [] }
rows_refusal (NoItem line) = record { number = 16; values = line ∷ [] }
rows_refusal (Put fault line) = record { number = (table_refusal fault).number; values = (table_refusal fault).values ++ line ∷ [] }

abbrev pub rows_fault_text : RowsFault → List ℕ
rows_fault_text (ItemCount count) = codes "item count " ++ decimal count
rows_fault_text (CountsDiffer first second) = codes "counts " ++ decimal first ++ codes " and " ++ decimal second
rows_fault_text (TooLong len) = codes "a text of " ++ decimal len ++ codes " bytes"
rows_fault_text (Unformed line) = codes "line " ++ decimal line ++ codes " is not formed"
rows_fault_text (NoItem line) = codes "a label of no item, line " ++ decimal line
rows_fault_text (Put fault line) = table_text fault ++ codes ", line " ++ decimal line

abbrev pub rows_fault_line : RowsFault → ℕ
rows_fault_line (ItemCount count) = 0
rows_fault_line (CountsDiffer first second) = 0
rows_fault_line (TooLong len) = 0
rows_fault_line (Unformed line) = line
rows_fault_line (NoItem line) = line
rows_fault_line (Put fault line) = line

abbrev pub unfit : PairFault → RowsFault
unfit (NoCount count) = ItemCount count
unfit (Differ first second) = CountsDiffer first second

abbrev pub unformed : LineFault → RowsFault
unformed (Bad line) = Unformed line

abbrev pub at_line : ℕ → RowFault → RowsFault
at_line line NoSuchItem = NoItem line
at_line line (Table fault) = Put fault line
