-- Why a text has no report: the refusals of the calls that are made for it. Assumes nothing.
--
--   text_refusal      the number and the values of each refusal
--   text_fault_line   the line that it names; 0 if it names none
--   text_fault_text   what it says, with its values
use Rattle.std.specs.Prelude.{ℕ, List}
use Rattle.tables.specs.Refusals.{Refusal}
use Rattle.sheets.specs.ItemsFaults.{items_refusal, items_fault_line, items_fault_text}
use Rattle.sheets.specs.RowsFaults.{rows_refusal, rows_fault_line, rows_fault_text}
use Rattle.writing.specs.Faults.{write_refusal, write_fault_text}
use Rattle.writing.specs.declared.text_fault.TextFault.{TextFault}
use Rattle.writing.specs.declared.text_fault.TextFault.TheVariants.{Items, Rows, Write}

abbrev pub text_refusal : TextFault → Refusal
text_refusal (Items fault) = items_refusal fault
text_refusal (Rows fault) = rows_refusal fault
text_refusal (Write fault) = write_refusal fault

abbrev pub text_fault_line : TextFault → ℕ
text_fault_line (Items fault) = items_fault_line fault
text_fault_line (Rows fault) = rows_fault_line fault
text_fault_line (Write fault) = 0

abbrev pub text_fault_text : TextFault → List ℕ
text_fault_text (Items fault) = items_fault_text fault
text_fault_text (Rows fault) = rows_fault_text fault
text_fault_text (Write fault) = write_fault_text fault
