-- The refusals of the first reading call, and how the fault of the layer below is passed on. Assumes nothing.
--
--   items_refusal      the number and the values of each refusal
--   items_fault_text   what it says, with its values
--   items_fault_line   the line that it names; 0 if it names none
--   unformed_line      the refusal of a line that is not formed
use Rattle.std.specs.Prelude.{ℕ, List, [], ◌∷◌, ◌++◌, codes}
use Rattle.std.specs.Fmt.{decimal}
use Rattle.tables.specs.Refusals.{Refusal}
use Rattle.sheets.specs.declared.line.LineFault.{LineFault}
use Rattle.sheets.specs.declared.line.LineFault.TheVariants.{Bad}
use Rattle.sheets.specs.declared.items_fault.ItemsFault.{ItemsFault}
use Rattle.sheets.specs.declared.items_fault.ItemsFault.TheVariants.{ItemCount, NoPlace, TooLong, Unformed, Repeated}

abbrev pub items_refusal : ItemsFault → Refusal
items_refusal (ItemCount count line) = record { number = 1; values = count ∷ line ∷ [] }
items_refusal (NoPlace places line) = record { number = 6; values = places ∷ line ∷ [] }
items_refusal (TooLong len) = record { number = 13; values = len ∷ [] }
items_refusal (Unformed line) = record { number = 14; values = line ∷ [] }
items_refusal (Repeated line item) = record { number = 15; values = line ∷ item ∷ [] }

abbrev pub items_fault_text : ItemsFault → List ℕ
items_fault_text (ItemCount count line) = codes "item count " ++ decimal count ++ codes ", line " ++ decimal line
items_fault_text (NoPlace places line) = codes "no free place, of " ++ decimal places ++ codes ", line " ++ decimal line
items_fault_text (TooLong len) = codes "a text of " ++ decimal len ++ codes " bytes"
items_fault_text (Unformed line) = codes "line " ++ decimal line ++ codes " is not formed"
items_fault_text (Repeated line item) = codes "label of item " ++ decimal item ++ codes ", line " ++ decimal line

abbrev pub items_fault_line : ItemsFault → ℕ
items_fault_line (ItemCount count line) = line
items_fault_line (NoPlace places line) = line
items_fault_line (TooLong len) = 0
items_fault_line (Unformed line) = line
items_fault_line (Repeated line item) = line

abbrev pub unformed_line : LineFault → ItemsFault
unformed_line (Bad line) = Unformed line
