-- The refusals of the writing calls. Assumes nothing.
--
--   write_refusal      the number and the values of each refusal
--   write_fault_text   what it says, with its values
--   unfit              the refusal of tables and labels that do not fit together
use Rattle.std.specs.Prelude.{ℕ, List, [], ◌∷◌, ◌++◌, codes}
use Rattle.std.specs.Fmt.{decimal}
use Rattle.tables.specs.Refusals.{Refusal}
use Rattle.duality.specs.declared.fault.PairFault.{PairFault}
use Rattle.duality.specs.declared.fault.PairFault.TheVariants.{ItemCount as NoCount, CountsDiffer as Differ}
use Rattle.writing.specs.declared.fault.WriteFault.{WriteFault}
use Rattle.writing.specs.declared.fault.WriteFault.TheVariants.{ItemCount, CountsDiffer, TooLong, NoRoom}

abbrev pub write_refusal : WriteFault → Refusal
write_refusal (ItemCount count) = record { number = 1; values = count ∷ [] }
write_refusal (CountsDiffer first second) = record { number = 8; values = first ∷ second ∷ [] }
write_refusal (TooLong len) = record { number = 13; values = len ∷ [] }
write_refusal (NoRoom needed) = record { number = 12; values = needed ∷ [] }

abbrev pub write_fault_text : WriteFault → List ℕ
write_fault_text (ItemCount count) = codes "item count " ++ decimal count
write_fault_text (CountsDiffer first second) = codes "counts " ++ decimal first ++ codes " and " ++ decimal second
write_fault_text (TooLong len) = codes "a text of " ++ decimal len ++ codes " bytes"
write_fault_text (NoRoom needed) = codes "an output of " ++ decimal needed ++ codes " bytes has no room"

abbrev pub unfit : PairFault → WriteFault
unfit (NoCount count) = ItemCount count
unfit (Differ first second) = CountsDiffer first second
