-- What the put of one line's row replies, and the rows that it leaves. Assumes nothing.
--
--   RowPut   of a row that is looked up and put, of one with a label of no item, and of one that the table refuses
use Rattle.std.specs.Prelude.{◌≡◌, ℕ, List, Ok, Err, Result}
use Rattle.sets.specs.Sets.{Numbers}
use Rattle.tables.specs.Refusals.{answered, refused, table_refusal}
use Rattle.tables.specs.Calls.{Puts}
use Rattle.tables.specs.declared.fault.TableFault.{TableFault}
use Rattle.sheets.specs.Bytes.{Bytes, Labels, spaced}
use Rattle.sheets.specs.Looks.{Looked, Lost}
use Rattle.sheets.specs.declared.putting.RowFault.{RowFault}
use Rattle.sheets.specs.declared.putting.RowFault.TheVariants.{NoItem, Table}

pub data RowPut (n capacity : ℕ) (holds : Numbers → Type 0) (names : List Bytes) (row : Bytes) (ps : List Numbers) : Result (Unit {0}) RowFault → List Numbers → Type 0 where
  row_put : (ls : List Bytes) (ks : List ℕ) (many : ℕ) (qs : List Numbers) → Labels ls → row ≡ spaced ls → Looked names ls ks
      → Puts n capacity holds ps ks (answered many) qs → RowPut n capacity holds names row ps (Ok tt) qs
  row_lost : Lost names row → RowPut n capacity holds names row ps (Err NoItem) ps
  row_refused : (ls : List Bytes) (ks : List ℕ) (fault : TableFault) (qs : List Numbers) → Labels ls → row ≡ spaced ls → Looked names ls ks
      → Puts n capacity holds ps ks (refused (table_refusal fault).number (table_refusal fault).values) qs → RowPut n capacity holds names row ps (Err (Table fault)) qs
