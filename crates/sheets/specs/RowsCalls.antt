-- The second reading call. Assumes nothing.
--
-- The path table has p items and the capacity a, the cut table c items and the capacity b.
--
--   RowsCall       the reply of the call, and the rows qs and ds that it leaves in place of ps and cs
--   RowsComeBack   rows that were put are read from the text that is written of them
--   OneReading     the text, the places and the rows decide both
use Rattle.std.specs.Prelude.{◌≡◌, ℕ, ◌+◌, ◌<◌, ◌≤◌, List, ◌++◌, length, map, Ok, Err, Result}
use Rattle.sets.specs.Sets.{Numbers}
use Rattle.duality.specs.declared.fault.PairFault.{PairFault}
use Rattle.sheets.specs.Bytes.{Bytes, items_text}
use Rattle.sheets.specs.Counts.{Counts}
use Rattle.sheets.specs.Items.{Accepted}
use Rattle.sheets.specs.Labels.{named}
use Rattle.sheets.specs.Rows.{RowLine, rows_text, Run, RowsRead}
use Rattle.sheets.specs.RowsFaults.{unfit}
use Rattle.sheets.specs.Skips.{Skips}
use Rattle.sheets.specs.declared.place.LabelPlace.{LabelPlace}
use Rattle.sheets.specs.declared.rows_fault.RowsFault.{RowsFault}
use Rattle.sheets.specs.declared.rows_fault.RowsFault.TheVariants.{TooLong}

pub data RowsCall (p c a b : ℕ) (holds : Numbers → Type 0) (text : Bytes) (places : List LabelPlace) (ps cs : List Numbers) : Result (Unit {0}) RowsFault → List Numbers → List Numbers → Type 0 where
  not_fit : (fault : PairFault) → Counts p c (length places) (Err fault) → RowsCall p c a b holds text places ps cs (Err (unfit fault)) ps cs
  too_long : Counts p c (length places) (Ok tt) → 65535 < length text → RowsCall p c a b holds text places ps cs (Err (TooLong (length text))) ps cs
  rows_read : (lines : ℕ) (rest : Bytes) (r : Result (Unit {0}) RowsFault) (qs ds : List Numbers) → Counts p c (length places) (Ok tt) → length text ≤ 65535
      → Skips text lines rest → RowsRead p a b holds (map (named text) places) rest (lines + 1) ps cs r qs ds → RowsCall p c a b holds text places ps cs r qs ds

-- of each call the definitions allow one reply, and the rows of each table after it are determined
abbrev pub OneReading : (Numbers → Type 0) → Type 0
OneReading holds = (p c a b : ℕ) (text : Bytes) (places : List LabelPlace) (ps cs : List Numbers) (r s : Result (Unit {0}) RowsFault) (qs ds xs ys : List Numbers)
    → RowsCall p c a b holds text places ps cs r qs ds → RowsCall p c a b holds text places ps cs s xs ys → (r ≡ s) × (qs ≡ xs) × (ds ≡ ys)

-- rows that were put come back from the text that is written of them behind the lines of the items
abbrev pub RowsComeBack : (Numbers → Type 0) → Type 0
RowsComeBack holds = (n a b : ℕ) (ls : List Bytes) (rs : List RowLine) (places : List LabelPlace) (ps cs us vs qs ds : List Numbers) (r : Result (Unit {0}) RowsFault)
    → Accepted ls → Counts n n (length places) (Ok tt) → map (named (items_text 0 ls ++ rows_text rs)) places ≡ ls → length (items_text 0 ls ++ rows_text rs) ≤ 65535
    → Run n a b holds ls ps cs rs us vs → RowsCall n n a b holds (items_text 0 ls ++ rows_text rs) places ps cs r qs ds → (r ≡ Ok tt) × (qs ≡ us) × (ds ≡ vs)
