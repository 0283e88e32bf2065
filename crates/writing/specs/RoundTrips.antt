-- A sheet text read back. Assumes nothing.
--
--   LabelsRead text places          the first reading call read the labels of the text into these places
--   ReadsBack n a b holds names ps cs bs
--                                   read into n label places and into two fresh tables of n items and the capacities a and b, the text bs
--                                   gives the labels `names`, byte for byte, and the rows ps and cs, in their order
use Rattle.std.specs.Prelude.{◌≡◌, ℕ, List, [], map, length, take, Ok, Result}
use Rattle.sets.specs.Sets.{Numbers}
use Rattle.sheets.specs.Bytes.{Bytes}
use Rattle.sheets.specs.Items.{ItemsCall}
use Rattle.sheets.specs.Labels.{named}
use Rattle.sheets.specs.RowsCalls.{RowsCall}
use Rattle.sheets.specs.declared.place.LabelPlace.{LabelPlace}
use Rattle.sheets.specs.declared.items_fault.ItemsFault.{ItemsFault}
use Rattle.sheets.specs.declared.rows_fault.RowsFault.{RowsFault}

pub record LabelsRead (text : Bytes) (places : List LabelPlace) : Type 0 where
  pub before : List LabelPlace
  pub after : List LabelPlace
  pub call : ItemsCall text before after (Ok (length places))
  pub first : places ≡ take (length places) after

pub record ReadsBack (n a b : ℕ) (holds : Numbers → Type 0) (names : List Bytes) (ps cs : List Numbers) (bs : Bytes) : Type 0 where
  pub labels : (before after : List LabelPlace) (r : Result ℕ ItemsFault) → length before ≡ n → ItemsCall bs before after r
      → (r ≡ Ok n) × (map (named bs) after ≡ names)
  pub rows : (places : List LabelPlace) (r : Result (Unit {0}) RowsFault) (qs ds : List Numbers) → map (named bs) places ≡ names
      → RowsCall n n a b holds bs places [] [] r qs ds → (r ≡ Ok tt) × (qs ≡ ps) × (ds ≡ cs)
