-- The checks of two tables, of p items and of c items, and of the number of labels. Assumes nothing.
use Rattle.std.specs.Prelude.{◌≡◌, ◌≢◌, ℕ, ◌≤◌, Ok, Err, Result}
use Rattle.duality.specs.declared.fault.PairFault.{PairFault}
use Rattle.duality.specs.declared.fault.PairFault.TheVariants.{ItemCount, CountsDiffer}

pub data Counts (p c labels : ℕ) : Result (Unit {0}) PairFault → Type 0 where
  paths_closed : p ≡ 0 → Counts p c labels (Err (ItemCount p))
  cuts_closed : 1 ≤ p → c ≡ 0 → Counts p c labels (Err (ItemCount c))
  tables_differ : 1 ≤ p → 1 ≤ c → p ≢ c → Counts p c labels (Err (CountsDiffer p c))
  labels_differ : 1 ≤ p → p ≡ c → p ≢ labels → Counts p c labels (Err (CountsDiffer p labels))
  counts_fit : 1 ≤ p → p ≡ c → p ≡ labels → Counts p c labels (Ok tt)
