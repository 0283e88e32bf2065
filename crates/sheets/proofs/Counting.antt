-- The item counts of two tables, and the number of labels.
use Rattle.std.proofs.Common.{◌≡◌, ◌≢◌, ℕ, Ok, Err, sym, ◌∙◌}
use Rattle.tables.specs.Refusals.{answered}
use Rattle.duality.specs.Pairs.{Pairs, checked}
use Rattle.duality.specs.Pairs as pairs
use Rattle.duality.specs.declared.fault.PairFault.{PairFault}
use Rattle.duality.specs.declared.fault.PairFault.TheVariants.{ItemCount, CountsDiffer}
use Rattle.sheets.specs.Counts.{Counts, paths_closed, cuts_closed, tables_differ, labels_differ, counts_fit}

-- what the check of the two tables refuses
pub counts_refused : (p c labels : ℕ) (f : PairFault) → Pairs p c (checked {Answer = ℕ} (Err f)) → Counts p c labels (Err f)
counts_refused p c labels (ItemCount n) (pairs.paths_closed e) = paths_closed e
counts_refused p c labels (ItemCount n) (pairs.cuts_closed pos e) = cuts_closed pos e
counts_refused p c labels (CountsDiffer n m) (pairs.counts_differ pos low ne) = tables_differ pos low ne

-- and what it lets pass, with the count n
module _ (p c labels n : ℕ) (count : n ≡ p) where
  pub counts_other : Pairs p c (answered tt) → n ≢ labels → Counts p c labels (Err (CountsDiffer n labels))
  counts_other (pairs.pair_fits pos e) ne = rw count (labels_differ pos e (λ l. ne (count ∙ l)))

  pub counts_same : Pairs p c (answered tt) → n ≡ labels → Counts p c labels (Ok tt)
  counts_same (pairs.pair_fits pos e) l = counts_fit pos e (sym count ∙ l)
