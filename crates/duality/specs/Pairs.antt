-- The checks of two tables that belong together. Assumes nothing.
--
--   pair_refusal  the number and the values of each refusal
--   checked       what a call replies, without its answer
--   Pairs p c     the reply of the checks, for the item counts p of the paths and c of the cuts
use Rattle.std.specs.Prelude.{◌≡◌, ℕ, ◌≤◌, List, [], ◌∷◌, ◌++◌, codes, Ok, Err, Result, ◌≢◌}
use Rattle.std.specs.Fmt.{decimal}
use Rattle.tables.specs.Refusals.{Refusal, Reply, answered, refused}
use Rattle.duality.specs.declared.fault.PairFault.{PairFault}
use Rattle.duality.specs.declared.fault.PairFault.TheVariants.{ItemCount, CountsDiffer}

abbrev pub pair_refusal : PairFault → Refusal
pair_refusal (ItemCount count) = record { number = 1; values = count ∷ [] }
pair_refusal (CountsDiffer first second) = record { number = 8; values = first ∷ second ∷ [] }

-- what a refusal says, with its values
abbrev pub pair_text : PairFault → List ℕ
pair_text (ItemCount count) = codes "item count " ++ decimal count
pair_text (CountsDiffer first second) = codes "item counts " ++ decimal first ++ codes " and " ++ decimal second

abbrev pub checked : {Answer : Type 0} → Result Answer PairFault → Reply (Unit {0})
checked (Ok a) = answered tt
checked (Err f) = refused (pair_refusal f).number (pair_refusal f).values

pub data Pairs (p c : ℕ) : Reply (Unit {0}) → Type 0 where
  paths_closed : p ≡ 0 → Pairs p c (refused 1 (p ∷ []))
  cuts_closed : 1 ≤ p → c ≡ 0 → Pairs p c (refused 1 (c ∷ []))
  counts_differ : 1 ≤ p → 1 ≤ c → (p ≢ c) → Pairs p c (refused 8 (p ∷ c ∷ []))
  pair_fits : 1 ≤ p → p ≡ c → Pairs p c (answered tt)
