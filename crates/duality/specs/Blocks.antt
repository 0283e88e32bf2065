-- A block of cuts. Assumes nothing.
--
--   Holds cuts b    the block has, for each item, the places of the cuts that have it, and the places of all cuts
use Rattle.std.specs.Prelude.{◌≡◌, ℕ, List, length, nat_lt, slice_index_or}
use Rattle.sets.specs.Sets.{Numbers, nothing}
use Rattle.sets.specs.Masks.{low_marked}
use Rattle.sets.specs.Columns.{column}
use Rattle.duality.specs.declared.block.Block.{Block}

pub record Holds (cuts : List Numbers) (b : Block) : Type 0 where
  pub having : (item place : ℕ) → column b.columns item place ≡ slice_index_or cuts place nothing item
  pub all : (place : ℕ) → low_marked b.places place ≡ nat_lt place (length cuts)
