-- What a table holds, before and after a call. Assumes nothing.
--
--   places     the whole memory handed over
--   Holds      the table has n items, and its memory holds these rows: they stand in the first places, in their
--              order, and each place behind them, up to the capacity, holds the empty set
--   Kept       the item count and the capacity are as they were, and so are the places from the capacity on; and the memory is the one
--              that was lent, so that whoever lent it finds the places in it
--   Unchanged  so are all places, and the number of rows
--   Left       what is left of the memory lent to a table: its rows stand in the first places, each place behind them up to the
--              capacity holds the empty set, and the places from the capacity on are as they were
use Rattle.std.specs.Prelude.{◌≡◌, ℕ, min, List, [], length}
use Rattle.sets.specs.Sets.{Numbers}
use Rattle.sets.specs.declared.kind.SetKind.{Ghosts}
use Rattle.tables.specs.Memory.{meant, Standing, Beyond}
use Rattle.tables.specs.declared.row.Row.{Row}
use Rattle.tables.specs.declared.table.Table.{Table}

abbrev pub places : {X : Type 0} {G : Ghosts X} → Table X G → List (Row X)
places t = t.places.now

pub record Holds {X : Type 0} {G : Ghosts X} (mem : X → Numbers) (t : Table X G) (n : ℕ) (rows : List Numbers) : Type 0 where
  pub items : t.items ≡ n
  pub standing : Standing (meant mem) (places t) t.capacity t.count rows

pub record Kept {X : Type 0} {G : Ghosts X} (before after : Table X G) : Type 0 where
  pub items : after.items ≡ before.items
  pub capacity : after.capacity ≡ before.capacity
  pub length : length (places after) ≡ length (places before)
  pub beyond : Beyond before.capacity (places before) (places after)
  pub lent : after.places.ghost_name ≡ before.places.ghost_name

pub record Unchanged {X : Type 0} {G : Ghosts X} (before after : Table X G) : Type 0 where
  pub memory : places after ≡ places before
  pub count : after.count ≡ before.count

pub record Left {X : Type 0} (mem : X → Numbers) (before after : List (Row X)) (capacity count : ℕ) (rows : List Numbers) : Type 0 where
  pub rows_stand : Standing (meant mem) after capacity count rows
  pub same_length : length after ≡ length before
  pub beyond : Beyond capacity before after

-- a table opened with a permitted item count over this memory
pub record Opened {X : Type 0} {G : Ghosts X} (mem : X → Numbers) (n : ℕ) (memory : List (Row X)) (t : Table X G) : Type 0 where
  pub capacity : t.capacity ≡ min 4096 (length memory)
  pub empty : Holds mem t n []
  pub length : length (places t) ≡ length memory
  pub beyond : Beyond t.capacity memory (places t)

-- a table opened with a count that is not permitted
pub record OpenedWrong {X : Type 0} {G : Ghosts X} (mem : X → Numbers) (memory : List (Row X)) (t : Table X G) : Type 0 where
  pub capacity : t.capacity ≡ 0
  pub empty : Holds mem t 0 []
  pub memory_same : places t ≡ memory
