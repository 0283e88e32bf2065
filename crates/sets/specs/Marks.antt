-- The set of the numbers that are marked. Assumes nothing.
use Rattle.std.specs.Prelude.{◌/◌, ◌%◌, slice_index_or}
use Rattle.sets.specs.Sets.{Numbers}
use Rattle.sets.specs.Words.{word_set}
use Rattle.sets.specs.declared.marks.Marks.{Marks}

-- k is marked exactly when bit k % 64 of the word k / 64 is set
unfoldable pub marked : Marks → Numbers
marked m k = word_set (slice_index_or m.words (k / 64) 0) (k % 64)
