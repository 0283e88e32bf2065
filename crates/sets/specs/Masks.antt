-- What masks mean, and one bit against another. Assumes nothing.
--
--   unlike        one of the two holds, and not both
--   low_marked m  the numbers below 256 that m marks
use Rattle.std.specs.Prelude.{Bool, true, false, not, ◌&&◌, nat_lt}
use Rattle.sets.specs.Sets.{Numbers}
use Rattle.sets.specs.Marks.{marked}
use Rattle.sets.specs.declared.marks.Marks.{Marks}

abbrev pub unlike : Bool → Bool → Bool
unlike true b = not b
unlike false b = b

abbrev pub low_marked : Marks → Numbers
low_marked m k = nat_lt k 256 && marked m k
