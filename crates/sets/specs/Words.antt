-- The set that a word of 64 bits means. Assumes nothing.
use Rattle.std.specs.Prelude.{ℕ, ◌/◌, ◌%◌, ◌^◌, ◌&&◌, ◌==◌, nat_lt}
use Rattle.sets.specs.Sets.{Numbers}

-- whether bit k of n is set
abbrev pub bit : ℕ → Numbers
bit n k = n / 2 ^ k % 2 == 1

-- k is a member exactly when it is below 64 and bit k of the word is set
abbrev pub word_set : ℕ → Numbers
word_set n k = nat_lt k 64 && bit n k
