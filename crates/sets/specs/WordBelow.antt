-- The members of a word are below 64. It stands in specs since the laws of an `impl` can cite nothing in proofs/.
use Rattle.std.specs.Prelude.{ℕ, nat_lt}
use Rattle.std.proofs.Common.{ltb→lt}
use Rattle.sets.specs.Sets.{Below}
use Rattle.sets.specs.Words.{bit, word_set}
use Rattle.sets.specs.Truth.{and_T}

pub word_under : (a : ℕ) → Below 64 (word_set a)
word_under a k t = ltb→lt k 64 (and_T (nat_lt k 64) (bit a k) t).0
