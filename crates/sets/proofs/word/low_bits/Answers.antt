use Rattle.std.proofs.Common.{arith}
use Rattle.sets.proofs.WordLaws.{word_low, word_all}
use Rattle.sets.proofs.word.low_bits.Goals as goal

pub returns-then-k-lt64 : goal.returns-then-k-lt64
returns-then-k-lt64 c = simp c.single.ensures (word_low c.args.k)

pub returns-else-k-lt64 : goal.returns-else-k-lt64
returns-else-k-lt64 c = word_all c.args.k (omega arith)
