use Rattle.std.proofs.Common.{arith}
use Rattle.sets.proofs.WordLaws.{word_without}
use Rattle.sets.proofs.word.WordSetSetKind.remove.Goals as goal

pub returns-then-k-lt64 : goal.returns-then-k-lt64
returns-then-k-lt64 c = simp c.single.ensures (word_without c.args.self.now.bits c.args.k (omega arith))
