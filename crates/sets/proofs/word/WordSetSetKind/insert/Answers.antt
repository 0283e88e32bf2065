use Rattle.std.proofs.Common.{refl, arith}
use Rattle.sets.proofs.WordLaws.{word_with, word_full}
use Rattle.sets.proofs.word.WordSetSetKind.insert.Goals as goal

pub returns-then-k-ge64-clause-err : goal.returns-then-k-ge64-clause-err
returns-then-k-ge64-clause-err c = (word_full c.args.self.now.bits c.args.k (omega arith), refl)

pub returns-clause-ok : goal.returns-clause-ok
returns-clause-ok c = simp c.single.ensures (word_with c.args.self.now.bits c.args.k (omega arith))
