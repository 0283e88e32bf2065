use Rattle.std.proofs.Common.{arith}
use Rattle.sets.proofs.WordLaws.{word_within}
use Rattle.sets.proofs.word.WordSetSetKind.within.Goals as goal

pub returns : goal.returns
returns c = word_within c.args.self.now.bits c.args.other.now.bits (omega arith)
