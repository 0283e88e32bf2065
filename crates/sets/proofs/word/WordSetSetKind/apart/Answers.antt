use Rattle.std.proofs.Common.{arith}
use Rattle.sets.proofs.WordLaws.{word_apart}
use Rattle.sets.proofs.word.WordSetSetKind.apart.Goals as goal

pub returns : goal.returns
returns c = word_apart c.args.self.now.bits c.args.other.now.bits (omega arith)
