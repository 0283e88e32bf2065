use Rattle.std.proofs.Common.{arith}
use Rattle.sets.proofs.WordLaws.{word_size}
use Rattle.sets.proofs.word.WordSetSetKind.size.Goals as goal

pub returns : goal.returns
returns c = word_size c.args.self.now.bits (omega arith)
