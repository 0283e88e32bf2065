use Rattle.std.proofs.Common.{arith}
use Rattle.sets.proofs.WordLaws.{word_member}
use Rattle.sets.proofs.word.WordSetSetKind.member.Goals as goal

pub returns-then-k-lt64 : goal.returns-then-k-lt64
returns-then-k-lt64 c = word_member c.args.self.now.bits c.args.k (omega arith)
