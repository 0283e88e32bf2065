use Rattle.std.proofs.Common.{arith}
use Rattle.sets.proofs.MarkLaws.{word_all_held}
use Rattle.sets.specs.Marks.{marked}
use Rattle.sets.proofs.word.WordSetSetKind.all_marked.Goals as goal

pub returns : goal.returns
unfolding marked
returns c = word_all_held c.args.self.now.bits c.args.marks.now.words (omega arith)
