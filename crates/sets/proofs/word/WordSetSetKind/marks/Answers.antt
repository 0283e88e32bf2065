use Rattle.sets.proofs.MarkLaws.{held_word}
use Rattle.sets.specs.Marks.{marked}
use Rattle.sets.proofs.word.WordSetSetKind.marks.Goals as goal

pub returns : goal.returns
unfolding marked
returns c = held_word c.args.self.now.bits
