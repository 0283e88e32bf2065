use Rattle.sets.proofs.WordLaws.{word_and}
use Rattle.sets.proofs.mask.WordSetMask.and.Goals as goal

pub returns : goal.returns
returns c = word_and c.args.self.bits c.args.other.bits
