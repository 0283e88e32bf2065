use Rattle.sets.proofs.MaskLaws.{word_or}
use Rattle.sets.proofs.mask.WordSetMask.or.Goals as goal

pub returns : goal.returns
returns c = word_or c.args.self.bits c.args.other.bits
