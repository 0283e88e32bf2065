use Rattle.sets.proofs.MaskLaws.{word_unlike}
use Rattle.sets.proofs.mask.WordSetMask.xor.Goals as goal

pub returns : goal.returns
returns c = word_unlike c.args.self.bits c.args.other.bits
