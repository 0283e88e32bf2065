use Rattle.std.proofs.Common.{arith}
use Rattle.sets.proofs.MaskLaws.{word_minus}
use Rattle.sets.proofs.mask.WordSetMask.without.Goals as goal

pub returns : goal.returns
returns c k = word_minus c.args.self.bits c.args.other.bits k (omega arith)
