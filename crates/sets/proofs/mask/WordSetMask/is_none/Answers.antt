use Rattle.std.proofs.Common.{arith}
use Rattle.sets.proofs.MaskLaws.{word_is_none}
use Rattle.sets.proofs.mask.WordSetMask.is_none.Goals as goal

pub returns : goal.returns
returns c = word_is_none c.args.self.now.bits (omega arith)
