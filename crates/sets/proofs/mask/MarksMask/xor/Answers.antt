use Rattle.std.proofs.Common.{get_or, refl}
use lib.Bits.{bit_xor}
use Rattle.sets.specs.Marks.{marked}
use Rattle.sets.specs.Masks.{unlike}
use Rattle.sets.proofs.MaskLaws.{each_word, word_unlike}
use Rattle.sets.proofs.mask.MarksMask.xor.Goals as goal

pub returns : goal.returns
unfolding marked
returns c = each_word bit_xor (unlike) refl c.args.self.words c.args.other.words (λ i k l. word_unlike (get_or c.args.self.words i 0) (get_or c.args.other.words i 0) k)
