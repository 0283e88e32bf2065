use Rattle.std.proofs.Common.{arith}
use Rattle.sets.specs.Marks.{marked}
use Rattle.sets.proofs.MaskLaws.{words_none, words_lowest}
use Rattle.sets.proofs.mask.MarksMask.lowest.Goals as goal

pub returns-then-bits-ne0 : goal.returns-then-bits-ne0
unfolding marked
returns-then-bits-ne0 c = words_lowest c.args.self.now.words c.loop-word.word c.loop-word-test.true c.loop-word.invariant (omega arith) c.if-bits-ne0.true

pub returns : goal.returns
unfolding marked
returns c = words_none c.args.self.now.words (λ i l. c.loop-word.invariant i (omega arith))
