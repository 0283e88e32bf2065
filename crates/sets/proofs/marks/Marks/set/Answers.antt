use Rattle.std.proofs.Common.{arith}
use Rattle.sets.proofs.MarkLaws.{mark_put, mark_taken}
use Rattle.sets.specs.Marks.{marked}
use Rattle.sets.proofs.marks.Marks.set.Goals as goal

pub returns-then-is_marked : goal.returns-then-is_marked
unfolding marked
returns-then-is_marked c =
    simp (c.single.ensures, c.if-is_marked.true) (mark_put c.args.self.now.words c.args.k c.if-k-lt256.true (omega arith))

pub returns-else-is_marked : goal.returns-else-is_marked
unfolding marked
returns-else-is_marked c =
    simp (c.single-else-is_marked.ensures, c.if-is_marked.false) (mark_taken c.args.self.now.words c.args.k c.if-k-lt256.true (omega arith))
