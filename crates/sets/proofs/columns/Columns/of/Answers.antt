use Rattle.std.proofs.Common.{refl, arith}
use Rattle.sets.specs.Columns.{column}
use Rattle.sets.proofs.ColumnLaws.{column_past}
use Rattle.sets.proofs.columns.Columns.of.Goals as goal

pub returns-then-k-lt256 : goal.returns-then-k-lt256
unfolding column
returns-then-k-lt256 c k = refl

pub returns-else-k-lt256 : goal.returns-else-k-lt256
unfolding column
returns-else-k-lt256 c j = column_past c.args.self.now.columns c.args.k c.none.result j (omega arith) c.none.ensures
