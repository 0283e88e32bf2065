use Rattle.std.proofs.Common.{arith}
use Rattle.sets.specs.Columns.{column}
use Rattle.sets.proofs.ColumnLaws.{column_put}
use Rattle.sets.proofs.columns.Columns.put.Goals as goal

pub returns : goal.returns
unfolding column
returns c = column_put c.args.self.now.columns c.args.k c.args.place c.set.new.self (omega arith) c.if-k-ge256.false c.set.ensures
