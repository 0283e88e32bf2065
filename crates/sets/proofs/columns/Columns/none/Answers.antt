use Rattle.sets.specs.Columns.{column}
use Rattle.sets.proofs.ColumnLaws.{column_none}
use Rattle.sets.proofs.columns.Columns.none.Goals as goal

pub returns : goal.returns
unfolding column
returns c k j = column_none c.none-unmarked.result c.none-unmarked.ensures k j
