use Rattle.std.proofs.Common.{map, take}
use Rattle.tables.specs.Memory.{meant}
use Rattle.duality.specs.Blocks.{Holds}
use Rattle.duality.proofs.block.Block.of.Given as goal

abbrev pub invariant-loop-place : goal.invariant-loop-place
invariant-loop-place g l = Holds (take l.place (map (meant g.K.SetKind.mem) l.cuts)) (record { columns = l.columns; places = l.places })
