use Rattle.std.proofs.Common.{ℕ, ◌<◌, map, get_or}
use Rattle.sets.specs.Sets.{nothing, Below}
use Rattle.tables.specs.Memory.{meant}
use Rattle.duality.proofs.masks.all_low.Given as goal

abbrev pub invariant-loop-row : goal.invariant-loop-row
invariant-loop-row g l = (i : ℕ) → i < l.row-index → Below 64 (get_or (map (meant g.K.SetKind.mem) l.rows) i nothing)
