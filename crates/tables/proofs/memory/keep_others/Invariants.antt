use Rattle.std.proofs.lemmas.List.Filters.{FiltersInPlace}
use Rattle.tables.specs.Memory.{meant}
use Rattle.tables.proofs.Sifting.{stays_at}
use Rattle.tables.proofs.memory.keep_others.Given as goal

abbrev pub invariant-loop-i : goal.invariant-loop-i
invariant-loop-i g l = FiltersInPlace (stays_at (meant g.K.SetKind.mem) g.K.SetKind.top (g.K.SetKind.mem l.row)) l.initial.rows l.rows l.stay l.i
