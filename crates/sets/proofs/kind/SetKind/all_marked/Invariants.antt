use Rattle.std.proofs.Common.{ℕ, ◌-◌, ◌<◌, T}
use Rattle.sets.specs.Marks.{marked}
use Rattle.sets.proofs.kind.SetKind.all_marked.Given as goal

abbrev pub invariant-all : goal.invariant-all
invariant-all g l = (j : ℕ) → j < l.from → T (g.Self.SetKind.mem l.self j) → T (marked l.marks j)

abbrev pub decreases-all : goal.decreases-all
decreases-all g l = g.Self.SetKind.top - l.from
