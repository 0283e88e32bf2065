use Rattle.std.proofs.Common.{ℕ, ◌-◌, ◌<◌, T}
use Rattle.sets.specs.Marks.{marked}
use Rattle.sets.proofs.kind.SetKind.none_marked.Given as goal

abbrev pub invariant-none : goal.invariant-none
invariant-none g l = (j : ℕ) → j < l.from → T (g.Self.SetKind.mem l.self j) → T (marked l.marks j) → ⊥

abbrev pub decreases-none : goal.decreases-none
decreases-none g l = g.Self.SetKind.top - l.from
