-- The verdict of the last audit is right.
use Rattle.std.proofs.Common.{ℕ, List}
use Rattle.sets.specs.Sets.{Numbers}
use Rattle.tables.specs.Pasts.{Past}
use Rattle.tables.specs.Tables.{Holds}
use Rattle.duality.specs.Verdicts.{Audited}
use Rattle.clib.proofs.audits.audit_often.Given as goal

abbrev pub invariant-loop : goal.invariant-loop
invariant-loop g l = (n : ℕ) (ps cs : List Numbers) → Past n l.paths.capacity l.cuts.capacity g.K.SetKind.holds ps cs
    → Holds g.K.SetKind.mem l.paths n ps → Holds g.K.SetKind.mem l.cuts n cs → Audited n ps cs l.verdict
