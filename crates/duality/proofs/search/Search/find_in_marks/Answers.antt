use Rattle.tables.specs.Memory.{meant}
use Rattle.duality.proofs.RowFacts.{rows_below, below_most}
use Rattle.duality.proofs.search.Search.find_in_marks.Goals as goal

pub find-requires-clause-paths : goal.find-requires-clause-paths
find-requires-clause-paths g c =
    rows_below (meant g.K.SetKind.mem) (λ x. below_most g.K.SetKind.top _ g.met.K.SetKind.small (g.met.K.SetKind.below x.set)) c.args.paths.now

pub find-requires-clause-cuts : goal.find-requires-clause-cuts
find-requires-clause-cuts g c =
    rows_below (meant g.K.SetKind.mem) (λ x. below_most g.K.SetKind.top _ g.met.K.SetKind.small (g.met.K.SetKind.below x.set)) c.args.cuts.now
