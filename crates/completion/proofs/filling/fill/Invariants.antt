-- Both tables keep their places, their rows stay minimal, the search stands, and each turn added a row.
use Rattle.tables.specs.Tables.{Kept}
use Rattle.completion.proofs.Filled.{Filling}
use Rattle.completion.proofs.filling.fill.Given as goal

abbrev pub invariant-loop-turn : goal.invariant-loop-turn
invariant-loop-turn g l =
    let initial = l.initial in
    record {
      paths_kept : Kept initial.paths l.paths;
      cuts_kept : Kept initial.cuts l.cuts;
      filling : Filling g.K.SetKind.mem g.K.SetKind.holds (g.D.Drawing.means l.from_cuts.drawing.now) initial.paths initial.cuts l.paths l.cuts l.search l._turn;
    }
