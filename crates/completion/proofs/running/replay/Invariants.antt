-- Both tables keep their places, and the calls so far make a run.
use Rattle.std.proofs.Common.{map}
use Rattle.tables.specs.Tables.{Kept}
use Rattle.completion.proofs.Replaying.{Running}
use Rattle.completion.proofs.running.replay.Given as goal

abbrev pub invariant-loop-i : goal.invariant-loop-i
invariant-loop-i g l = record {
  paths : Kept l.initial.paths l.paths;
  cuts : Kept l.initial.cuts l.cuts;
  run : Running g.K.SetKind.mem g.K.SetKind.holds (map g.D.Drawing.means l.drawings) l.calls l.answer-items l.i l.initial.paths l.initial.cuts l.paths l.cuts;
}
