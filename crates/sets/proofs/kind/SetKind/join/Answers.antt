use Rattle.std.proofs.Common.{◌+◌}
use Rattle.sets.proofs.Walk.{so_far, so_far_none, so_far_with, so_far_all}
use Rattle.sets.proofs.ColumnLaws.{joined_none, joined_more, joined_same}
use Rattle.sets.proofs.kind.SetKind.join.Goals as goal

pub joining-init : goal.joining-init
joining-init g c = let s = g.Self.SetKind.mem c.args.self.now in joined_none c.args.columns.now c.none-joined.result (so_far s 0) c.none-joined.ensures (so_far_none s)

pub joining-preserved : goal.joining-preserved
joining-preserved g c =
    let s = g.Self.SetKind.mem c.args.self.now in
    joined_more c.args.columns.now c.joining.joined c.of.result c.or-joined.result (so_far s c.joining.from) (so_far s (c.in-Some.k + 1)) c.in-Some.k
    (so_far_with s c.joining.from c.in-Some.k c.in-Some.ensures) c.of.ensures c.or-joined.ensures c.joining.invariant

pub returns : goal.returns
returns g c =
    let s = g.Self.SetKind.mem c.args.self.now in
    joined_same c.args.columns.now c.joining.joined (so_far s c.joining.from) s (so_far_all s c.joining.from c.in_default.ensures) c.joining.invariant
