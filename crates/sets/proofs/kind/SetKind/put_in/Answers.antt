use Rattle.std.proofs.Common.{◌+◌, arith}
use Rattle.sets.proofs.Walk.{so_far, so_far_none, so_far_with, so_far_all}
use Rattle.sets.proofs.ColumnLaws.{put_none, put_more, put_same}
use Rattle.sets.proofs.kind.SetKind.put_in.Goals as goal

pub putting-init : goal.putting-init
putting-init g c = let s = g.Self.SetKind.mem c.args.self.now in put_none c.args.columns.now (so_far s 0) c.args.place (so_far_none s)

pub putting-preserved : goal.putting-preserved
putting-preserved g c =
    let s = g.Self.SetKind.mem c.args.self.now in
    put_more c.args.columns.now c.putting.columns c.put.new.self (so_far s c.putting.from) (so_far s (c.in-Some.k + 1)) c.in-Some.k c.args.place
    (omega (arith, g.met.Self.SetKind.below c.args.self.now c.in-Some.k c.in-Some.ensures.member, g.met.Self.SetKind.small)) (so_far_with s c.putting.from c.in-Some.k c.in-Some.ensures) c.put.ensures c.putting.invariant

pub returns : goal.returns
returns g c =
    let s = g.Self.SetKind.mem c.args.self.now in
    put_same c.args.columns.now c.putting.columns (so_far s c.putting.from) s c.args.place (so_far_all s c.putting.from c.in_default.ensures) c.putting.invariant
