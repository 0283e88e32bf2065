use Rattle.std.proofs.Common.{◌∙◌, refl, arith}
use Rattle.std.proofs.lemmas.List.{length-set, get_or-set_other}
use Rattle.duality.proofs.Planes.{counted_no_plane, turned_plane, kept_plane}
use Rattle.duality.proofs.tally.turn.Goals as goal

pub loop-at-init : goal.loop-at-init
loop-at-init g c =
    let none = counted_no_plane g.M.Mask.bits in
    record {
      long = c.requires;
      behind = λ j d h. refl;
      turned = λ k on. omega (arith, none k);
      others = λ k off. refl;
    }

pub loop-at-preserved : goal.loop-at-preserved
loop-at-preserved g c =
    let bits = g.M.Mask.bits in
    let ps = c.loop-at.planes in
    let qs = c.args.planes.now in
    let at = c.loop-at.at in
    let i = c.loop-at.invariant in
    record {
      long = length-set ps at c.xor.result ∙ i.long;
      behind = λ j d h. get_or-set_other ps at j c.xor.result d (λ e. omega arith) ∙ i.behind j d (omega arith);
      turned = λ k on. turned_plane bits ps qs at c.index-planes-at.result c.args.items c.xor.result k (omega (arith, i.long)) (omega (arith, c.requires)) c.index-planes-at.is (i.behind at c.index-planes-at.result (omega arith)) (c.xor.ensures k) on (i.turned k on);
      others = λ k off. kept_plane bits ps qs at c.index-planes-at.result c.args.items c.xor.result k (omega (arith, i.long)) (omega (arith, c.requires)) c.index-planes-at.is (i.behind at c.index-planes-at.result (omega arith)) (c.xor.ensures k) off (i.others k off);
    }
