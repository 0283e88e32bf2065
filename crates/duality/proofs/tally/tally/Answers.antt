use Rattle.std.proofs.Common.{◌≡◌, map, ap, ◌∙◌, sym, arith}
use Rattle.std.proofs.lemmas.List.{length-map, length-set, take_all}
use Rattle.duality.specs.Shares.{counted}
use Rattle.duality.proofs.Planes.{counted_no_plane, counted_emptied}
use Rattle.duality.proofs.Tallies.{having_few}
use Rattle.duality.proofs.tally.tally.Goals as goal

pub loop-plane-init : goal.loop-plane-init
loop-plane-init g c = record { long = c.requires.long; none = counted_no_plane g.M.Mask.bits }

pub loop-plane-preserved : goal.loop-plane-preserved
loop-plane-preserved g c =
    let ps = c.loop-plane.planes in
    record {
      long = length-set ps c.loop-plane.plane c.none.result ∙ c.loop-plane.invariant.long;
      none = λ k. counted_emptied g.M.Mask.bits ps c.loop-plane.plane c.none.result k (omega (arith, c.loop-plane.invariant.long)) (c.loop-plane.invariant.none k) (c.none.ensures k);
    }

pub returns-clause-tallied : goal.returns-clause-tallied
returns-clause-tallied g c =
    let bits = g.M.Mask.bits in
    let ps = c.loop-plane.planes in
    record {
      each = λ k.
          let empty : counted bits ps k ≡ 0 = ap (λ l. counted bits l k) (sym (take_all c.loop-plane.plane ps (omega (arith, c.loop-plane.invariant.long)))) ∙ c.loop-plane.invariant.none k in
          omega (arith, empty, c.add.ensures.each k (omega (arith, empty, having_few (map bits c.args.masks.now) k, length-map c.args.masks.now bits, c.requires.few)));
    }
