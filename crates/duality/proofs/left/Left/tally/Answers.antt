use borrow.Rule.Slice.PartMut.{put_same}
use Rattle.std.proofs.Common.{◌-◌, refl, subst}
use Rattle.std.specs.Prelude.{MatchOption}
use Rattle.duality.specs.Remaining.{Counted}
use Rattle.duality.proofs.Sifting.{fits_tallied, less_dropped}
use Rattle.duality.proofs.left.Left.tally.Goals as goal

-- fewer have dropped out since the planes were made than are left
pub returns-then-tallied-self-2-clause-fits : goal.returns-then-tallied-self-2-clause-fits
returns-then-tallied-self-2-clause-fits g c =
    let bits = g.M.Mask.bits in
    let left = c.args.self.now in
    let of_first : Counted bits left c.in-Some.tallied = subst (λ o. MatchOption o (Unit {0}) (Counted bits left)) c.in-Some.is c.requires.counted in
    fits_tallied bits left _ c.requires (record { masks = put_same left.count (c.in-Some.tallied - left.count) left.masks.now; behind = refl; count = refl; counts = refl }) c.take_away.ensures.long refl
    (less_dropped bits left c.in-Some.tallied c.take_away.new.planes c.requires of_first c.take_away.ensures.each)
