use Rattle.std.proofs.Common.{◌≡◌, length, refl, sym, ap, ap₂, ◌++◌, ◌∙◌, arith}
use Rattle.std.proofs.lemmas.List.{length-map, length-take-le, take-append-drop, drop_all, get_or-replicate}
use Rattle.sets.specs.Sets.{Below}
use Rattle.tables.specs.Memory.{meant}
use Rattle.duality.proofs.Sifting.{fits_all, standing_all, each_first}
use Rattle.duality.proofs.left.Left.new.Goals as goal

pub load-requires-clause-low : goal.load-requires-clause-low
load-requires-clause-low g c = each_first (meant g.K.SetKind.mem) (Below g.M.Mask.most) c.args.rows.now c.split_at.result.0.now c.min-count.result c.split_at.ensures.front (omega arith) c.requires.low

pub returns-clause-fits : goal.returns-clause-fits
returns-clause-fits g c =
    let bits = g.M.Mask.bits in
    let mem = g.K.SetKind.mem in
    let first = c.split_at.result.0.now in
    let masks = c.load.new.places in
    let long : length masks ≡ c.min-count.result = sym (length-map masks bits) ∙ ap length c.load.ensures ∙ length-map first (meant mem) ∙ ap length c.split_at.ensures.front ∙ length-take-le c.min-count.result c.args.rows.now (omega arith) in
    fits_all bits _ c.min-count.result refl long (omega (arith, c.requires.most, c.split_at_mut-planes.ensures.back_len, c.min-count.ensures)) refl (omega (arith, c.split_at_mut-planes.ensures.front_len)) refl

pub returns-clause-all : goal.returns-clause-all
returns-clause-all g c =
    let bits = g.M.Mask.bits in
    let mem = g.K.SetKind.mem in
    let first = c.split_at.result.0.now in
    let masks = c.load.new.places in
    let rows = c.args.rows.now in
    let n = c.min-count.result in
    let long : length masks ≡ n = sym (length-map masks bits) ∙ ap length c.load.ensures ∙ length-map first (meant mem) ∙ ap length c.split_at.ensures.front ∙ length-take-le n rows (omega arith) in
    standing_all bits mem _ first rows (sym (ap₂ (λ a b. a ++ b) c.split_at.ensures.front c.split_at.ensures.back ∙ take-append-drop n rows)) c.load.ensures (sym long)

pub returns-clause-counts : goal.returns-clause-counts
returns-clause-counts g c split lt = get_or-replicate 256 split c.min-count.result 0 lt

pub returns-clause-behind : goal.returns-clause-behind
returns-clause-behind g c room =
    let rows = c.args.rows.now in
    let n = c.min-count.result in
    c.split_at.ensures.back ∙ drop_all n rows (omega (arith, room, c.split_at_mut-planes.ensures.back_len, c.min-count.ensures))
