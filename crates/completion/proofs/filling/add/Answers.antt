-- By what the put replies.
use Rattle.std.proofs.Common.{Err, sym, ap, ◌∙◌, subst}
use Rattle.std.proofs.lemmas.Result.{err_from_is_err_and}
use Rattle.systems.specs.States.{up}
use Rattle.tables.specs.Refusals.{table_refusal}
use Rattle.completion.specs.Fills.{Adds}
use Rattle.completion.proofs.Additions.{added, blocked}
use Rattle.completion.proofs.filling.add.Goals as goal

pub returns-in_err-offer-clause-adds : goal.returns-in_err-offer-clause-adds
returns-in_err-offer-clause-adds g c n ps pos h count works new all =
    let least = c.shrink.ensures in
    let capacity = c.args.table.now.capacity in
    let holds = g.K.SetKind.holds in
    let ψ = g.D.Drawing.means c.args.drawing.now in
    let o = c.in_err-offer.ensures.offers n ps h (least.count ∙ count) in
    let f = table_refusal c.in_err-offer.field-0.0 in
    let p = err_from_is_err_and c.from_residual.result c.from_residual.ensures.1 in (
      o.0,
      o.2,
      subst (λ r. Adds n capacity holds ψ ps r o.0) (sym (p.1 ∙ ap Err p.2))
          (blocked n capacity holds ψ ps (up c.shrink.result) (up c.args.set.now) (least.minimal works) least.within new all pos f.number f.values o.0 o.1),
    )

pub returns-clause-adds : goal.returns-clause-adds
returns-clause-adds g c n ps pos h count works new all =
    let least = c.shrink.ensures in
    let o = c.in_ok-offer.ensures.offers n ps h (least.count ∙ count) in (
      o.0,
      o.2,
      added n c.args.table.now.capacity g.K.SetKind.holds (g.D.Drawing.means c.args.drawing.now) ps (up c.shrink.result) (up c.args.set.now)
          (least.minimal works) least.within new all c.in_ok-offer.field-0 o.0 o.1,
    )
