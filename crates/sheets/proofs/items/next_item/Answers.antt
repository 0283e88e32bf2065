use Rattle.std.proofs.Common.{refl, ap, ◌∙◌, subst}
use Rattle.std.proofs.lemmas.Result.{err_from_is_err_and}
use Rattle.sheets.specs.Bytes.{item_line}
use Rattle.sheets.specs.Lines.{Says}
use Rattle.sheets.proofs.Fronting.{no_fronts, item_at_from, row_no_item, number_same}
use Rattle.sheets.proofs.items.next_item.Goals as goal

pub returns-in_err-number : goal.returns-in_err-number
returns-in_err-number c =
    let p = err_from_is_err_and c.from_residual-in_err-number.result c.from_residual-in_err-number.ensures.1 in
    let e = c.in_err-number.ensures in
    rw p.1 (p.2 ∙ e.0, no_fronts c.args.text.now c.args.at c.args.count c.in_ok-line.line.now c.requires.small c.in_ok-line.ensures (λ l lab f. e.1.no_item c.args.count l c.requires.small lab f))

pub returns-then-number-count : goal.returns-then-number-count
returns-then-number-count c =
    let s = subst (λ v. Says v c.in_ok-line.line.now) c.in-Item.is c.in_ok-number.ensures in
    item_at_from c.args.text.now c.args.at c.args.count c.in_ok-line.line.now c.in-Item.label.now c.requires.small s.1 c.in_ok-line.ensures
    (s.2 ∙ ap (λ n. item_line n c.in-Item.label.now) c.if-number-count.true)

pub returns-else-number-count : goal.returns-else-number-count
returns-else-number-count c =
    let s = subst (λ v. Says v c.in_ok-line.line.now) c.in-Item.is c.in_ok-number.ensures in (
      refl,
      no_fronts c.args.text.now c.args.at c.args.count c.in_ok-line.line.now c.requires.small c.in_ok-line.ensures
          (λ l lab f. c.if-number-count.false (number_same c.in_ok-line.line.now c.in-Item.number c.args.count c.in-Item.label.now l s.0 c.requires.small s.2 f).0),
    )

pub returns-in-Path : goal.returns-in-Path
returns-in-Path c = (refl, no_fronts c.args.text.now c.args.at c.args.count c.in_ok-line.line.now c.requires.small c.in_ok-line.ensures (row_no_item c.in_ok-number.field-0 c.in_ok-line.line.now c.args.count c.requires.small c.in_ok-number.ensures c.in-Path.is))
