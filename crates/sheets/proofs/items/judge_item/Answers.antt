use Rattle.std.proofs.Common.{length, drop, ap, ◌∙◌, subst, arith}
use Rattle.std.proofs.lemmas.Result.{err_from_is_err_and}
use Rattle.sheets.specs.ItemsFaults.{unformed_line}
use Rattle.sheets.specs.Labels.{First}
use Rattle.sheets.proofs.Fronting.{fronts_from}
use Rattle.sheets.proofs.Answering.{unformed_at, many_at, full_at, again_at}
use Rattle.sheets.proofs.items.judge_item.Goals as goal

pub returns-in_err-label : goal.returns-in_err-label
returns-in_err-label c =
    let p = err_from_is_err_and c.from_residual.result c.from_residual.ensures.1 in
    let e = c.in_err-label.ensures in
    rw (p.1, p.2 ∙ ap unformed_line e.0) (λ ls long same st. unformed_at (length c.args.places.now) ls (drop c.args.at c.args.text.now) c.args.count long st e.1)

pub returns-then-count-eq256 : goal.returns-then-count-eq256
returns-then-count-eq256 c = λ ls long same st. many_at (length c.args.places.now) ls (drop c.args.at c.args.text.now) c.args.count long
    c.in_ok-label.label.now (fronts_from c.args.text.now c.args.at c.args.count c.in_ok-label.label.now c.in_ok-label.ensures) c.if-count-eq256.true

pub returns-then-count-places : goal.returns-then-count-places
returns-then-count-places c = λ ls long same st. full_at (length c.args.places.now) ls (drop c.args.at c.args.text.now) c.args.count long
    c.in_ok-label.label.now (fronts_from c.args.text.now c.args.at c.args.count c.in_ok-label.label.now c.in_ok-label.ensures) (omega arith) (omega arith)

pub returns-in-Some : goal.returns-in-Some
returns-in-Some c = λ ls long same st. again_at (length c.args.places.now) ls (drop c.args.at c.args.text.now) c.args.count long
    c.in_ok-label.label.now c.in-Some.item (fronts_from c.args.text.now c.args.at c.args.count c.in_ok-label.label.now c.in_ok-label.ensures) (omega arith) (omega arith)
    (subst (λ ns. First ns c.in_ok-label.label.now c.in-Some.item) same c.in-Some.ensures)
