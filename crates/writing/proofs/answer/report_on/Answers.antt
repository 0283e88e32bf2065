-- The labels are read, and then the rows in one kind or the other.
use Rattle.std.proofs.Common.{refl, sym, arith}
use Rattle.std.proofs.lemmas.List.{length-take-le}
use Rattle.writing.specs.Answers.{in_words, in_lists}
use Rattle.writing.proofs.Calling.{err_is}
use Rattle.writing.proofs.ReadLabels.{labels_many}
use Rattle.writing.proofs.Finding.{judged_yes, judged_no, finds_no_labels}
use Rattle.writing.proofs.answer.report_on.Goals as goal

pub returns-in_err-count : goal.returns-in_err-count
returns-in_err-count c =
    finds_no_labels c.args.out.now c.in_err-count.field-0.0 (err_is c.from_residual.result c.from_residual.ensures.1) c.in_err-count.ensures (refl, refl) (refl, refl)

pub slice_bounds-places-end : goal.slice_bounds-places-end
slice_bounds-places-end c = (labels_many c.in_ok-count.ensures).inside

pub slice_bounds-places-end-2 : goal.slice_bounds-places-end-2
slice_bounds-places-end-2 c = sym (length-take-le c.in_ok-count.count c.read_items.new.places (labels_many c.in_ok-count.ensures).inside)

pub report_rows-requires-clause-some : goal.report_rows-requires-clause-some
report_rows-requires-clause-some c =
    let m = labels_many c.in_ok-count.ensures in
    omega (arith, m.some, length-take-le c.in_ok-count.count c.read_items.new.places m.inside)

pub report_rows-requires-clause-few : goal.report_rows-requires-clause-few
report_rows-requires-clause-few c =
    let m = labels_many c.in_ok-count.ensures in
    omega (arith, judged_yes c.judge.result c.if-is_ok.ensures.value c.judge.ensures, length-take-le c.in_ok-count.count c.read_items.new.places m.inside)

pub report_rows-requires-else-is_ok-clause-some : goal.report_rows-requires-else-is_ok-clause-some
report_rows-requires-else-is_ok-clause-some c =
    let m = labels_many c.in_ok-count.ensures in
    omega (arith, m.some, length-take-le c.in_ok-count.count c.read_items.new.places m.inside)

pub returns-then-is_ok : goal.returns-then-is_ok
returns-then-is_ok c =
    let w = c.report_rows.ensures in
    (w.0, in_words c.in_ok-count.count c.in_ok-count.ensures (judged_yes c.judge.result c.if-is_ok.ensures.value c.judge.ensures) (refl, refl) _ w.0 w.1, w.2)

pub returns-else-is_ok : goal.returns-else-is_ok
returns-else-is_ok c =
    let w = c.report_rows-else-is_ok.ensures in
    let m = labels_many c.in_ok-count.ensures in
    (w.0, in_lists c.in_ok-count.count c.in_ok-count.ensures (judged_no c.judge.result c.if-is_ok.ensures.value m.some c.judge.ensures) (refl, refl) _ w.0 w.1, w.2)
