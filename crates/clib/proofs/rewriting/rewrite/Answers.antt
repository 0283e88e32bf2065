-- The labels are read, and then the rows in one kind or the other.
use Rattle.std.proofs.Common.{sym}
use Rattle.std.proofs.lemmas.List.{length-take-le}
use Rattle.writing.proofs.Calling.{err_is}
use Rattle.writing.proofs.Finding.{judged_yes, judged_no}
use Rattle.writing.proofs.ReadLabels.{labels_many}
use Rattle.clib.specs.SheetCalls.{in_words, in_lists}
use Rattle.clib.proofs.Rewritten.{sheet_no_labels, labels_taken}
use Rattle.clib.proofs.rewriting.rewrite.Goals as goal

pub returns-in_err-count : goal.returns-in_err-count
returns-in_err-count c = sheet_no_labels c.args.out.now c.in_err-count.field-0.0 (err_is c.from_residual.result c.from_residual.ensures.1) c.labels-labels.ensures c.in_err-count.ensures

pub slice_bounds-labels-end : goal.slice_bounds-labels-end
slice_bounds-labels-end c = (labels_many c.in_ok-count.ensures).inside

pub slice_bounds-places-end : goal.slice_bounds-places-end
slice_bounds-places-end c = sym (length-take-le c.in_ok-count.count c.read_items.new.places (labels_many c.in_ok-count.ensures).inside)

pub rewrite_rows-requires-clause-labels : goal.rewrite_rows-requires-clause-labels
rewrite_rows-requires-clause-labels c = labels_taken c.in_ok-count.ensures

pub rewrite_rows-requires-else-is_ok-clause-labels : goal.rewrite_rows-requires-else-is_ok-clause-labels
rewrite_rows-requires-else-is_ok-clause-labels c = labels_taken c.in_ok-count.ensures

pub returns-then-is_ok : goal.returns-then-is_ok
returns-then-is_ok c = in_words _ _ c.in_ok-count.count c.labels-labels.ensures c.in_ok-count.ensures (judged_yes c.judge.result c.if-is_ok.ensures.value c.judge.ensures) _ _ c.rewrite_rows.ensures

pub returns-else-is_ok : goal.returns-else-is_ok
returns-else-is_ok c =
    let m = labels_many c.in_ok-count.ensures in
    in_lists _ _ c.in_ok-count.count c.labels-labels.ensures c.in_ok-count.ensures (judged_no c.judge.result c.if-is_ok.ensures.value m.some c.judge.ensures) _ _ c.rewrite_rows-else-is_ok.ensures
