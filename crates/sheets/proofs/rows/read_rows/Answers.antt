use Rattle.std.proofs.Common.{Err, Result, sym, ap, ◌∙◌, subst, rules}
use Rattle.std.proofs.lemmas.Result.{err_from_is_err_and}
use Rattle.sheets.specs.declared.rows_fault.RowsFault.{RowsFault}
use Rattle.sheets.proofs.Calling.{Called, called_unfit, called_long, called_read}
use Rattle.sheets.proofs.rows.read_rows.Goals as goal

pub returns-in_err-check_counts-clause-reads : goal.returns-in_err-check_counts-clause-reads
returns-in_err-check_counts-clause-reads g c =
    let e = err_from_is_err_and c.from_residual.result c.from_residual.ensures.1 in
    let P : Result (Unit {0}) RowsFault → Type 0 = λ r. Called g.K.SetKind.mem g.K.SetKind.holds c.args.text.now c.args.places.now c.args.paths.now c.args.cuts.now r c.args.paths.now c.args.cuts.now in
    subst P (sym (e.1 ∙ ap Err e.2))
    (called_unfit g.K.SetKind.mem g.K.SetKind.holds g.met.K.SetKind.none c.args.text.now c.args.places.now c.args.paths.now c.args.cuts.now c.in_err-check_counts.field-0.0 c.in_err-check_counts.ensures)

pub returns-then-text-gt-MOST_BYTES-clause-reads : goal.returns-then-text-gt-MOST_BYTES-clause-reads
returns-then-text-gt-MOST_BYTES-clause-reads g c =
    called_long g.K.SetKind.mem g.K.SetKind.holds g.met.K.SetKind.none c.args.text.now c.args.places.now c.args.paths.now c.args.cuts.now (search rules) c.if-text-gt-MOST_BYTES.true

pub returns-clause-reads : goal.returns-clause-reads
returns-clause-reads g c =
    called_read g.K.SetKind.mem g.K.SetKind.holds g.met.K.SetKind.none c.args.text.now c.args.places.now c.args.paths.now c.args.cuts.now c.put_rows.new.paths c.put_rows.new.cuts
    c.skip_items-spot.result c.put_rows.result c.in_ok-check_counts.ensures c.if-text-gt-MOST_BYTES.false c.skip_items-spot.ensures c.put_rows.ensures.reads
