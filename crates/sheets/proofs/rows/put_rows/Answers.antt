-- Each turn puts the row of a line; a line that is not ended, not formed or refused ends it.
use Rattle.std.proofs.Common.{Err, Result, drop, map, sym, ap, ◌∙◌, subst, arith}
use Rattle.std.proofs.lemmas.Result.{err_from_is_err_and}
use Rattle.sheets.specs.Labels.{named}
use Rattle.sheets.specs.Lines.{line_fault}
use Rattle.sheets.specs.RowsFaults.{unformed}
use Rattle.sheets.specs.declared.rows_fault.RowsFault.{RowsFault}
use Rattle.tables.proofs.Keeping.{kept_same, kept_trans}
use Rattle.sheets.proofs.TablesGoing.{Read, going_none, going_all, going_unended, going_more, going_refused}
use Rattle.sheets.proofs.rows.put_rows.Goals as goal

pub rows-init : goal.rows-init
rows-init g c = record {
  paths_kept = kept_same;
  cuts_kept = kept_same;
  inside = c.requires.inside;
  low = c.requires.low;
  going = going_none g.K.SetKind.mem g.K.SetKind.holds _ (drop c.args.from c.args.text.now) c.args.first c.args.paths.now c.args.cuts.now;
}

pub returns-in_err-line-clause-reads : goal.returns-in_err-line-clause-reads
returns-in_err-line-clause-reads g c =
    let p = err_from_is_err_and c.from_residual.result c.from_residual.ensures.1 in
    let e = c.in_err-line.ensures in
    let names = map (named c.args.text.now) c.args.places.now in
    let P : Result (Unit {0}) RowsFault → Type 0 = λ r. Read g.K.SetKind.mem g.K.SetKind.holds names (drop c.args.from c.args.text.now) c.args.first c.args.paths.now c.args.cuts.now r c.rows.paths c.rows.cuts in
    subst P (sym (p.1 ∙ ap Err (p.2 ∙ ap (λ f. unformed (line_fault f)) e.0)))
    (going_unended g.K.SetKind.mem g.K.SetKind.holds names c.args.text.now c.args.from c.args.first c.args.paths.now c.args.cuts.now c.rows.paths c.rows.cuts c.rows.at c.rows.nth c.rows.invariant.going c.rows-test.true e.1)

pub returns-in_err-put_line-clause-reads : goal.returns-in_err-put_line-clause-reads
returns-in_err-put_line-clause-reads g c =
    let inv = c.rows.invariant in
    let p = err_from_is_err_and c.from_residual-in_err-put_line.result c.from_residual-in_err-put_line.ensures.1 in
    let names = map (named c.args.text.now) c.args.places.now in
    let P : Result (Unit {0}) RowsFault → Type 0 = λ r. Read g.K.SetKind.mem g.K.SetKind.holds names (drop c.args.from c.args.text.now) c.args.first c.args.paths.now c.args.cuts.now r c.put_line.new.paths c.put_line.new.cuts in
    subst P (sym (p.1 ∙ ap Err p.2))
    (going_refused g.K.SetKind.mem g.K.SetKind.holds names c.args.text.now c.args.from c.args.first c.args.paths.now c.args.cuts.now c.rows.paths c.rows.cuts c.rows.at c.rows.nth inv.going
    inv.paths_kept.capacity inv.cuts_kept.capacity c.in_ok-line.line.now c.in_ok-line.ensures c.put_line.new.paths c.put_line.new.cuts c.in_err-put_line.field-0.0 c.in_err-put_line.ensures.puts)

pub rows-preserved : goal.rows-preserved
rows-preserved g c =
    let inv = c.rows.invariant in
    let names = map (named c.args.text.now) c.args.places.now in
    let fits = c.in_ok-line.ensures.fits in
    record {
      paths_kept = kept_trans inv.paths_kept c.put_line.ensures.paths_kept;
      cuts_kept = kept_trans inv.cuts_kept c.put_line.ensures.cuts_kept;
      inside = omega (arith, fits);
      low = omega (arith, inv.low);
      going = going_more g.K.SetKind.mem g.K.SetKind.holds names c.args.text.now c.args.from c.args.first c.args.paths.now c.args.cuts.now c.rows.paths c.rows.cuts c.rows.at c.rows.nth inv.going
          inv.paths_kept.capacity inv.cuts_kept.capacity c.in_ok-line.line.now c.in_ok-line.ensures c.put_line.new.paths c.put_line.new.cuts _ (omega arith) c.in_ok-put_line.ensures.puts;
    }

pub returns-clause-reads : goal.returns-clause-reads
returns-clause-reads g c =
    going_all g.K.SetKind.mem g.K.SetKind.holds _ c.args.text.now c.args.from c.args.first c.args.paths.now c.args.cuts.now c.rows.paths c.rows.cuts c.rows.at c.rows.nth c.rows.invariant.going c.rows-test.false
