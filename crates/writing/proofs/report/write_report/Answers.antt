-- The checks, and then the report of the rows.
use Rattle.std.proofs.Common.{◌≡◌, map, length, sym, ap₂, ◌∙◌, subst, arith}
use Rattle.tables.specs.Tables.{Holds}
use Rattle.sheets.specs.Labels.{named}
use Rattle.writing.specs.Reports.{report_text}
use Rattle.writing.proofs.Calling.{err_is, one_count, label_count, text_fits, audit_fits, called_refused, called_written}
use Rattle.writing.proofs.report.write_report.Goals as goal

pub returns-in_err-check : goal.returns-in_err-check
returns-in_err-check g c p n ps cs hp hc = called_refused hp.items hc.items (err_is c.from_residual.result c.from_residual.ensures.1) c.in_err-check.ensures

pub returns-in_err-audit : goal.returns-in_err-audit
returns-in_err-audit g c p n ps cs hp hc = audit_fits c.in_err-audit.field-0.0 c.in_ok-check.ensures c.in_err-audit.ensures.checks

pub write_verdict-requires-clause-few : goal.write_verdict-requires-clause-few
write_verdict-requires-clause-few g c = omega (arith, label_count c.in_ok-check.ensures, c.args.paths.now.small)

pub write_verdict-requires-clause-short : goal.write_verdict-requires-clause-short
write_verdict-requires-clause-short g c = text_fits c.in_ok-check.ensures

pub returns : goal.returns
returns g c p n ps cs hp hc =
    let names = map (named c.args.text.now) c.args.places.now in
    let verdict = c.in_ok-audit.field-0 in
    let same : n ≡ p = sym hc.items ∙ sym (one_count c.in_ok-check.ensures) ∙ hp.items in
    let cuts = subst (λ k. Holds g.K.SetKind.mem c.args.cuts.now k cs) same hc in
    let many : report_text names c.row_count.result c.row_count-2.result verdict ≡ report_text names (length ps) (length cs) verdict =
    ap₂ (λ a b. report_text names a b verdict) (c.row_count.ensures.rows p ps hp) (c.row_count-2.ensures.rows n cs hc) in
    called_written hp.items hc.items c.in_ok-check.ensures
    (λ past. record { verdict = verdict; audited = c.in_ok-audit.ensures.audited p ps cs past hp cuts; text = many }) c.write_verdict.ensures
