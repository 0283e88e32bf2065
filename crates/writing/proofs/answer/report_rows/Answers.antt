-- The rows are read into two fresh tables, and their report is written.
use Rattle.std.proofs.Common.{[], length, refl, sym, ◌∙◌, rules}
use Rattle.tables.specs.Tables.{places}
use Rattle.writing.proofs.Answering.{text_short, answered_refused, audit_not_refused, answered_reported, answered_short}
use Rattle.writing.proofs.Calling.{err_is}
use Rattle.writing.proofs.answer.report_rows.Goals as goal

pub returns-in_err-read_rows : goal.returns-in_err-read_rows
returns-in_err-read_rows g c =
    let p = c.open-paths.ensures in
    let q = c.open-cuts.ensures in
    let r = c.in_err-read_rows.ensures in
    let paths-lent = sym (r.paths_kept.lent ∙ p.lent) in
    let cuts-lent = sym (r.cuts_kept.lent ∙ q.lent) in
    answered_refused (p.permitted c.requires.some c.requires.few) (q.permitted c.requires.some c.requires.few) r.paths_kept r.cuts_kept (search (rules, paths-lent)) (search (rules, cuts-lent))
    c.args.out.now (err_is c.from_residual.result c.from_residual.ensures.1) r.reads

pub returns-in_err-verdict : goal.returns-in_err-verdict
returns-in_err-verdict g c =
    let p = c.open-paths.ensures in
    let q = c.open-cuts.ensures in
    let r = c.in_ok-read_rows.ensures in
    audit_not_refused {paths' = places c.read_rows.new.paths} {cuts' = places c.read_rows.new.cuts} (p.permitted c.requires.some c.requires.few) (q.permitted c.requires.some c.requires.few) r.paths_kept r.cuts_kept refl refl
    r.reads c.requires.some c.in_err-verdict.ensures.audited

pub write_verdict-requires-clause-short : goal.write_verdict-requires-clause-short
write_verdict-requires-clause-short g c =
    let n = length c.args.places.now in
    let p = c.open-paths.ensures.permitted c.requires.some c.requires.few in
    let q = c.open-cuts.ensures.permitted c.requires.some c.requires.few in
    text_short (c.in_ok-read_rows.ensures.reads n n [] [] p.empty q.empty).5

pub returns-in_err-len : goal.returns-in_err-len
returns-in_err-len g c =
    let p = c.open-paths.ensures in
    let q = c.open-cuts.ensures in
    let r = c.in_ok-read_rows.ensures in
    let paths-lent = sym (r.paths_kept.lent ∙ p.lent) in
    let cuts-lent = sym (r.cuts_kept.lent ∙ q.lent) in
    answered_short (p.permitted c.requires.some c.requires.few) (q.permitted c.requires.some c.requires.few) r.paths_kept r.cuts_kept (search (rules, paths-lent)) (search (rules, cuts-lent))
    r.reads c.in_ok-verdict.ensures.audited c.row_count.ensures.rows c.row_count-2.ensures.rows c.args.out.now _ (err_is c.from_residual-in_err-len.result c.from_residual-in_err-len.ensures.1) c.in_err-len.ensures

pub returns : goal.returns
returns g c =
    let p = c.open-paths.ensures in
    let q = c.open-cuts.ensures in
    let r = c.in_ok-read_rows.ensures in
    let paths-lent = sym (r.paths_kept.lent ∙ p.lent) in
    let cuts-lent = sym (r.cuts_kept.lent ∙ q.lent) in
    answered_reported (p.permitted c.requires.some c.requires.few) (q.permitted c.requires.some c.requires.few) r.paths_kept r.cuts_kept (search (rules, paths-lent)) (search (rules, cuts-lent))
    r.reads c.in_ok-verdict.ensures.audited c.row_count.ensures.rows c.row_count-2.ensures.rows c.args.out.now _ c.in_ok-len.ensures
