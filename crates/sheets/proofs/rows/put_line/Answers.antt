use Rattle.std.proofs.Common.{Err, refl, ap, ◌∙◌, subst, rules}
use Rattle.std.proofs.lemmas.Result.{err_from_is_err_and, MatchResult-weaker}
use Rattle.sheets.specs.Lines.{Says}
use Rattle.sheets.specs.RowsFaults.{unformed}
use Rattle.sheets.specs.Rows.{line_unformed, line_path, line_cuts}
use Rattle.sheets.proofs.RowFronting.{unformed_rows, item_rows, passed_on}
use Rattle.sheets.proofs.rows.put_line.Goals as goal

pub returns-in_err-parse-clause-puts : goal.returns-in_err-parse-clause-puts
returns-in_err-parse-clause-puts g c n ps cs hp hc =
    let p = err_from_is_err_and c.from_residual.result c.from_residual.ensures.1 in
    let e = c.in_err-parse.ensures in
    (ps, cs, hp, hc, line_unformed (p.1 ∙ ap Err (p.2 ∙ ap unformed e.0)) (unformed_rows c.args.line.now e.1))

pub returns-in-Item-clause-puts : goal.returns-in-Item-clause-puts
returns-in-Item-clause-puts g c n ps cs hp hc =
    let s = subst (λ v. Says v c.args.line.now) c.in-Item.is c.in_ok-parse.ensures in
    (ps, cs, hp, hc, line_unformed refl (item_rows c.args.line.now _ _ s.2))

pub returns-in-Path-clause-puts : goal.returns-in-Path-clause-puts
returns-in-Path-clause-puts g c n ps cs hp hc =
    let s = subst (λ v. Says v c.args.line.now) c.in-Path.is c.in_ok-parse.ensures in
    let p = c.put_row.ensures.puts n ps hp in
    let r = c.put_row.result in
    (p.0, cs, p.1, hc, line_path c.in-Path.row.now r p.0 (passed_on c.args.nth r c.map_err.result (MatchResult-weaker r c.map_err.ensures.cases (λ x e. e) (λ y q. search rules))) s.1 p.2)

pub returns-in-Cuts-clause-puts : goal.returns-in-Cuts-clause-puts
returns-in-Cuts-clause-puts g c n ps cs hp hc =
    let s = subst (λ v. Says v c.args.line.now) c.in-Cuts.is c.in_ok-parse.ensures in
    let p = c.put_row-in-Cuts.ensures.puts n cs hc in
    let r = c.put_row-in-Cuts.result in
    (ps, p.0, hp, p.1, line_cuts c.in-Cuts.row.now r p.0 (passed_on c.args.nth r c.map_err-in-Cuts.result (MatchResult-weaker r c.map_err-in-Cuts.ensures.cases (λ x e. e) (λ y q. search rules))) s.1 p.2)
