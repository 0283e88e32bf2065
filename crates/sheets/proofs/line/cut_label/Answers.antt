use Rattle.std.proofs.Common.{sym, subst, rules, tests}
use Rattle.std.proofs.lemmas.Iterator.{IsFirst-from_position, YieldsList-from_slice}
use Rattle.sheets.specs.Runs.{Visible}
use Rattle.sheets.proofs.ThenSome.{match_then_some}
use Rattle.sheets.proofs.Spans.{Ends, row_unspaced, ends_from, named_at, unnamed_at}
use Rattle.sheets.proofs.line.cut_label.Goals as goal

pub returns-in_err-names : goal.returns-in_err-names
returns-in_err-names c = rw c.from_residual.ensures (row_unspaced c.args.s.now c.in_err-names.ensures)

pub returns : goal.returns
returns c =
    let s = c.args.s.now in
    let names = c.in_ok-names.names.now in
    let e = c.unwrap_or-end.result in
    let ends = ends_from names c.position.result (IsFirst-from_position _ _ c.position.result (λ b. Visible b → ⊥) Visible c.position.ensures.ran (YieldsList-from_slice names c.iter.ensures.rest) (λ x q k. search (rules, tests)) (λ x q k. search (rules, tests))) in
    let here = subst (Ends names) (sym c.unwrap_or-end.ensures) ends in
    match_then_some _ _ _ _ c.then_some.ensures c.is_label.ensures
    (named_at s names e c.in_ok-names.ensures here _ _ c.split_at.ensures.front c.split_at.ensures.back)
    (unnamed_at s names e c.in_ok-names.ensures here _ c.split_at.ensures.front)
