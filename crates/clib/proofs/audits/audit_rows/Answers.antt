-- The rows are put into two fresh tables, and these are audited.
use Rattle.writing.proofs.Calling.{err_is}
use Rattle.clib.proofs.Audited.{permitted, a_judge_refused, a_path_refused, a_cut_refused, right, not_refused}
use Rattle.clib.proofs.audits.audit_rows.Goals as goal

pub returns-in_err-judge : goal.returns-in_err-judge
returns-in_err-judge g c = a_judge_refused (err_is c.from_residual.result c.from_residual.ensures.1) c.in_err-judge.ensures

pub returns-in_err-fill : goal.returns-in_err-fill
returns-in_err-fill g c =
    let n = permitted c.in_ok-judge.ensures in
    a_path_refused n.0 n.1 c.requires.path_places (c.open-path_table.ensures.permitted n.0 n.1) (err_is c.from_residual-in_err-fill.result c.from_residual-in_err-fill.ensures.1) c.in_err-fill.ensures.fills

pub returns-in_err-fill-2 : goal.returns-in_err-fill-2
returns-in_err-fill-2 g c =
    let n = permitted c.in_ok-judge.ensures in
    a_cut_refused n.0 n.1 c.requires.path_places c.requires.cut_places (c.open-path_table.ensures.permitted n.0 n.1) (c.open-cut_table.ensures.permitted n.0 n.1) c.in_ok-fill.ensures.fills
    (err_is c.from_residual-in_err-fill-2.result c.from_residual-in_err-fill-2.ensures.1) c.in_err-fill-2.ensures.fills

pub unreachable-requires : goal.unreachable-requires
unreachable-requires g c =
    let n = permitted c.in_ok-judge.ensures in
    not_refused n.0 n.1 c.requires.path_places c.requires.cut_places (c.open-path_table.ensures.permitted n.0 n.1) (c.open-cut_table.ensures.permitted n.0 n.1) c.in_ok-fill.ensures.fills
    g.met.K.SetKind.none c.fill.ensures.kept c.fill-2.ensures.kept c.in_ok-fill-2.ensures.fills c.in-Err.ensures

pub returns : goal.returns
returns g c =
    let n = permitted c.in_ok-judge.ensures in
    right n.0 n.1 c.requires.path_places c.requires.cut_places (c.open-path_table.ensures.permitted n.0 n.1) (c.open-cut_table.ensures.permitted n.0 n.1) c.in_ok-fill.ensures.fills
    g.met.K.SetKind.none c.fill.ensures.kept c.fill-2.ensures.kept c.in_ok-fill-2.ensures.fills c.in-Ok.ensures
