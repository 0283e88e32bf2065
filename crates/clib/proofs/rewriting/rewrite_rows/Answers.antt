-- The rows are read into two fresh tables, and these are written.
use Rattle.clib.proofs.Rewritten.{sheet_refused, sheet_short, sheet_whole}
use Rattle.writing.proofs.Calling.{err_is}
use Rattle.writing.proofs.ReadLabels.{labels_accepted}
use Rattle.clib.proofs.rewriting.rewrite_rows.Goals as goal

pub returns-in_err-read_rows : goal.returns-in_err-read_rows
returns-in_err-read_rows g c =
    let some = (labels_accepted c.args.text.now c.args.places.now c.requires.labels).1 in
    let r = c.in_err-read_rows.ensures in
    sheet_refused c.requires.path_places c.requires.cut_places (c.open-paths.ensures.permitted some c.requires.few) (c.open-cuts.ensures.permitted some c.requires.few) r.paths_kept r.cuts_kept
    c.args.out.now (err_is c.from_residual.result c.from_residual.ensures.1) r.reads

pub returns-in_err-len : goal.returns-in_err-len
returns-in_err-len g c =
    let some = (labels_accepted c.args.text.now c.args.places.now c.requires.labels).1 in
    let r = c.in_ok-read_rows.ensures in
    sheet_short c.requires.path_places c.requires.cut_places (c.open-paths.ensures.permitted some c.requires.few) (c.open-cuts.ensures.permitted some c.requires.few) r.paths_kept r.cuts_kept
    some r.reads c.args.out.now _ (err_is c.from_residual-in_err-len.result c.from_residual-in_err-len.ensures.1) c.in_err-len.ensures.writes

pub returns : goal.returns
returns g c =
    let some = (labels_accepted c.args.text.now c.args.places.now c.requires.labels).1 in
    let r = c.in_ok-read_rows.ensures in
    sheet_whole c.requires.path_places c.requires.cut_places (c.open-paths.ensures.permitted some c.requires.few) (c.open-cuts.ensures.permitted some c.requires.few) r.paths_kept r.cuts_kept
    some r.reads c.args.out.now _ c.requires.labels c.in_ok-len.ensures.writes c.in_ok-len.ensures.reads_back
