-- The checks, and then the text of the rows.
use Rattle.std.proofs.Common.{◌≡◌, ◌≤◌, map, length, sym, ap₂, ◌∙◌, subst, arith}
use Rattle.std.proofs.lemmas.List.{length-map}
use Rattle.tables.proofs.Histories.{past_sound}
use Rattle.sheets.specs.Bytes.{Bytes}
use Rattle.sheets.specs.Labels.{named}
use Rattle.writing.specs.RoundTrips.{ReadsBack}
use Rattle.writing.specs.SheetTexts.{sheet_text}
use Rattle.writing.proofs.Calling.{err_is, label_count, text_fits, called_refused, called_written}
use Rattle.writing.proofs.ReadLabels.{labels_accepted}
use Rattle.writing.proofs.ReadingBack.{reads_back}
use Rattle.writing.proofs.Outputting.{output_taken}
use Rattle.writing.proofs.sheet.write_sheet.Goals as goal

pub returns-in_err-check-clause-writes : goal.returns-in_err-check-clause-writes
returns-in_err-check-clause-writes g c p n ps cs hp hc = called_refused hp.items hc.items (err_is c.from_residual.result c.from_residual.ensures.1) c.in_err-check.ensures

pub write_rows-requires-clause-few : goal.write_rows-requires-clause-few
write_rows-requires-clause-few g c = omega (arith, label_count c.in_ok-check.ensures, c.args.paths.now.small)

pub write_rows-requires-clause-short : goal.write_rows-requires-clause-short
write_rows-requires-clause-short g c = text_fits c.in_ok-check.ensures

pub returns-clause-writes : goal.returns-clause-writes
returns-clause-writes g c p n ps cs hp hc =
    let names = map (named c.args.text.now) c.args.places.now in
    called_written hp.items hc.items c.in_ok-check.ensures (ap₂ (sheet_text names) (c.rows.ensures.rows p ps hp) (c.rows-2.ensures.rows n cs hc)) c.write_rows.ensures

pub returns-clause-reads_back : goal.returns-clause-reads_back
returns-clause-reads_back g c n ps cs past hp hc read =
    let names = map (named c.args.text.now) c.args.places.now in
    let a = c.args.paths.now.capacity in
    let b = c.args.cuts.now.capacity in
    let holds = g.K.SetKind.holds in
    let less = g.met.K.SetKind.less in
    let rows = ap₂ (sheet_text names) (c.rows.ensures.rows n ps hp) (c.rows-2.ensures.rows n cs hc) in
    let labels = labels_accepted c.args.text.now c.args.places.now read in
    let all : n ≡ length c.args.places.now = sym hp.items ∙ label_count c.in_ok-check.ensures in
    let named_all : length names ≡ n = length-map c.args.places.now (named c.args.text.now) ∙ sym all in
    let sound = past_sound holds n a b ps cs past in
    output_taken (ReadsBack n a b holds names ps cs) c.write_rows.ensures
    (λ small. subst (ReadsBack n a b holds names ps cs) (sym rows) (reads_back holds less n a b names ps cs (omega (arith, all, labels.1)) (omega (arith, all, labels.2)) named_all labels.0 sound.0 sound.1 (subst (λ (bs : Bytes). length bs ≤ 65535) rows small)))
