-- The text is measured, and put if it has room.
use Rattle.std.proofs.Common.{map, sym, ◌∙◌, arith, rules}
use Rattle.std.proofs.lemmas.List.{length-map}
use Rattle.tables.specs.Memory.{meant}
use Rattle.sheets.specs.Labels.{named}
use Rattle.writing.proofs.Lengths.{length_sheet, short_names}
use Rattle.writing.proofs.Outputting.{measured, output_no_room, output_put}
use Rattle.writing.proofs.sheet.write_rows.Goals as goal

pub put_sheet-requires-clause-counted : goal.put_sheet-requires-clause-counted
put_sheet-requires-clause-counted g c =
    let mem = g.K.SetKind.mem in
    let text = c.args.text.now in
    let places = c.args.places.now in
    let paths = c.args.paths.now in
    let cuts = c.args.cuts.now in
    let asked = c.requires in
    let a = length-map places (named text) in
    let b = length-map paths (meant mem) in
    let d = length-map cuts (meant mem) in
    let long = length_sheet (map (named text) places) (map (meant mem) paths) (map (meant mem) cuts) (short_names text places asked.short) (omega arith) (omega arith) (omega arith) in
    omega (arith, c.new-measure.ensures.len)

pub returns-then-len-out : goal.returns-then-len-out
returns-then-len-out g c = output_no_room (measured c.new-measure.ensures.len c.put_sheet.ensures c.len-len.ensures) c.if-len-out.true

pub returns : goal.returns
returns g c =
    let lent = sym (c.put_sheet-2.ensures.lent ∙ c.new.ensures.lent) in
    output_put (measured c.new-measure.ensures.len c.put_sheet.ensures c.len-len.ensures) c.if-len-out.false c.new.ensures.memory c.new.ensures.len c.put_sheet-2.ensures (search (rules, lent))
