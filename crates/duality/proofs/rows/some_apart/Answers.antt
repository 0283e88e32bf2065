use mathlib.Core.Path.{fun_ext}
use Rattle.std.proofs.Common.{◌≡◌, map, rules, sym, ap, ◌∙◌}
use Rattle.std.proofs.lemmas.Iterator.{YieldsList-from_slice}
use Rattle.std.proofs.lemmas.Iterator.Search.{any_from_yields_List}
use borrow.Author.Tests.{tests}
use Rattle.sets.specs.Marks.{marked}
use Rattle.tables.specs.Memory.{meant}
use Rattle.duality.specs.Shares.{is_apart}
use Rattle.duality.proofs.RowFacts.{below_most, rows_below, any_map, decides_fails}
use Rattle.duality.proofs.rows.some_apart.Goals as goal

pub returns : goal.returns
returns g c =
    let mem = meant g.K.SetKind.mem in
    let s = mem c.args.row.now in
    let items : marked c.marks-items.result ≡ s = fun_ext c.marks-items.ensures ∙ ap g.K.SetKind.mem c.set.ensures in
    let e = any_from_yields_List (λ x. is_apart (mem x) s) _ _ _ c.any.ensures.ran (YieldsList-from_slice c.args.cuts.now cc) (λ x b q k. search (rules, tests, items)) in
    decides_fails (map mem c.args.cuts.now) (rows_below mem (λ x. below_most g.K.SetKind.top _ g.met.K.SetKind.small (g.met.K.SetKind.below x.set)) c.args.cuts.now) s c.any.result
    (e ∙ sym (any_map (λ r. is_apart r s) mem c.args.cuts.now))
