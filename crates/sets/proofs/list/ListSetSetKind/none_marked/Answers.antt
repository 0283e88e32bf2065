use Rattle.std.proofs.Common.{take, not, ap, rules, tests}
use Rattle.std.proofs.lemmas.Bool.Decides.{Decides-at}
use Rattle.std.proofs.lemmas.Iterator.{YieldsList-from_slice}
use Rattle.std.proofs.lemmas.Iterator.Search.{any_from_yields_List}
use Rattle.sets.specs.Marks.{marked}
use Rattle.sets.proofs.Lists.{decides_none}
use Rattle.sets.proofs.list.ListSetSetKind.none_marked.Goals as goal

pub returns : goal.returns
returns c =
    let xs = take c.args.self.now.len c.args.self.now.numbers in
    let test = marked c.args.marks.now in
    Decides-at (not c.any.result) _
    (ap not (any_from_yields_List test _ _ c.any.result c.any.ensures.ran (YieldsList-from_slice xs cc) (λ x b q k. search (rules, tests))))
    (decides_none xs test)
