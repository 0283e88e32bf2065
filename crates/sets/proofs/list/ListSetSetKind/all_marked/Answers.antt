use Rattle.std.proofs.Common.{take, rules, tests}
use Rattle.std.proofs.lemmas.Bool.Decides.{Decides-at}
use Rattle.std.proofs.lemmas.Iterator.{YieldsList-from_slice}
use Rattle.std.proofs.lemmas.Iterator.Search.{all_from_yields_List}
use Rattle.sets.specs.Marks.{marked}
use Rattle.sets.proofs.Lists.{decides_all}
use Rattle.sets.proofs.list.ListSetSetKind.all_marked.Goals as goal

pub returns : goal.returns
returns c =
    let xs = take c.args.self.now.len c.args.self.now.numbers in
    let test = marked c.args.marks.now in
    Decides-at c.all.result _
    (all_from_yields_List test _ _ c.all.result c.all.ensures.ran (YieldsList-from_slice xs cc) (λ x b q k. search (rules, tests)))
    (decides_all xs test)
