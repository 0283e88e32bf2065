use Rattle.std.proofs.Common.{nat_le, take, MatchOption, ◌∙◌, sym, subst, rules, tests, ap}
use Rattle.std.specs.List.{find}
use Rattle.std.proofs.lemmas.List.{map-id}
use Rattle.std.proofs.lemmas.Iterator.{YieldsList-from_slice, YieldsList-from_map}
use Rattle.std.proofs.lemmas.Iterator.Adapters.{option_map_id}
use Rattle.std.proofs.lemmas.Iterator.Search.{find_from_yields_List}
use Rattle.sets.specs.Sets.{listed, NoneFrom, Lowest}
use Rattle.sets.proofs.Lists.{lowest_found}
use Rattle.sets.proofs.list.ListSetSetKind.next.Goals as goal

pub returns : goal.returns
returns c =
    let xs = take c.args.self.now.len c.args.self.now.numbers in
    let k = c.args.k in
    let found =
    find_from_yields_List (λ x. nat_le k x) _ _ c.find.result c.find.ensures.ran
    (YieldsList-from_map {ys = xs} _ (λ x. x) (YieldsList-from_slice xs cc) c.map.ensures.closure (λ x r q k. search rules)) (λ x b q k. search (rules, tests)) in
    subst (λ o. MatchOption o (NoneFrom (listed xs) k) (Lowest (listed xs) k)) (sym (sym (option_map_id c.find.result) ∙ found ∙ ap (find (λ x. nat_le k x)) (map-id xs))) (lowest_found 0 k xs c.args.self.now.ok.1)
