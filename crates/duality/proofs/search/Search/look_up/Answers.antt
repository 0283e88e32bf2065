use Rattle.std.proofs.Common.{inl}
use Rattle.std.proofs.lemmas.Bool.{both_ways}
use Rattle.duality.proofs.Asides.{some_up, cut_left, cuts_sifted}
use Rattle.duality.proofs.search.Search.look_up.Goals as goal

pub returns-then-path_is_up-clause-found : goal.returns-then-path_is_up-clause-found
returns-then-path_is_up-clause-found g c n ps cs k path no_cut = inl ((some_up k c.path_is_up.result c.path_is_up.ensures).0 c.if-path_is_up.true)

pub returns-then-not-sift_cuts-clause-known : goal.returns-then-not-sift_cuts-clause-known
returns-then-not-sift_cuts-clause-known g c n ps cs k = cuts_sifted k _ c.sift_cuts.ensures.sifted

-- no cut is left: the least state of the half is missed
pub returns-then-not-sift_cuts-clause-found : goal.returns-then-not-sift_cuts-clause-found
returns-then-not-sift_cuts-clause-found g c n ps cs k path no_cut =
    let covered = some_up k c.path_is_up.result c.path_is_up.ensures in
    let some = cut_left k c.sift_cuts.result c.sift_cuts.ensures.left in
    (k.stands.low_count, ((λ w. both_ways c.path_is_up.result c.if-path_is_up.false (covered.1 w)), (λ d. both_ways c.sift_cuts.result c.if-not-sift_cuts.true (some.1 d))))

pub returns-else-not-sift_cuts-clause-known : goal.returns-else-not-sift_cuts-clause-known
returns-else-not-sift_cuts-clause-known g c n ps cs k = cuts_sifted k _ c.sift_cuts.ensures.sifted

pub returns-else-not-sift_cuts-clause-found : goal.returns-else-not-sift_cuts-clause-found
returns-else-not-sift_cuts-clause-found g c n ps cs k path no_cut =
    record {
      path = path;
      no_path = λ w. both_ways c.path_is_up.result c.if-path_is_up.false ((some_up k c.path_is_up.result c.path_is_up.ensures).1 w);
      cut = (cut_left k c.sift_cuts.result c.sift_cuts.ensures.left).0 c.if-not-sift_cuts.false;
      no_cut = no_cut;
    }
