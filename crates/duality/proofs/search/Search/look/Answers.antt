use Rattle.std.proofs.Common.{inl, inr}
use Rattle.std.proofs.lemmas.Bool.{both_ways}
use Rattle.duality.proofs.Asides.{is_closed, path_left, cut_left, paths_sifted, cuts_sifted}
use Rattle.duality.proofs.search.Search.look.Goals as goal

pub returns-then-is_closed-clause-found : goal.returns-then-is_closed-clause-found
returns-then-is_closed-clause-found g c n ps cs k = (is_closed k c.is_closed.result c.is_closed.ensures).0 c.if-is_closed.true

pub returns-then-not-sift_paths-clause-known : goal.returns-then-not-sift_paths-clause-known
returns-then-not-sift_paths-clause-known g c n ps cs k = paths_sifted k _ c.sift_paths.ensures.sifted

-- no path is left: the greatest state of the half is missed
pub returns-then-not-sift_paths-clause-found : goal.returns-then-not-sift_paths-clause-found
returns-then-not-sift_paths-clause-found g c n ps cs k =
    let closed = is_closed k c.is_closed.result c.is_closed.ensures in
    let some = path_left k c.sift_paths.result c.sift_paths.ensures.left in
    (k.stands.high_count, ((λ w. both_ways c.sift_paths.result c.if-not-sift_paths.true (some.1 w)), (λ d. both_ways c.is_closed.result c.if-is_closed.false (closed.1 (inr d)))))

pub returns-then-not-sift_cuts-clause-known : goal.returns-then-not-sift_cuts-clause-known
returns-then-not-sift_cuts-clause-known g c n ps cs k = cuts_sifted (paths_sifted k _ c.sift_paths.ensures.sifted) _ c.sift_cuts.ensures.sifted

-- no cut is left: the least is missed
pub returns-then-not-sift_cuts-clause-found : goal.returns-then-not-sift_cuts-clause-found
returns-then-not-sift_cuts-clause-found g c n ps cs k =
    let closed = is_closed k c.is_closed.result c.is_closed.ensures in
    let some = cut_left k c.sift_cuts.result c.sift_cuts.ensures.left in
    (k.stands.low_count, ((λ w. both_ways c.is_closed.result c.if-is_closed.false (closed.1 (inl w))), (λ d. both_ways c.sift_cuts.result c.if-not-sift_cuts.true (some.1 d))))

pub returns-else-not-sift_cuts-clause-known : goal.returns-else-not-sift_cuts-clause-known
returns-else-not-sift_cuts-clause-known g c n ps cs k = cuts_sifted (paths_sifted k _ c.sift_paths.ensures.sifted) _ c.sift_cuts.ensures.sifted

pub returns-else-not-sift_cuts-clause-found : goal.returns-else-not-sift_cuts-clause-found
returns-else-not-sift_cuts-clause-found g c n ps cs k =
    let closed = is_closed k c.is_closed.result c.is_closed.ensures in
    record {
      path = (path_left k c.sift_paths.result c.sift_paths.ensures.left).0 c.if-not-sift_paths.false;
      no_path = λ w. both_ways c.is_closed.result c.if-is_closed.false (closed.1 (inl w));
      cut = (cut_left k c.sift_cuts.result c.sift_cuts.ensures.left).0 c.if-not-sift_cuts.false;
      no_cut = λ d. both_ways c.is_closed.result c.if-is_closed.false (closed.1 (inr d));
    }
