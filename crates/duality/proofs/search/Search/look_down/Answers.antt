use Rattle.std.proofs.Common.{inr}
use Rattle.std.proofs.lemmas.Bool.{both_ways}
use Rattle.duality.proofs.Asides.{some_down, path_left, paths_sifted}
use Rattle.duality.proofs.search.Search.look_down.Goals as goal

pub returns-then-cut_is_down-clause-found : goal.returns-then-cut_is_down-clause-found
returns-then-cut_is_down-clause-found g c n ps cs k cut no_path = inr ((some_down k c.cut_is_down.result c.cut_is_down.ensures).0 c.if-cut_is_down.true)

pub returns-then-not-sift_paths-clause-known : goal.returns-then-not-sift_paths-clause-known
returns-then-not-sift_paths-clause-known g c n ps cs k = paths_sifted k _ c.sift_paths.ensures.sifted

-- no path is left: the greatest state of the half is missed
pub returns-then-not-sift_paths-clause-found : goal.returns-then-not-sift_paths-clause-found
returns-then-not-sift_paths-clause-found g c n ps cs k cut no_path =
    let covered = some_down k c.cut_is_down.result c.cut_is_down.ensures in
    let some = path_left k c.sift_paths.result c.sift_paths.ensures.left in
    (k.stands.high_count, ((λ w. both_ways c.sift_paths.result c.if-not-sift_paths.true (some.1 w)), (λ d. both_ways c.cut_is_down.result c.if-cut_is_down.false (covered.1 d))))

pub returns-else-not-sift_paths-clause-known : goal.returns-else-not-sift_paths-clause-known
returns-else-not-sift_paths-clause-known g c n ps cs k = paths_sifted k _ c.sift_paths.ensures.sifted

pub returns-else-not-sift_paths-clause-found : goal.returns-else-not-sift_paths-clause-found
returns-else-not-sift_paths-clause-found g c n ps cs k cut no_path =
    record {
      path = (path_left k c.sift_paths.result c.sift_paths.ensures.left).0 c.if-not-sift_paths.false;
      no_path = no_path;
      cut = cut;
      no_cut = λ d. both_ways c.cut_is_down.result c.if-cut_is_down.false ((some_down k c.cut_is_down.result c.cut_is_down.ensures).1 d);
    }
