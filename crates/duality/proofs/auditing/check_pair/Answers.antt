use Rattle.std.proofs.Common.{arith}
use Rattle.duality.specs.Pairs.{paths_closed, cuts_closed, counts_differ, pair_fits}
use Rattle.duality.proofs.auditing.check_pair.Goals as goal

pub returns-then-n-eq0 : goal.returns-then-n-eq0
returns-then-n-eq0 g c = record { checks = simp c.item_count-n.ensures (paths_closed (omega arith)); count = tt }

pub returns-then-m-eq0 : goal.returns-then-m-eq0
returns-then-m-eq0 g c = record { checks = simp c.item_count-m.ensures (cuts_closed (omega arith) (omega arith)); count = tt }

pub returns-then-n-m : goal.returns-then-n-m
returns-then-n-m g c =
    record { checks = simp (c.item_count-n.ensures, c.item_count-m.ensures) (counts_differ (omega arith) (omega arith) (λ e. omega arith)); count = tt }

pub returns : goal.returns
returns g c = record { checks = pair_fits (omega arith) (omega arith); count = (omega arith, omega arith) }
