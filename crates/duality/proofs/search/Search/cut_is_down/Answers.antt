use Rattle.std.proofs.Common.{rules}
use Rattle.systems.specs.States.{up}
use Rattle.duality.specs.Shares.{is_apart}
use Rattle.duality.proofs.search.Search.cut_is_down.Goals as goal

pub returns : goal.returns
returns g c = let high = c.mask_of-high.ensures in c.any.ensures (λ r. is_apart r (up c.args.self.now.high)) (λ row b k. search (rules, high)) (λ row b k. search rules)
