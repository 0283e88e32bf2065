use Rattle.std.proofs.Common.{rules}
use Rattle.systems.specs.States.{up}
use Rattle.duality.specs.Shares.{is_within}
use Rattle.duality.proofs.search.Search.path_is_up.Goals as goal

pub returns : goal.returns
returns g c = let low = c.mask_of-low.ensures in c.any.ensures (λ r. is_within r (up c.args.self.now.low)) (λ row b k. search (rules, low)) (λ row b k. search rules)
