use Rattle.std.proofs.Common.{rules}
use Rattle.systems.specs.States.{up}
use Rattle.duality.specs.Shares.{is_apart}
use Rattle.duality.proofs.search.Search.sift_cuts.Goals as goal

pub returns-clause-sifted : goal.returns-clause-sifted
returns-clause-sifted g c = let low = c.mask_of-low.ensures in c.sift.ensures.sifted (λ r. is_apart r (up c.args.self.now.low)) (λ row b k. search (rules, low))

pub returns-clause-left : goal.returns-clause-left
returns-clause-left g c = let low = c.mask_of-low.ensures in c.sift.ensures.left (λ r. is_apart r (up c.args.self.now.low)) (λ row b k. search (rules, low)) (λ row b k. search rules)
