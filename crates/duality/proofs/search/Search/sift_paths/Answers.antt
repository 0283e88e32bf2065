use Rattle.std.proofs.Common.{rules}
use Rattle.systems.specs.States.{up}
use Rattle.duality.specs.Shares.{is_within}
use Rattle.duality.proofs.search.Search.sift_paths.Goals as goal

pub returns-clause-sifted : goal.returns-clause-sifted
returns-clause-sifted g c = let high = c.mask_of-high.ensures in c.sift.ensures.sifted (λ r. is_within r (up c.args.self.now.high)) (λ row b k. search (rules, high))

pub returns-clause-left : goal.returns-clause-left
returns-clause-left g c = let high = c.mask_of-high.ensures in c.sift.ensures.left (λ r. is_within r (up c.args.self.now.high)) (λ row b k. search (rules, high)) (λ row b k. search rules)
