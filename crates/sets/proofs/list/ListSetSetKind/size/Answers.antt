use Rattle.std.proofs.Common.{take}
use Rattle.sets.specs.Listing.{count_listed}
use Rattle.sets.proofs.list.ListSetSetKind.size.Goals as goal

pub returns : goal.returns
returns c = let x = c.args.self.now in let members = count_listed 0 (take x.len x.numbers) x.ok.1 in cc
