use Rattle.systems.proofs.Chains.{chains_are_walks}
use Rattle.systems.proofs.Worked.{worked_examples_lem}
use Rattle.systems.proofs.examples.worked_examples.Goals as goal

pub returns : goal.returns
returns c = record { examples = worked_examples_lem; chains = chains_are_walks }
