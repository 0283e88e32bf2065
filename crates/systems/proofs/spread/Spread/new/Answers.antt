use Rattle.systems.proofs.Reaching.{first_only}
use Rattle.systems.proofs.spread.Spread.new.Goals as goal

pub returns-clause-first : goal.returns-clause-first
returns-clause-first c = first_only
