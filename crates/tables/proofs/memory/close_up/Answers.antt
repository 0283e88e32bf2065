use Rattle.tables.proofs.Changing.{closed}
use Rattle.tables.proofs.memory.close_up.Goals as goal

pub returns-clause-others : goal.returns-clause-others
returns-clause-others g c = closed _ _ _ _ c.requires c.rotate_left.ensures.after c.empty.ensures
