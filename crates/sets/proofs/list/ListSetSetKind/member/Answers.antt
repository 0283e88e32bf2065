use Rattle.std.proofs.Common.{take, ◌∙◌}
use Rattle.sets.specs.Sets.{listed}
use Rattle.sets.proofs.Lists.{own_first}
use Rattle.sets.proofs.list.ListSetSetKind.member.Goals as goal

pub returns : goal.returns
returns c =
    c.eq.ensures ∙ own_first (listed (take c.args.self.now.len c.args.self.now.numbers)) c.args.k c.next.result c.next.ensures
