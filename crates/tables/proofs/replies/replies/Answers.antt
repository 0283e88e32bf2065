use Rattle.tables.proofs.Determined.{one_reply}
use Rattle.tables.proofs.replies.replies.Goals as goal

pub returns : goal.returns
returns g c = one_reply g.K.SetKind.holds
