use Rattle.tables.proofs.Histories.{past_sound, calls_go_on}
use Rattle.tables.proofs.past.pasts.Goals as goal

pub returns : goal.returns
returns g c = record { sound = past_sound g.K.SetKind.holds; goes_on = calls_go_on g.K.SetKind.holds g.met.K.SetKind.none }
