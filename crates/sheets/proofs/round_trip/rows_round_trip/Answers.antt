use Rattle.sheets.proofs.OneReading.{one_reading}
use Rattle.sheets.proofs.RowsReturning.{rows_come_back}
use Rattle.sheets.proofs.round_trip.rows_round_trip.Goals as goal

pub returns : goal.returns
returns g c = record { determined = one_reading g.K.SetKind.holds; comes_back = rows_come_back g.K.SetKind.holds }
