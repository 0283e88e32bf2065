use Rattle.sheets.proofs.Determined.{determined, items_back}
use Rattle.sheets.proofs.round_trip.items_round_trip.Goals as goal

pub returns : goal.returns
returns c = record { determined = determined; comes_back = items_back }
