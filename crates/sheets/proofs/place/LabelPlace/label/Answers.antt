use Rattle.std.proofs.Common.{refl, rules}
use Rattle.sheets.proofs.Naming.{cut_named}
use Rattle.sheets.proofs.place.LabelPlace.label.Goals as goal

pub returns : goal.returns
returns c = rw c.unwrap_or.ensures (cut_named c.args.text.now c.args.self.now c.get.result c.and_then.result _ c.get.ensures.lookup (search rules) refl)
