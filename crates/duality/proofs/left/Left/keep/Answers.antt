use Rattle.std.proofs.Common.{◌≤◌, ◌∙◌, length}
use Rattle.std.proofs.lemmas.List.{length-set}
use Rattle.std.proofs.lemmas.List.Elements.{All-set}
use Rattle.duality.proofs.Sifting.{counted_kept}
use Rattle.duality.proofs.left.Left.keep.Goals as goal

pub returns-clause-fits : goal.returns-clause-fits
returns-clause-fits g c h =
    let left = c.args.self.now in
    record {
      most = h.most;
      inside = h.inside;
      long = length-set left.counts c.args.split left.count ∙ h.long;
      kept = All-set (λ n. n ≤ length left.masks.now) left.counts c.args.split left.count h.inside h.kept;
      planes = h.planes;
      counted = counted_kept g.M.Mask.bits left c.args.split left.tallied h.counted;
    }
