-- The places so far have their marks.
use Rattle.std.proofs.Common.{◌≡◌, ℕ, ◌<◌, if◌then◌else◌, get_or}
use Rattle.systems.specs.States.{up}
use Rattle.clib.proofs.audits.mark.Given as goal

abbrev pub invariant-loop-item : goal.invariant-loop-item
invariant-loop-item l = (k : ℕ) → k < l.item → get_or l.marks k 0 ≡ (if up l.state k then 1 else 0)
