-- The table keeps its places, and its rows give way; those from `end` on need no second look.
use Rattle.std.proofs.Common.{◌≡◌, ℕ, ◌-◌, ◌≤◌, List}
use Rattle.sets.specs.Sets.{Numbers}
use Rattle.systems.specs.Systems.{EachRow}
use Rattle.tables.specs.Rows.{Sound}
use Rattle.tables.specs.Tables.{Holds, Kept}
use Rattle.completion.specs.Completions.{PathBorne}
use Rattle.completion.proofs.Tightenings.{Tightening}
use Rattle.completion.proofs.tightening.tighten.Given as goal

abbrev pub invariant-loop-at : goal.invariant-loop-at
invariant-loop-at g l =
    let mem = g.K.SetKind.mem in
    let ψ = g.D.Drawing.means l.drawing in
    let before = l.initial.table in
    record {
      kept : Kept before l.table;
      few : l.end ≤ 4096;
      tight : (n : ℕ) (ps : List Numbers) → 1 ≤ n → Holds mem before n ps → Sound n before.capacity g.K.SetKind.holds ps → ψ.items ≡ n → EachRow ps (PathBorne ψ)
          → (rs : List Numbers) × Holds mem l.table n rs × Tightening n before.capacity g.K.SetKind.holds ψ ps rs l.at l.end;
    }

abbrev pub decreases-loop-at : goal.decreases-loop-at
decreases-loop-at g l = l.end - l.at
