-- What tables have that are opened over the lent places.
use Rattle.std.proofs.Common.{◌≡◌, ℕ, min, List, length, ap, ◌∙◌}
use Rattle.sets.specs.Sets.{Numbers}
use Rattle.sets.specs.declared.kind.SetKind.{Ghosts}
use Rattle.tables.specs.Tables.{Opened}
use Rattle.tables.specs.declared.row.Row.{Row}
use Rattle.tables.specs.declared.table.Table.{Table}

pub opened_capacity : {X : Type 0} {G : Ghosts X} {mem : X → Numbers} {n : ℕ} {memory : List (Row X)} {T : Table X G} → length memory ≡ 1000 → Opened mem n memory T → T.capacity ≡ 1000
opened_capacity places o = o.capacity ∙ ap (λ k. min 4096 k) places
