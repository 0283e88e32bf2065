-- Tables that keep their places, and what they leave of their memory.
use Rattle.std.proofs.Common.{◌≡◌, ℕ, List, length, get_or, refl, ap, ◌∙◌, sym, subst, arith}
use Rattle.sets.specs.Sets.{Numbers}
use Rattle.sets.specs.declared.kind.SetKind.{Ghosts}
use Rattle.tables.specs.Memory.{meant, Standing, Beyond}
use Rattle.tables.specs.Tables.{places, Holds, Kept, Left}
use Rattle.tables.specs.declared.row.Row.{Row}
use Rattle.tables.specs.declared.table.Table.{Table}

pub kept_same : {X : Type 0} {G : Ghosts X} {t : Table X G} → Kept t t
kept_same = record { items = refl; capacity = refl; length = refl; beyond = λ k d h. refl; lent = refl }

pub kept_trans : {X : Type 0} {G : Ghosts X} {t u v : Table X G} → Kept t u → Kept u v → Kept t v
kept_trans a b = record {
  items = b.items ∙ a.items;
  capacity = b.capacity ∙ a.capacity;
  length = b.length ∙ a.length;
  beyond = λ k d h. b.beyond k d (omega (arith, a.capacity)) ∙ a.beyond k d h;
  lent = b.lent ∙ a.lent;
}

-- a memory over which the table P₀ was opened, and in which P is at the end
pub left : {X : Type 0} {G : Ghosts X} {mem : X → Numbers} {before after : List (Row X)} {P₀ P : Table X G} {n count : ℕ} {rows : List Numbers} (a : ℕ)
    → P₀.capacity ≡ a → length (places P₀) ≡ length before → Beyond a before (places P₀) → Kept P₀ P → Holds mem P n rows → after ≡ places P → count ≡ P.count
    → Left mem before after a count rows
left {mem = mem} {before} {after} {P₀} {P} {n} {count} {rows} a capacity long rest kept held is many = record {
  rows_stand =
      let c : P.capacity ≡ a = kept.capacity ∙ capacity in
      subst (λ (k : ℕ). Standing (meant mem) after k count rows) c
      (subst (λ (k : ℕ). Standing (meant mem) after P.capacity k rows) (sym many)
      (subst (λ (l : List (Row _)). Standing (meant mem) l P.capacity P.count rows) (sym is) held.standing));
  same_length = ap length is ∙ kept.length ∙ long;
  beyond = λ k d h. ap (λ l. get_or l k d) is ∙ kept.beyond k d (omega (arith, capacity)) ∙ rest k d h;
}
