-- The second reading call, with its tables.
use Rattle.std.proofs.Common.{◌≡◌, ℕ, ◌+◌, ◌<◌, ◌≤◌, List, length, drop, map, Ok, Err, Result, sym, subst}
use Rattle.sets.specs.Sets.{Numbers, nothing}
use Rattle.sets.specs.declared.kind.SetKind.{Ghosts}
use Rattle.tables.specs.Pasts.{Past}
use Rattle.tables.specs.Tables.{Holds}
use Rattle.tables.specs.declared.table.Table.{Table}
use Rattle.duality.specs.declared.fault.PairFault.{PairFault}
use Rattle.sheets.specs.Bytes.{Bytes}
use Rattle.sheets.specs.Counts.{Counts, counts_fit}
use Rattle.sheets.specs.Labels.{named}
use Rattle.sheets.specs.Rows.{RowsRead}
use Rattle.sheets.specs.RowsCalls.{RowsCall, not_fit, too_long, rows_read}
use Rattle.sheets.specs.RowsFaults.{unfit}
use Rattle.sheets.specs.Skips.{Skipped}
use Rattle.sheets.specs.declared.place.LabelPlace.{LabelPlace}
use Rattle.sheets.specs.declared.rows_fault.RowsFault.{RowsFault}
use Rattle.sheets.specs.declared.rows_fault.RowsFault.TheVariants.{TooLong}
use Rattle.sheets.specs.declared.skipping.Spot.{Spot}
use Rattle.sheets.proofs.RowsPast.{read_past}
use Rattle.sheets.proofs.TablesGoing.{Read}

one_count : (p c l : ℕ) → Counts p c l (Ok tt) → p ≡ c
one_count p c l (counts_fit pos e f) = e

-- what `read_rows` says of tables
abbrev pub Called : {X : Type 0} {G : Ghosts X} → (X → Numbers) → (Numbers → Type 0) → Bytes → List LabelPlace → Table X G → Table X G → Result (Unit {0}) RowsFault → Table X G → Table X G → Type 0
Called mem holds text places P C r P' C' = (p c : ℕ) (ps cs : List Numbers) → Holds mem P p ps → Holds mem C c cs
    → (qs ds : List Numbers) × Holds mem P' p qs × Holds mem C' c ds × (Past p P.capacity C.capacity holds ps cs → Past p P.capacity C.capacity holds qs ds)
    × RowsCall p c P.capacity C.capacity holds text places ps cs r qs ds

module _ {X : Type 0} {G : Ghosts X} (mem : X → Numbers) (holds : Numbers → Type 0) (none : holds nothing) (text : Bytes) (places : List LabelPlace) (P C : Table X G) where
  counted : (r : Result (Unit {0}) PairFault) (p c : ℕ) (ps cs : List Numbers) → Counts P.items C.items (length places) r → Holds mem P p ps → Holds mem C c cs → Counts p c (length places) r
  counted r p c ps cs h hp hc = subst (λ (k : ℕ). Counts p k (length places) r) hc.items (subst (λ (k : ℕ). Counts k C.items (length places) r) hp.items h)

  pub called_unfit : (fault : PairFault) → Counts P.items C.items (length places) (Err fault) → Called mem holds text places P C (Err (unfit fault)) P C
  called_unfit fault h p c ps cs hp hc = (ps, cs, hp, hc, (λ past. past), not_fit fault (counted (Err fault) p c ps cs h hp hc))

  pub called_long : Counts P.items C.items (length places) (Ok tt) → 65535 < length text → Called mem holds text places P C (Err (TooLong (length text))) P C
  called_long h long p c ps cs hp hc = (ps, cs, hp, hc, (λ past. past), too_long (counted (Ok tt) p c ps cs h hp hc) long)

  pub called_read : (P' C' : Table X G) (s : Spot) (r : Result (Unit {0}) RowsFault) → Counts P.items C.items (length places) (Ok tt) → length text ≤ 65535 → Skipped text s
      → Read mem holds (map (named text) places) (drop s.at text) s.nth P C r P' C' → Called mem holds text places P C r P' C'
  called_read P' C' s r h short k read p c ps cs hp hc =
      let fit = counted (Ok tt) p c ps cs h hp hc in
      let e = one_count p c (length places) fit in
      let d = read p ps cs hp (subst (λ (n : ℕ). Holds mem C n cs) (sym e) hc) in
      let names = map (named text) places in
      let is : RowsRead p P.capacity C.capacity holds names (drop s.at text) (k.lines + 1) ps cs r d.0 d.1 =
      subst (λ (n : ℕ). RowsRead p P.capacity C.capacity holds names (drop s.at text) n ps cs r d.0 d.1) k.number d.4 in (
        d.0,
        d.1,
        d.2,
        subst (λ (n : ℕ). Holds mem C' n d.1) e d.3,
        (λ past. read_past p P.capacity C.capacity holds none names (drop s.at text) s.nth ps cs d.0 d.1 r d.4 past),
        rows_read k.lines (drop s.at text) r d.0 d.1 fit short k.skips is,
      )
