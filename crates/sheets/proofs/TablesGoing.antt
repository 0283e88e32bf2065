-- The loop that puts the rows of a text, with its tables.
use Rattle.std.proofs.Common.{◌≡◌, ℕ, ◌+◌, ◌<◌, ◌≤◌, List, length, drop, Ok, Err, Result, subst, arith}
use Rattle.std.proofs.lemmas.List.{drop_all, length-drop}
use Rattle.sets.specs.Sets.{Numbers}
use Rattle.sets.specs.declared.kind.SetKind.{Ghosts}
use Rattle.tables.specs.Tables.{Holds}
use Rattle.tables.specs.declared.table.Table.{Table}
use Rattle.sheets.specs.Bytes.{Bytes, Feedless}
use Rattle.sheets.specs.Lines.{Ended}
use Rattle.sheets.specs.Rows.{end_all, RowsRead, LinePut}
use Rattle.sheets.specs.declared.rows_fault.RowsFault.{RowsFault}
use Rattle.sheets.specs.declared.rows_fault.RowsFault.TheVariants.{Unformed}
use Rattle.sheets.proofs.RowsGoing.{RowsGoing, rows_start, rows_end, line_step, line_refused, feed_refused}

-- what `put_line` and `put_rows` say of tables
abbrev Line : {X : Type 0} {G : Ghosts X} → (X → Numbers) → (Numbers → Type 0) → List Bytes → Bytes → ℕ → Table X G → Table X G → Result (Unit {0}) RowsFault → Table X G → Table X G → Type 0
Line mem holds names line nth P C r P' C' = (n : ℕ) (ps cs : List Numbers) → Holds mem P n ps → Holds mem C n cs
    → (qs ds : List Numbers) × Holds mem P' n qs × Holds mem C' n ds × LinePut n P.capacity C.capacity holds names line nth ps cs r qs ds

abbrev pub Read : {X : Type 0} {G : Ghosts X} → (X → Numbers) → (Numbers → Type 0) → List Bytes → Bytes → ℕ → Table X G → Table X G → Result (Unit {0}) RowsFault → Table X G → Table X G → Type 0
Read mem holds names text first P C r P' C' = (n : ℕ) (ps cs : List Numbers) → Holds mem P n ps → Holds mem C n cs
    → (qs ds : List Numbers) × Holds mem P' n qs × Holds mem C' n ds × RowsRead n P.capacity C.capacity holds names text first ps cs r qs ds

-- the tables P and C have the rows before `rest`, which begins with the line of the number nth
abbrev pub Going : {X : Type 0} {G : Ghosts X} → (X → Numbers) → (Numbers → Type 0) → List Bytes → Bytes → ℕ → Table X G → Table X G → Table X G → Table X G → Bytes → ℕ → Type 0
Going mem holds names text first P₀ C₀ P C rest nth = (n : ℕ) (ps cs : List Numbers) → Holds mem P₀ n ps → Holds mem C₀ n cs
    → (qs ds : List Numbers) × Holds mem P n qs × Holds mem C n ds × RowsGoing n P₀.capacity C₀.capacity holds names text first ps cs rest nth qs ds

module _ {X : Type 0} {G : Ghosts X} (mem : X → Numbers) (holds : Numbers → Type 0) (names : List Bytes) where
  pub going_none : (text : Bytes) (first : ℕ) (P C : Table X G) → Going mem holds names text first P C P C text first
  going_none text first P C n ps cs hp hc = (ps, cs, hp, hc, rows_start n P.capacity C.capacity holds names text first ps cs)

  module _ (text : Bytes) (from first : ℕ) (P₀ C₀ P C : Table X G) (at nth : ℕ) (g : Going mem holds names (drop from text) first P₀ C₀ P C (drop at text) nth) where
    pub going_all : length text ≤ at → Read mem holds names (drop from text) first P₀ C₀ (Ok tt) P C
    going_all le n ps cs hp hc =
        let i = g n ps cs hp hc in
        (i.0, i.1, i.2, i.3, rows_end n P₀.capacity C₀.capacity holds names (drop from text) first ps cs (drop at text) nth i.0 i.1 i.0 i.1 (Ok tt) i.4 (end_all (drop_all at text le)))

    pub going_unended : at < length text → Feedless (drop at text) → Read mem holds names (drop from text) first P₀ C₀ (Err (Unformed nth)) P C
    going_unended lt plain n ps cs hp hc =
        let i = g n ps cs hp hc in
        let long = length-drop at text in (
          i.0,
          i.1,
          i.2,
          i.3,
          rows_end n P₀.capacity C₀.capacity holds names (drop from text) first ps cs (drop at text) nth i.0 i.1 i.0 i.1 (Err (Unformed nth)) i.4
              (feed_refused n P₀.capacity C₀.capacity holds names (drop from text) first ps cs (drop at text) nth i.0 i.1 (omega arith) plain),
        )

    module _ (kept_paths : P.capacity ≡ P₀.capacity) (kept_cuts : C.capacity ≡ C₀.capacity) (line : Bytes) (ended : Ended text at line) (P' C' : Table X G) where
      record Turn (r : Result (Unit {0}) RowsFault) (n : ℕ) (ps cs : List Numbers) : Type 0 where
        pub us : List Numbers
        pub vs : List Numbers
        pub going : RowsGoing n P₀.capacity C₀.capacity holds names (drop from text) first ps cs (drop at text) nth us vs
        pub qs : List Numbers
        pub ds : List Numbers
        pub paths : Holds mem P' n qs
        pub cuts : Holds mem C' n ds
        pub put : LinePut n P₀.capacity C₀.capacity holds names line nth us vs r qs ds

      turn_of : (r : Result (Unit {0}) RowsFault) → Line mem holds names line nth P C r P' C' → (n : ℕ) (ps cs : List Numbers) → Holds mem P₀ n ps → Holds mem C₀ n cs → Turn r n ps cs
      turn_of r put n ps cs hp hc =
          let i = g n ps cs hp hc in
          let l = put n i.0 i.1 i.2 i.3 in
          record {
            us = i.0;
            vs = i.1;
            going = i.4;
            qs = l.0;
            ds = l.1;
            paths = l.2;
            cuts = l.3;
            put = subst (λ (k : ℕ). LinePut n P₀.capacity k holds names line nth i.0 i.1 r l.0 l.1) kept_cuts
                (subst (λ (k : ℕ). LinePut n k C.capacity holds names line nth i.0 i.1 r l.0 l.1) kept_paths l.4);
          }

      pub going_more : (to : ℕ) → at + length line + 1 ≡ to → Line mem holds names line nth P C (Ok tt) P' C' → Going mem holds names (drop from text) first P₀ C₀ P' C' (drop to text) (nth + 1)
      going_more to e put n ps cs hp hc =
          let t = turn_of (Ok tt) put n ps cs hp hc in
          let next = line_step n P₀.capacity C₀.capacity holds names (drop from text) first ps cs (drop at text) line (drop (at + length line + 1) text) nth t.us t.vs t.going ended.parts t.qs t.ds t.put in
          (t.qs, t.ds, t.paths, t.cuts, subst (λ (k : ℕ). RowsGoing n P₀.capacity C₀.capacity holds names (drop from text) first ps cs (drop k text) (nth + 1) t.qs t.ds) e next)

      pub going_refused : (fault : RowsFault) → Line mem holds names line nth P C (Err fault) P' C' → Read mem holds names (drop from text) first P₀ C₀ (Err fault) P' C'
      going_refused fault put n ps cs hp hc =
          let t = turn_of (Err fault) put n ps cs hp hc in
          let end = line_refused n P₀.capacity C₀.capacity holds names (drop from text) first ps cs (drop at text) line (drop (at + length line + 1) text) nth t.us t.vs t.going ended.parts ended.plain fault t.qs t.ds t.put in
          (t.qs, t.ds, t.paths, t.cuts, rows_end n P₀.capacity C₀.capacity holds names (drop from text) first ps cs (drop at text) nth t.us t.vs t.qs t.ds (Err fault) t.going end)
