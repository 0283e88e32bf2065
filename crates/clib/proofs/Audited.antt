-- Two tables filled and audited.
use Rattle.std.proofs.Common.{◌≡◌, ℕ, ◌≤◌, List, [], length, Ok, Err, Result, sym, ◌∙◌, subst, arith}
use Rattle.sets.specs.Sets.{Numbers, nothing}
use Rattle.sets.specs.declared.kind.SetKind.{Ghosts}
use Rattle.tables.specs.Calls.{Judges, judge_permits}
use Rattle.tables.specs.Pasts.{Past}
use Rattle.tables.specs.Pasts.Past.{opened}
use Rattle.tables.specs.Refusals.{answered, refused, table_refusal}
use Rattle.tables.specs.Tables.{Holds, Kept, Opened}
use Rattle.tables.specs.declared.fault.TableFault.{TableFault}
use Rattle.tables.specs.declared.row.Row.{Row}
use Rattle.tables.specs.declared.table.Table.{Table}
use Rattle.duality.specs.Verdicts.{Audited}
use Rattle.duality.specs.declared.verdict.Verdict.{Verdict}
use Rattle.clib.specs.Fills.{Fills}
use Rattle.clib.specs.AuditCalls.{KindAudit, not_permitted, path_refused, cut_refused, audited}
use Rattle.clib.proofs.Filled.{Filled, paths_past, cuts_past}
use Rattle.clib.proofs.Tables.{opened_capacity}

pub permitted : {top n : ℕ} → Judges top n (answered tt) → (1 ≤ n) × (n ≤ top)
permitted (judge_permits some few) = (some, few)

pub a_judge_refused : {top n : ℕ} {holds : Numbers → Type 0} {paths cuts : List (List ℕ)} {fault : TableFault} {r : Result Verdict TableFault} → r ≡ Err fault
    → Judges top n (refused (table_refusal fault).number (table_refusal fault).values) → KindAudit top holds n paths cuts r
a_judge_refused {top} {n} {holds} {paths} {cuts} {fault} e judged = subst (λ x. KindAudit top holds n paths cuts x) (sym e) (not_permitted fault judged)

record FillsFresh {X : Type 0} {G : Ghosts X} (mem : X → Numbers) (holds : Numbers → Type 0) (n : ℕ) (rows : List (List ℕ)) (r : Result (Unit {0}) TableFault) (T : Table X G) : Type 0 where
  qs : List Numbers
  fills : Fills n 1000 holds [] rows r qs
  hold : Holds mem T n qs

module _ {X : Type 0} {G : Ghosts X} {mem : X → Numbers} {holds : Numbers → Type 0} {n : ℕ} where
  fills_fresh : {memory : List (Row X)} {T₀ T : Table X G} {rows : List (List ℕ)} {r : Result (Unit {0}) TableFault} → length memory ≡ 1000 → Opened mem n memory T₀
      → Filled mem holds rows T₀ r T → FillsFresh mem holds n rows r T
  fills_fresh {rows = rows} {r} places o filled =
      let w = filled n [] o.empty in
      record { qs = w.0; fills = subst (λ k. Fills n k holds [] rows r w.0) (opened_capacity places o) w.1; hold = w.2 }

  pub a_path_refused : {top : ℕ} {paths cuts : List (List ℕ)} {memory : List (Row X)} {P₀ P : Table X G} {fault : TableFault} {r : Result Verdict TableFault} → 1 ≤ n → n ≤ top → length memory ≡ 1000 → Opened mem n memory P₀
      → r ≡ Err fault → Filled mem holds paths P₀ (Err fault) P → KindAudit top holds n paths cuts r
  a_path_refused {top} {paths} {cuts} {fault = fault} {r} some few places op e fp =
      let p = fills_fresh places op fp in
      subst (λ x. KindAudit top holds n paths cuts x) (sym e) (path_refused p.qs fault some few p.fills)

  module _ {top : ℕ} {paths cuts : List (List ℕ)} {path_memory cut_memory : List (Row X)} {P₀ P C₀ C : Table X G} (some : 1 ≤ n) (few : n ≤ top)
      (path_places : length path_memory ≡ 1000) (cut_places : length cut_memory ≡ 1000) (op : Opened mem n path_memory P₀) (oc : Opened mem n cut_memory C₀) (fp : Filled mem holds paths P₀ (Ok tt) P) where
    pub a_cut_refused : {fault : TableFault} {r : Result Verdict TableFault} → r ≡ Err fault → Filled mem holds cuts C₀ (Err fault) C → KindAudit top holds n paths cuts r
    a_cut_refused {fault} {r} e fc =
        let p = fills_fresh path_places op fp in
        let c = fills_fresh cut_places oc fc in
        subst (λ x. KindAudit top holds n paths cuts x) (sym e) (cut_refused p.qs c.qs fault some few p.fills c.fills)

    module _ (none : holds nothing) (kp : Kept P₀ P) (kc : Kept C₀ C) (fc : Filled mem holds cuts C₀ (Ok tt) C) where
      past : (p : FillsFresh mem holds n paths (Ok tt) P) (c : FillsFresh mem holds n cuts (Ok tt) C) → Past n P.capacity C.capacity holds p.qs c.qs
      past p c =
          subst (λ k. Past n k C.capacity holds p.qs c.qs) (sym (kp.capacity ∙ opened_capacity path_places op))
          (subst (λ k. Past n 1000 k holds p.qs c.qs) (sym (kc.capacity ∙ opened_capacity cut_places oc)) (cuts_past none c.fills (paths_past none p.fills opened)))

      pub right : {v : Verdict} → ((m : ℕ) (ps cs : List Numbers) → Past m P.capacity C.capacity holds ps cs → Holds mem P m ps → Holds mem C m cs → Audited m ps cs v)
          → KindAudit top holds n paths cuts (Ok v)
      right {v} says =
          let p = fills_fresh path_places op fp in
          let c = fills_fresh cut_places oc fc in
          audited p.qs c.qs v some few p.fills c.fills (says n p.qs c.qs (past p c) p.hold c.hold)

      pub not_refused : {T : Type 0} → ((m : ℕ) (ps cs : List Numbers) → Past m P.capacity C.capacity holds ps cs → Holds mem P m ps → Holds mem C m cs → m ≡ 0) → T
      not_refused none_fits =
          let p = fills_fresh path_places op fp in
          let c = fills_fresh cut_places oc fc in
          let e = none_fits n p.qs c.qs (past p c) p.hold c.hold in
          absurd (omega arith)
