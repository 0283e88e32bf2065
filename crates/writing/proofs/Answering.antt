-- What is printed for a text: its rows read into two fresh tables, and their report written.
use Rattle.std.proofs.Common.{◌≡◌, ℕ, ◌≤◌, min, List, [], ◌++◌, length, drop, map, Ok, Err, Result, refl, sym, ap, ◌∙◌, subst, arith}
use Rattle.sets.specs.Sets.{Numbers}
use Rattle.sets.specs.declared.kind.SetKind.{Ghosts}
use Rattle.tables.specs.Pasts.{Past}
use Rattle.tables.specs.Pasts.Past.{opened}
use Rattle.tables.specs.Tables.{places, Holds, Kept, Left, Opened}
use Rattle.tables.specs.declared.row.Row.{Row}
use Rattle.tables.specs.declared.table.Table.{Table}
use Rattle.tables.proofs.Keeping.{left}
use Rattle.tables.proofs.Reading.{standing_many}
use Rattle.duality.specs.Verdicts.{Audited}
use Rattle.duality.specs.declared.verdict.Verdict.{Verdict}
use Rattle.sheets.specs.Bytes.{Bytes}
use Rattle.sheets.specs.Labels.{named}
use Rattle.sheets.proofs.Calling.{Called}
use Rattle.sheets.specs.RowsCalls.{RowsCall, rows_read}
use Rattle.sheets.specs.declared.place.LabelPlace.{LabelPlace}
use Rattle.sheets.specs.declared.rows_fault.RowsFault.{RowsFault}
use Rattle.writing.specs.Answers.{printed, Reports, row_refused, reported, not_reported, KindAnswer, verdict_of, Leaves}
use Rattle.writing.specs.Reports.{report_text}
use Rattle.writing.specs.Writes.{Outputs}
use Rattle.writing.specs.declared.answer.Reported.{Reported}
use Rattle.writing.specs.declared.fault.WriteFault.{WriteFault}
use Rattle.writing.specs.declared.fault.WriteFault.TheVariants.{NoRoom}
use Rattle.writing.specs.declared.text_fault.TextFault.{TextFault}
use Rattle.writing.specs.declared.text_fault.TextFault.TheVariants.{Rows, Write}
use Rattle.writing.proofs.Outputting.{outputs_err, outputs_ok}

-- ---- rows read into two tables that were opened for them

record ReadIn {X : Type 0} {G : Ghosts X} (mem : X → Numbers) (holds : Numbers → Type 0) (text : Bytes) (labels : List LabelPlace) (paths paths' cuts cuts' : List (Row X)) (P C : Table X G) (reply : Result (Unit {0}) RowsFault) : Type 0 where
  ps : List Numbers
  cs : List Numbers
  hold_paths : Holds mem P (length labels) ps
  hold_cuts : Holds mem C (length labels) cs
  past : Past (length labels) P.capacity C.capacity holds ps cs
  call : RowsCall (length labels) (length labels) (min 4096 (length paths)) (min 4096 (length cuts)) holds text labels [] [] reply ps cs
  path_memory : Left mem paths paths' (min 4096 (length paths)) (length ps) ps
  cut_memory : Left mem cuts cuts' (min 4096 (length cuts)) (length cs) cs

pub text_short : {n a b : ℕ} {holds : Numbers → Type 0} {text : Bytes} {labels : List LabelPlace} {ps cs qs ds : List Numbers} → RowsCall n n a b holds text labels ps cs (Ok tt) qs ds → length text ≤ 65535
text_short (rows_read lines rest r qs ds fit short skips read) = short

-- what is answered for the labels at these places
abbrev Answered : {X : Type 0} → (X → Numbers) → (Numbers → Type 0) → Bytes → List LabelPlace → List (Row X) → List (Row X) → List (Row X) → List (Row X) → Bytes → Result Reported TextFault → Bytes → Type 0
Answered mem holds text labels paths paths' cuts cuts' before r after = (bytes : Bytes) × KindAnswer mem holds text labels paths paths' cuts cuts' (length before) (verdict_of r) bytes × Leaves r bytes before after

module _ {X : Type 0} {G : Ghosts X} {mem : X → Numbers} {holds : Numbers → Type 0} {text : Bytes} {labels : List LabelPlace} {paths paths' cuts cuts' : List (Row X)} {P₀ P C₀ C : Table X G}
    (op : Opened mem (length labels) paths P₀) (oc : Opened mem (length labels) cuts C₀) (kp : Kept P₀ P) (kc : Kept C₀ C) (ep : paths' ≡ places P) (ec : cuts' ≡ places C) where
  read_in : {reply : Result (Unit {0}) RowsFault} → Called mem holds text labels P₀ C₀ reply P C → ReadIn mem holds text labels paths paths' cuts cuts' P C reply
  read_in {reply} reads =
      let n = length labels in
      let w = reads n n [] [] op.empty oc.empty in
      let a = op.capacity in
      let b = oc.capacity in
      record {
        ps = w.0;
        cs = w.1;
        hold_paths = w.2;
        hold_cuts = w.3;
        past = subst (λ k. Past n k C.capacity holds w.0 w.1) (sym kp.capacity) (subst (λ k. Past n P₀.capacity k holds w.0 w.1) (sym kc.capacity) (w.4 opened));
        call = subst (λ k. RowsCall n n k (min 4096 (length cuts)) holds text labels [] [] reply w.0 w.1) a (subst (λ k. RowsCall n n P₀.capacity k holds text labels [] [] reply w.0 w.1) b w.5);
        path_memory = left (min 4096 (length paths)) a op.length (λ k d h. op.beyond k d (omega (arith, a))) kp w.2 ep (standing_many (omega (arith, P.fits, P.inside)) w.2.standing);
        cut_memory = left (min 4096 (length cuts)) b oc.length (λ k d h. oc.beyond k d (omega (arith, b))) kc w.3 ec (standing_many (omega (arith, C.fits, C.inside)) w.3.standing);
      }

  answered : {reply : Result (Unit {0}) RowsFault} (w : ReadIn mem holds text labels paths paths' cuts cuts' P C reply) (room : ℕ) (found : Result Verdict TextFault) → Reports (length labels) (map (named text) labels) w.ps w.cs room reply found
      → KindAnswer mem holds text labels paths paths' cuts cuts' room found (printed (map (named text) labels) w.ps w.cs found)
  answered {reply} w room found reports = record { reply = reply; ps = w.ps; cs = w.cs; call = w.call; reports = reports; prints = refl; path_memory = w.path_memory; cut_memory = w.cut_memory }

  -- a row is refused
  pub answered_refused : (before : Bytes) {r : Result Reported TextFault} {fault : RowsFault} → r ≡ Err (Rows fault) → Called mem holds text labels P₀ C₀ (Err fault) P C
      → Answered mem holds text labels paths paths' cuts cuts' before r before
  answered_refused before {r} {fault} e reads =
      subst (λ x. Answered mem holds text labels paths paths' cuts cuts' before x before) (sym e) (_, answered (read_in reads) (length before) (Err (Rows fault)) (row_refused fault), refl)

  -- the rows are read
  module _ (reads : Called mem holds text labels P₀ C₀ (Ok tt) P C) where
    pub audit_not_refused : {T : Type 0} → 1 ≤ length labels → ((n : ℕ) (ps cs : List Numbers) → Past n P.capacity C.capacity holds ps cs → Holds mem P n ps → Holds mem C n cs → n ≡ 0) → T
    audit_not_refused some none = let w = read_in reads in let e = none (length labels) w.ps w.cs w.past w.hold_paths w.hold_cuts in absurd (omega arith)

    module _ {a b : ℕ} {v : Verdict}
        (says : (n : ℕ) (ps cs : List Numbers) → Past n P.capacity C.capacity holds ps cs → Holds mem P n ps → Holds mem C n cs → Audited n ps cs v)
        (paths_many : (n : ℕ) (ps : List Numbers) → Holds mem P n ps → a ≡ length ps) (cuts_many : (n : ℕ) (cs : List Numbers) → Holds mem C n cs → b ≡ length cs) where
      report_same : (w : ReadIn mem holds text labels paths paths' cuts cuts' P C (Ok tt)) → report_text (map (named text) labels) a b v ≡ report_text (map (named text) labels) (length w.ps) (length w.cs) v
      report_same w =
          let n = length labels in
          let names = map (named text) labels in
          ap (λ k. report_text names k b v) (paths_many n w.ps w.hold_paths) ∙ ap (λ k. report_text names (length w.ps) k v) (cuts_many n w.cs w.hold_cuts)

      pub answered_reported : (before after : Bytes) {n : ℕ} → Outputs (report_text (map (named text) labels) a b v) before (Ok n) after → Answered mem holds text labels paths paths' cuts cuts' before (Ok (record { len = n; verdict = v })) after
      answered_reported before after out =
          let w = read_in reads in
          let e = report_same w in
          let o = outputs_ok out in
          let long = ap length e in
          let audited = says (length labels) w.ps w.cs w.past w.hold_paths w.hold_cuts in
          (_, answered w (length before) (Ok v) (reported v audited (omega (arith, long, o.fits))), (o.number ∙ long, omega (arith, long, o.fits), o.bytes ∙ ap (λ (z : Bytes). z ++ drop (length z) before) e))

      pub answered_short : (before after : Bytes) {r : Result Reported TextFault} {fault : WriteFault} → r ≡ Err (Write fault) → Outputs (report_text (map (named text) labels) a b v) before (Err fault) after → Answered mem holds text labels paths paths' cuts cuts' before r after
      answered_short before after {r} {fault} e out =
          let w = read_in reads in
          let o = outputs_err out in
          let long = ap length (report_same w) in
          let audited = says (length labels) w.ps w.cs w.past w.hold_paths w.hold_cuts in
          let is : r ≡ Err (Write (NoRoom (length (report_text (map (named text) labels) (length w.ps) (length w.cs) v)))) = e ∙ ap (λ f. Err (Write f)) (o.fault_is ∙ ap NoRoom long) in
          subst (λ x. Answered mem holds text labels paths paths' cuts cuts' before x after) (sym is) (_, answered w (length before) _ (not_reported v audited (omega (arith, long, o.short))), o.same)
