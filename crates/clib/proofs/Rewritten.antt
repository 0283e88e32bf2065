-- A text read and written again.
use Rattle.std.proofs.Common.{◌≡◌, ℕ, ◌≤◌, List, [], ◌++◌, map, length, take, drop, Ok, Err, Result, refl, sym, ap, ◌∙◌, subst, arith}
use Rattle.std.proofs.lemmas.List.{take_at, length-take-le}
use Rattle.sets.specs.Sets.{Numbers}
use Rattle.sets.specs.declared.kind.SetKind.{Ghosts}
use Rattle.tables.specs.Pasts.{Past}
use Rattle.tables.specs.Pasts.Past.{opened}
use Rattle.tables.specs.Tables.{Holds, Kept, Opened}
use Rattle.tables.specs.declared.row.Row.{Row}
use Rattle.tables.specs.declared.table.Table.{Table}
use Rattle.duality.specs.declared.fault.PairFault.{PairFault}
use Rattle.sheets.specs.Bytes.{Bytes}
use Rattle.sheets.specs.Counts.{Counts, paths_closed, cuts_closed, tables_differ, labels_differ}
use Rattle.sheets.specs.Items.{ItemsCall}
use Rattle.sheets.specs.Labels.{named}
use Rattle.sheets.specs.declared.items_fault.ItemsFault.{ItemsFault}
use Rattle.sheets.specs.RowsCalls.{RowsCall}
use Rattle.sheets.specs.declared.place.LabelPlace.{LabelPlace}
use Rattle.sheets.specs.declared.rows_fault.RowsFault.{RowsFault}
use Rattle.writing.specs.RoundTrips.{ReadsBack, LabelsRead}
use Rattle.writing.specs.SheetTexts.{sheet_text}
use Rattle.writing.specs.Writes.{Checks, not_fit, too_long, Outputs, Writes, not_written, writes}
use Rattle.writing.specs.declared.fault.WriteFault.{WriteFault}
use Rattle.writing.specs.declared.fault.WriteFault.TheVariants.{NoRoom}
use Rattle.writing.specs.declared.text_fault.TextFault.{TextFault}
use Rattle.writing.specs.declared.text_fault.TextFault.TheVariants.{Items, Rows, Write}
use Rattle.sheets.proofs.Calling.{Called}
use Rattle.writing.proofs.Answering.{text_short}
use Rattle.writing.proofs.ReadLabels.{labels_many}
use Rattle.writing.proofs.Outputting.{outputs_err, outputs_ok}
use Rattle.clib.proofs.Tables.{opened_capacity}
use Rattle.clib.specs.SheetCalls.{KindSheet, row_refused, not_rewritten, rewritten, TextSheet, no_labels, in_words, in_lists}

-- ---- the writing of rows that were read is refused only for its room

never_unfit : {T : Type 0} {n : ℕ} {fault : PairFault} → 1 ≤ n → Counts n n n (Err fault) → T
never_unfit some (paths_closed e) = absurd (omega arith)
never_unfit some (cuts_closed a e) = absurd (omega arith)
never_unfit some (tables_differ a b ne) = absurd (ne refl)
never_unfit some (labels_differ a e ne) = absurd (ne refl)

never_checked : {T : Type 0} {n : ℕ} {text : Bytes} {fault : WriteFault} → 1 ≤ n → length text ≤ 65535 → Checks n n text n (Err fault) → T
never_checked some short (not_fit fault counts) = never_unfit some counts
never_checked some short (too_long counts long) = absurd (omega arith)

written : {n : ℕ} {text : Bytes} {P : Bytes → Type 0} {before after : Bytes} {r : Result ℕ WriteFault} → 1 ≤ n → length text ≤ 65535 → Writes n n text n P before r after
    → (bs : Bytes) × P bs × Outputs bs before r after
written some short (not_written fault checks) = never_checked some short checks
written some short (writes bs r after checks is out) = (bs, is, out)

-- ---- rows read into two tables that were opened for them

record ReadIn {X : Type 0} {G : Ghosts X} (mem : X → Numbers) (holds : Numbers → Type 0) (text : Bytes) (labels : List LabelPlace) (P C : Table X G) (reply : Result (Unit {0}) RowsFault) : Type 0 where
  ps : List Numbers
  cs : List Numbers
  hold_paths : Holds mem P (length labels) ps
  hold_cuts : Holds mem C (length labels) cs
  past : Past (length labels) P.capacity C.capacity holds ps cs
  call : RowsCall (length labels) (length labels) 1000 1000 holds text labels [] [] reply ps cs

-- what `write_sheet` promises of the tables P and C
abbrev Writing : {X : Type 0} {G : Ghosts X} → (X → Numbers) → Bytes → List LabelPlace → Table X G → Table X G → Bytes → Result ℕ WriteFault → Bytes → Type 0
Writing mem text labels P C before r after = (p c : ℕ) (ps cs : List Numbers) → Holds mem P p ps → Holds mem C c cs
    → Writes p c text (length labels) (λ bs. bs ≡ sheet_text (map (named text) labels) ps cs) before r after

module _ {X : Type 0} {G : Ghosts X} {mem : X → Numbers} {holds : Numbers → Type 0} {text : Bytes} {labels : List LabelPlace} {paths cuts : List (Row X)} {P₀ P C₀ C : Table X G}
    (path_places : length paths ≡ 1000) (cut_places : length cuts ≡ 1000) (op : Opened mem (length labels) paths P₀) (oc : Opened mem (length labels) cuts C₀) (kp : Kept P₀ P) (kc : Kept C₀ C) where
  read_in : {reply : Result (Unit {0}) RowsFault} → Called mem holds text labels P₀ C₀ reply P C → ReadIn mem holds text labels P C reply
  read_in {reply} reads =
      let n = length labels in
      let w = reads n n [] [] op.empty oc.empty in
      record {
        ps = w.0;
        cs = w.1;
        hold_paths = w.2;
        hold_cuts = w.3;
        past = subst (λ k. Past n k C.capacity holds w.0 w.1) (sym kp.capacity) (subst (λ k. Past n P₀.capacity k holds w.0 w.1) (sym kc.capacity) (w.4 opened));
        call = subst (λ k. RowsCall n n k 1000 holds text labels [] [] reply w.0 w.1) (opened_capacity path_places op) (subst (λ k. RowsCall n n P₀.capacity k holds text labels [] [] reply w.0 w.1) (opened_capacity cut_places oc) w.5);
      }

  pub sheet_refused : (before : Bytes) {r : Result ℕ TextFault} {fault : RowsFault} → r ≡ Err (Rows fault) → Called mem holds text labels P₀ C₀ (Err fault) P C → KindSheet holds text labels before r before
  sheet_refused before {r} {fault} e reads = let w = read_in reads in subst (λ x. KindSheet holds text labels before x before) (sym e) (row_refused fault w.ps w.cs w.call)

  module _ (some : 1 ≤ length labels) (reads : Called mem holds text labels P₀ C₀ (Ok tt) P C) where
    pub sheet_short : (before after : Bytes) {r : Result ℕ TextFault} {fault : WriteFault} → r ≡ Err (Write fault) → Writing mem text labels P C before (Err fault) after → KindSheet holds text labels before r after
    sheet_short before after {r} {fault} e writing =
        let n = length labels in
        let w = read_in reads in
        let got = written some (text_short w.call) (writing n n w.ps w.cs w.hold_paths w.hold_cuts) in
        let o = outputs_err got.2 in
        let long = ap length got.1 in
        let is : r ≡ Err (Write (NoRoom (length (sheet_text (map (named text) labels) w.ps w.cs)))) = e ∙ ap (λ f. Err (Write f)) (o.fault_is ∙ ap NoRoom long) in
        subst (λ (z : Bytes). KindSheet holds text labels before r z) (sym o.same)
        (subst (λ x. KindSheet holds text labels before x before) (sym is) (not_rewritten w.ps w.cs w.call (omega (arith, long, o.short))))

    pub sheet_whole : (before after : Bytes) {len : ℕ} → LabelsRead text labels → Writing mem text labels P C before (Ok len) after
        → ((n : ℕ) (ps cs : List Numbers) → Past n P.capacity C.capacity holds ps cs → Holds mem P n ps → Holds mem C n cs → LabelsRead text labels
        → len ≤ 65535 → ReadsBack n P.capacity C.capacity holds (map (named text) labels) ps cs (take len after))
        → KindSheet holds text labels before (Ok len) after
    sheet_whole before after {len} labels_read writing back =
        let n = length labels in
        let names = map (named text) labels in
        let w = read_in reads in
        let got = written some (text_short w.call) (writing n n w.ps w.cs w.hold_paths w.hold_cuts) in
        let o = outputs_ok got.2 in
        let again = sheet_text names w.ps w.cs in
        let long = ap length got.1 in
        let many : len ≡ length again = o.number ∙ long in
        let bytes : after ≡ again ++ drop (length again) before = o.bytes ∙ ap (λ (z : Bytes). z ++ drop (length z) before) got.1 in
        let front : take len after ≡ again = ap (λ k. take k after) many ∙ ap (λ (z : Bytes). take (length again) z) bytes ∙ take_at again (drop (length again) before) (length again) refl in
        let comes : length again ≤ 65535 → ReadsBack n 1000 1000 holds names w.ps w.cs again =
        λ small. subst (λ k. ReadsBack n k 1000 holds names w.ps w.cs again) (kp.capacity ∙ opened_capacity path_places op) (subst (λ k. ReadsBack n P.capacity k holds names w.ps w.cs again) (kc.capacity ∙ opened_capacity cut_places oc)
        (subst (λ (z : Bytes). ReadsBack n P.capacity C.capacity holds names w.ps w.cs z) front (back n w.ps w.cs w.past w.hold_paths w.hold_cuts labels_read (omega (arith, many))))) in
        subst (λ (z : Bytes). KindSheet holds text labels before (Ok len) z) (sym bytes)
        (subst (λ k. KindSheet holds text labels before (Ok k) (again ++ drop (length again) before)) (sym many) (rewritten w.ps w.cs w.call (omega (arith, long, o.fits)) comes))

-- ---- the labels

pub sheet_no_labels : {text : Bytes} {places places' : List LabelPlace} (before : Bytes) {r : Result ℕ TextFault} (fault : ItemsFault) → r ≡ Err (Items fault) → length places ≡ 256
    → ItemsCall text places places' (Err fault) → TextSheet text before r before
sheet_no_labels {text} {places} {places'} before {r} fault e long call = subst (λ x. TextSheet text before x before) (sym e) (no_labels places places' fault long call)

pub labels_taken : {text : Bytes} {before after : List LabelPlace} {n : ℕ} → ItemsCall text before after (Ok n) → LabelsRead text (take n after)
labels_taken {text} {before} {after} {n} call =
    let all : length (take n after) ≡ n = length-take-le n after (labels_many call).inside in
    record {
      before = before;
      after = after;
      call = subst (λ k. ItemsCall text before after (Ok k)) (sym all) call;
      first = ap (λ k. take k after) (sym all);
    }

-- ---- the numbers that are handed out

kind_len : {holds : Numbers → Type 0} {text : Bytes} {labels : List LabelPlace} {before after : Bytes} {len : ℕ} → KindSheet holds text labels before (Ok len) after → len ≤ length before
kind_len (rewritten ps cs read fits comes) = fits

pub sheet_len : {text before after : Bytes} {len : ℕ} → TextSheet text before (Ok len) after → len ≤ length before
sheet_len (in_words places places' n long call few r after sheet) = kind_len sheet
sheet_len (in_lists places places' n long call many r after sheet) = kind_len sheet
