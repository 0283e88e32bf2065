-- The call that audits rows in numbers. Assumes nothing.
--
--   KindAudit      of rows that are put into two fresh tables of n items and of 1,000 places each, the paths first: the item count or a row is
--                  refused, or the tables are audited
--   RowsAudit      the same in words where the kind is 0, and else in lists
--   audit_code r   the number of the verdict, or minus the number of the refusal
--   Marked         the marks of the state that the verdict shows, 1 where an item is up, are written over `before`; none where it shows none
--   AuditCall      what the call answers
use Rattle.std.specs.Prelude.{◌≡◌, ◌≢◌, ℕ, ◌≤◌, ℤ, pos, neg_ℤ, List, [], length, slice_index, EachIndex, if◌then◌else◌, Ok, Err, Result}
use Rattle.sets.specs.Sets.{Numbers, Below}
use Rattle.sets.specs.Rising.{Sixteen}
use Rattle.systems.specs.States.{up}
use Rattle.systems.specs.declared.state.State.{State}
use Rattle.tables.specs.Calls.{Judges}
use Rattle.tables.specs.Refusals.{refused, table_refusal}
use Rattle.tables.specs.declared.fault.TableFault.{TableFault}
use Rattle.duality.specs.Verdicts.{Audited}
use Rattle.duality.specs.declared.verdict.Verdict.{Verdict}
use Rattle.duality.specs.declared.verdict.Verdict.TheVariants.{Same, Miss, Both}
use Rattle.sheets.specs.Bytes.{Bytes}
use Rattle.clib.specs.Fills.{Fills}

module _ (top : ℕ) (holds : Numbers → Type 0) (n : ℕ) (paths cuts : List (List ℕ)) where
  pub data KindAudit : Result Verdict TableFault → Type 0 where
    not_permitted : (fault : TableFault) → Judges top n (refused (table_refusal fault).number (table_refusal fault).values) → KindAudit (Err fault)
    path_refused : (ps : List Numbers) (fault : TableFault) → 1 ≤ n → n ≤ top → Fills n 1000 holds [] paths (Err fault) ps → KindAudit (Err fault)
    cut_refused : (ps cs : List Numbers) (fault : TableFault) → 1 ≤ n → n ≤ top → Fills n 1000 holds [] paths (Ok tt) ps
        → Fills n 1000 holds [] cuts (Err fault) cs → KindAudit (Err fault)
    audited : (ps cs : List Numbers) (v : Verdict) → 1 ≤ n → n ≤ top → Fills n 1000 holds [] paths (Ok tt) ps
        → Fills n 1000 holds [] cuts (Ok tt) cs → Audited n ps cs v → KindAudit (Ok v)

pub data RowsAudit (kind n : ℕ) (paths cuts : List (List ℕ)) (r : Result Verdict TableFault) : Type 0 where
  in_words : kind ≡ 0 → KindAudit 64 (Below 64) n paths cuts r → RowsAudit kind n paths cuts r
  in_lists : kind ≢ 0 → KindAudit 256 Sixteen n paths cuts r → RowsAudit kind n paths cuts r

abbrev pub audit_code : Result Verdict TableFault → ℤ
audit_code (Ok Same) = pos 0
audit_code (Ok (Miss s)) = pos 1
audit_code (Ok (Both s)) = pos 2
audit_code (Err fault) = neg_ℤ (pos (table_refusal fault).number)

abbrev pub MarksOf : State → Bytes → Type 0
MarksOf s marks = EachIndex marks (λ k. slice_index marks k ≡ (if up s k then 1 else 0))

abbrev pub Marked : Result Verdict TableFault → Bytes → Bytes → Type 0
Marked (Ok Same) before after = after ≡ before
Marked (Ok (Miss s)) before after = (length after ≡ length before) × MarksOf s after
Marked (Ok (Both s)) before after = (length after ≡ length before) × MarksOf s after
Marked (Err fault) before after = after ≡ before

pub record AuditCall (kind n : ℕ) (paths cuts : List (List ℕ)) (before : Bytes) (code : ℤ) (after : Bytes) : Type 0 where
  pub answer : Result Verdict TableFault
  pub audit : RowsAudit kind n paths cuts answer
  pub code_is : code ≡ audit_code answer
  pub marked : Marked answer before after
