-- What is found of a text, and what is printed for it.
use Rattle.std.proofs.Common.{true, false, ◌≡◌, ℕ, ◌<◌, ◌≤◌, length, Ok, Err, Result, refl, sym, ap, ◌∙◌, subst, ◌⊎◌, ⊎_elim, arith}
use Rattle.std.specs.Result.{is_ok}
use Rattle.tables.specs.Calls.{Judges, judge_permits, judge_refuses}
use Rattle.tables.specs.Refusals.{Reply, answered as answer, table_reply}
use Rattle.tables.specs.declared.fault.TableFault.{TableFault}
use Rattle.duality.specs.declared.verdict.Verdict.{Verdict}
use Rattle.sheets.specs.Bytes.{Bytes}
use Rattle.sheets.specs.Items.{ItemsCall}
use Rattle.sheets.specs.declared.items_fault.ItemsFault.{ItemsFault}
use Rattle.writing.specs.Answers.{verdict_of, Leaves, Memory, SameWords, SameLists, Finds, no_labels, in_words, in_lists, AnswerCall, answered, unanswered}
use Rattle.writing.specs.Reports.{stop_text}
use Rattle.writing.specs.TextFaults.{text_refusal, text_fault_line}
use Rattle.writing.specs.Writes.{Outputs}
use Rattle.writing.specs.declared.answer.Answer.{Answer}
use Rattle.writing.specs.declared.answer.Reported.{Reported}
use Rattle.writing.specs.declared.fault.WriteFault.{WriteFault}
use Rattle.writing.specs.declared.fault.WriteFault.TheVariants.{NoRoom}
use Rattle.writing.specs.declared.text_fault.TextFault.{TextFault}
use Rattle.writing.specs.declared.text_fault.TextFault.TheVariants.{Items}
use Rattle.writing.proofs.Outputting.{outputs_err, outputs_ok}

-- ---- the kind

judged : {top items : ℕ} {x : Reply (Unit {0})} → Judges top items x → (x ≡ answer tt → items ≤ top) × ((x ≡ answer tt → ⊥) → (items ≡ 0) ⊎ (top < items))
judged (judge_permits a b) = (λ e. b, λ n. absurd (n refl))
judged (judge_refuses h) = (λ e. absurd (cc), λ n. h)

pub judged_yes : {top items : ℕ} (r : Result (Unit {0}) TableFault) → true ≡ is_ok r → Judges top items (table_reply r) → items ≤ top
judged_yes (Ok x) e j = (judged j).0 refl
judged_yes (Err f) e j = absurd (cc)

pub judged_no : {top items : ℕ} (r : Result (Unit {0}) TableFault) → false ≡ is_ok r → 1 ≤ items → Judges top items (table_reply r) → top < items
judged_no (Ok x) e some j = absurd (cc)
judged_no (Err f) e some j = ⊎_elim (λ z. absurd (omega arith)) (λ h. h) ((judged j).1 (λ z. absurd (cc)))

-- ---- the answer

pub finds_no_labels : {text : Bytes} {room : ℕ} {m m' : Memory} (before : Bytes) {r : Result Reported TextFault} (fault : ItemsFault) → r ≡ Err (Items fault)
    → ItemsCall text m.labels m'.labels (Err fault) → SameWords m m' → SameLists m m' → (bytes : Bytes) × Finds text room m m' (verdict_of r) bytes × Leaves r bytes before before
finds_no_labels {text} {room} {m} {m'} before {r} fault e call words lists =
    subst (λ x. (bytes : Bytes) × Finds text room m m' (verdict_of x) bytes × Leaves x bytes before before) (sym e) (_, no_labels fault call words lists, refl)

found_stop_text : {text : Bytes} {room : ℕ} {m m' : Memory} {fault : TextFault} {bytes : Bytes} → Finds text room m m' (Err fault) bytes → bytes ≡ stop_text (text_refusal fault).number (text_fault_line fault)
found_stop_text (no_labels f call w l) = refl
found_stop_text (in_words n call le same found bytes k) = k.prints
found_stop_text (in_lists n call gt same found bytes k) = k.prints

module _ {text : Bytes} {m m' : Memory} {before : Bytes} where
  pub answer_report : {n : ℕ} {v : Verdict} {bytes after : Bytes} → Finds text (length before) m m' (Ok v) bytes → Leaves (Ok (record { len = n; verdict = v })) bytes before after
      → AnswerCall text (length before) m m' before (Ok (record { len = n; found = Ok v })) after
  answer_report {n} {v} {bytes} {after} finds leaves =
      subst (λ k. AnswerCall text (length before) m m' before (Ok (record { len = k; found = Ok v })) after) (sym leaves.0)
      (subst (λ (z : Bytes). AnswerCall text (length before) m m' before (Ok (record { len = length bytes; found = Ok v })) z) (sym leaves.2) (answered (Ok v) bytes finds leaves.1))

  module _ {fault : TextFault} {bytes between line : Bytes} (finds : Finds text (length before) m m' (Err fault) bytes) (leaves : between ≡ before) (is : line ≡ stop_text (text_refusal fault).number (text_fault_line fault)) where
    line_outputs : {r : Result ℕ WriteFault} {after : Bytes} → Outputs line between r after → Outputs bytes before r after
    line_outputs {r} {after} out = subst (λ (z : Bytes). Outputs z before r after) (is ∙ sym (found_stop_text finds)) (subst (λ (z : Bytes). Outputs line z r after) leaves out)

    pub answer_stop : {after : Bytes} {n : ℕ} → Outputs line between (Ok n) after → AnswerCall text (length before) m m' before (Ok (record { len = n; found = Err fault })) after
    answer_stop {after} {n} out =
        let o = outputs_ok (line_outputs out) in
        subst (λ k. AnswerCall text (length before) m m' before (Ok (record { len = k; found = Err fault })) after) (sym o.number)
        (subst (λ (z : Bytes). AnswerCall text (length before) m m' before (Ok (record { len = length bytes; found = Err fault })) z) (sym o.bytes) (answered (Err fault) bytes finds o.fits))

    pub answer_no_room : {after : Bytes} {r : Result Answer WriteFault} {f : WriteFault} → r ≡ Err f → Outputs line between (Err f) after → AnswerCall text (length before) m m' before r after
    answer_no_room {after} {r} {f} e out =
        let o = outputs_err (line_outputs out) in
        subst (λ x. AnswerCall text (length before) m m' before x after) (sym (e ∙ ap Err o.fault_is))
        (subst (λ (z : Bytes). AnswerCall text (length before) m m' before (Err (NoRoom (length bytes))) z) (sym o.same) (unanswered (Err fault) bytes finds o.short))
