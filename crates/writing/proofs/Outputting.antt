-- Bytes that are put twice: on a page without memory, which measures them, and on the output memory, if they have room.
use Rattle.std.proofs.Common.{◌≡◌, ℕ, ◌<◌, ◌≤◌, ◌++◌, length, take, drop, Ok, Err, Result, IfOk, refl, sym, ap, ◌∙◌, subst, zero-add, arith}
use Rattle.std.proofs.lemmas.List.{take_at}
use Rattle.sheets.specs.Bytes.{Bytes}
use Rattle.writing.specs.Pages.{Written, Wrote}
use Rattle.writing.specs.Writes.{Outputs, no_room, output}
use Rattle.writing.specs.declared.fault.WriteFault.{WriteFault}
use Rattle.writing.specs.declared.fault.WriteFault.TheVariants.{NoRoom}
use Rattle.writing.specs.declared.page.Page.{Page}

pub measured : {a b : Page} {bs : Bytes} {n : ℕ} → a.len ≡ 0 → Wrote a b bs → n ≡ b.len → n ≡ length bs
measured e w l = omega (arith, w.len)

pub output_no_room : {bs before : Bytes} {n : ℕ} → n ≡ length bs → length before < n → Outputs bs before (Err (NoRoom n)) before
output_no_room {bs} {before} {n} m h = subst (λ k. Outputs bs before (Err (NoRoom k)) before) (sym m) (no_room (omega arith))

-- what is put on an empty page over the memory
written_at_front : (before after bs : Bytes) → Written before after 0 bs → after ≡ bs ++ drop (length bs) before
written_at_front before after bs p = p ∙ ap (λ k. bs ++ drop k before) (zero-add (length bs))

pub output_put : {a b : Page} {bs before after : Bytes} {n : ℕ} → n ≡ length bs → n ≤ length before → a.memory.now ≡ before → a.len ≡ 0 → Wrote a b bs → after ≡ b.memory.now → Outputs bs before (Ok n) after
output_put {a} {b} {bs} {before} {after} {n} m h e z w end =
    let long = ap length e in
    let p : Written a.memory.now b.memory.now a.len bs = w.written (omega (arith, w.len)) in
    let q : Written before b.memory.now 0 bs = subst (λ (x : Bytes). Written x b.memory.now 0 bs) e (subst (λ k. Written a.memory.now b.memory.now k bs) z p) in
    subst (λ k. Outputs bs before (Ok k) after) (sym m) (subst (λ (x : Bytes). Outputs bs before (Ok (length bs)) x) (sym (end ∙ written_at_front before b.memory.now bs q)) (output (omega arith)))

-- what is read of the bytes is read of the output
pub output_taken : {bs before after : Bytes} {r : Result ℕ WriteFault} (Q : Bytes → Type 0) → Outputs bs before r after → (length bs ≤ 65535 → Q bs) → IfOk r (λ len. len ≤ 65535 → Q (take len after))
output_taken Q (no_room h) q = tt
output_taken {bs} {before} Q (output h) q = λ small. subst Q (sym (take_at bs (drop (length bs) before) (length bs) refl)) (q small)

-- ---- the check of the output's length, taken apart

pub record Refused (bs before : Bytes) (fault : WriteFault) (after : Bytes) : Type 0 where
  pub fault_is : fault ≡ NoRoom (length bs)
  pub same : after ≡ before
  pub short : length before < length bs

pub record Output (bs before : Bytes) (n : ℕ) (after : Bytes) : Type 0 where
  pub number : n ≡ length bs
  pub bytes : after ≡ bs ++ drop (length bs) before
  pub fits : length bs ≤ length before

pub outputs_err : {bs before after : Bytes} {fault : WriteFault} → Outputs bs before (Err fault) after → Refused bs before fault after
outputs_err (no_room h) = record { fault_is = refl; same = refl; short = h }

pub outputs_ok : {bs before after : Bytes} {n : ℕ} → Outputs bs before (Ok n) after → Output bs before n after
outputs_ok (output h) = record { number = refl; bytes = refl; fits = h }
