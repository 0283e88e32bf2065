-- What the checks of a writing call tell, and its answer.
use Rattle.std.proofs.Common.{◌≡◌, ℕ, ◌≤◌, length, Ok, Err, Result, IsErrAnd, refl, sym, ap, ◌∙◌, subst, arith}
use Rattle.std.proofs.lemmas.Result.{err_from_is_err_and}
use Rattle.tables.specs.Refusals.{Reply, answered, refused}
use Rattle.duality.specs.Pairs.{Pairs, paths_closed, cuts_closed, counts_differ, pair_fits, pair_refusal}
use Rattle.duality.specs.declared.fault.PairFault.{PairFault}
use Rattle.sheets.specs.Bytes.{Bytes}
use Rattle.sheets.specs.Counts.{counts_fit}
use Rattle.writing.specs.Writes.{Checks, fits, Outputs, Writes, not_written, writes}
use Rattle.writing.specs.declared.fault.WriteFault.{WriteFault}

-- what a `?` hands up
pub err_is : {A E : Type 0} {fault : E} (r : Result A E) → IsErrAnd r (λ e. e ≡ fault) → r ≡ Err fault
err_is r h = let e = err_from_is_err_and r h in e.1 ∙ ap Err e.2

-- ---- the checks passed

pub one_count : {p c l : ℕ} {text : Bytes} → Checks p c text l (Ok tt) → p ≡ c
one_count (fits (counts_fit some same all) short) = same

pub label_count : {p c l : ℕ} {text : Bytes} → Checks p c text l (Ok tt) → p ≡ l
label_count (fits (counts_fit some same all) short) = all

pub text_fits : {p c l : ℕ} {text : Bytes} → Checks p c text l (Ok tt) → length text ≤ 65535
text_fits (fits counts short) = short

-- then an audit is not refused
pair_fits_together : {p c : ℕ} {x : Reply (Unit {0})} → 1 ≤ p → p ≡ c → Pairs p c x → x ≡ answered tt
pair_fits_together some same (paths_closed e) = absurd (omega arith)
pair_fits_together some same (cuts_closed a e) = absurd (omega arith)
pair_fits_together some same (counts_differ a b n) = absurd (n same)
pair_fits_together some same (pair_fits a b) = refl

pub audit_fits : {T : Type 0} {p c l : ℕ} {text : Bytes} (fault : PairFault) → Checks p c text l (Ok tt) → Pairs p c (refused (pair_refusal fault).number (pair_refusal fault).values) → T
audit_fits fault (fits (counts_fit some same all) short) h = let e = pair_fits_together some same h in absurd (cc)

-- ---- the answer of a call on tables of q and of d items

checks_same : {p c q d l : ℕ} {text : Bytes} {r : Result (Unit {0}) WriteFault} → q ≡ p → d ≡ c → Checks q d text l r → Checks p c text l r
checks_same {p} {c} {q} {d} {l} {text} {r} e f h = subst (λ n. Checks n c text l r) e (subst (λ n. Checks q n text l r) f h)

module _ {p c q d : ℕ} {text : Bytes} {labels : ℕ} {P : Bytes → Type 0} {before : Bytes} (e : q ≡ p) (f : d ≡ c) where
  pub called_refused : {r : Result ℕ WriteFault} {fault : WriteFault} → r ≡ Err fault → Checks q d text labels (Err fault) → Writes p c text labels P before r before
  called_refused {r} {fault} is h = subst (λ x. Writes p c text labels P before x before) (sym is) (not_written fault (checks_same e f h))

  pub called_written : {r : Result ℕ WriteFault} {after bs : Bytes} → Checks q d text labels (Ok tt) → P bs → Outputs bs before r after → Writes p c text labels P before r after
  called_written {r} {after} {bs} h is out = writes bs r after (checks_same e f h) is out
