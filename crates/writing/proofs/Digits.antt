-- The digits of a number, put from its last column to its first.
use Rattle.std.proofs.Common.{◌≡◌, ◌≢◌, ℕ, ◌+◌, ◌-◌, ◌/◌, ◌%◌, ◌<◌, ◌≤◌, ◌^◌, leb, [], ◌∷◌, ◌++◌, length, replicate, set, inl, inr, sym, ap, ◌∙◌, arith}
use Rattle.std.specs.Fmt.{decimal}
use Rattle.std.proofs.lemmas.Bool.{cond-true, cond-false, le-leb, lt-leb}
use Rattle.std.proofs.lemmas.Bool.Decides.{leb_tells}
use Rattle.std.proofs.lemmas.Fmt.{decimal_digit, decimal_step, decimal_nonempty}
use Rattle.std.proofs.lemmas.List.{append-nil, append_assoc, length-append, length-replicate, replicate_more, set_at}
use Rattle.sheets.specs.Bytes.{Bytes, right}
use Rattle.writing.specs.Columns.{shown}

-- from the column `at` on stand the last digits of the number, and `left` is the number without them
pub record Digits (w n : ℕ) (bytes : Bytes) (at left : ℕ) : Type 0 where
  pub ds : Bytes
  pub columns : at + length ds ≡ w
  pub stand : bytes ≡ replicate at 32 ++ ds
  pub number : decimal n ≡ decimal left ++ ds

pub digits_none : (w n : ℕ) → Digits w n (replicate w 32) w n
digits_none w n = record { ds = []; columns = omega arith; stand = sym (append-nil (replicate w 32)); number = sym (append-nil (decimal n)) }

-- a digit before the others
digit_put : (at d : ℕ) (bytes ds : Bytes) → 0 < at → bytes ≡ replicate at 32 ++ ds → set bytes (at - 1) d ≡ replicate (at - 1) 32 ++ (d ∷ ds)
digit_put at d bytes ds some e =
    let n : at - 1 + 1 ≡ at = omega arith in
    let blanks : replicate at 32 ≡ replicate (at - 1) 32 ++ (32 ∷ []) = ap (λ k. replicate k 32) (sym n) ∙ sym (replicate_more (at - 1) 32) in
    let split : bytes ≡ replicate (at - 1) 32 ++ (32 ∷ ds) = e ∙ ap (λ (z : Bytes). z ++ ds) blanks ∙ append_assoc (replicate (at - 1) 32) (32 ∷ []) ds in
    ap (λ (z : Bytes). set z (at - 1) d) split ∙ set_at (replicate (at - 1) 32) 32 ds d (at - 1) (length-replicate (at - 1) 32)

pub digits_more : (w n at left : ℕ) (bytes : Bytes) → Digits w n bytes at left → 0 < at → left < 2 ^ 64 → left / 10 ≢ 0 → Digits w n (set bytes (at - 1) (48 + left % 10)) (at - 1) (left / 10)
digits_more w n at left bytes g some small more =
    let ds = g.ds in
    let ten : 10 ≤ left = omega arith in
    record {
      ds = (48 + left % 10) ∷ ds;
      columns = omega (arith, g.columns);
      stand = digit_put at (48 + left % 10) bytes ds some g.stand;
      number = g.number ∙ ap (λ (z : Bytes). z ++ ds) (decimal_step left ten small) ∙ append_assoc (decimal (left / 10)) ((48 + left % 10) ∷ []) ds;
    }

pub shown_fits : (w n : ℕ) → length (decimal n) ≤ w → shown w n ≡ right w n
unfolding shown
shown_fits w n h = cond-true (leb (length (decimal n)) w) (right w n) (replicate w 57) (le-leb _ _ h)

shown_wide : (w n : ℕ) → w < length (decimal n) → shown w n ≡ replicate w 57
unfolding shown
shown_wide w n h = cond-false (leb (length (decimal n)) w) (right w n) (replicate w 57) (lt-leb _ _ h)

-- the first digit is put
pub digits_all : (w n at left : ℕ) (bytes : Bytes) → Digits w n bytes at left → 0 < at → left / 10 ≡ 0 → set bytes (at - 1) (48 + left % 10) ≡ shown w n
unfolding right
digits_all w n at left bytes g some last =
    let ds = g.ds in
    let r : left % 10 ≡ left = omega arith in
    let here : decimal n ≡ (48 + left % 10) ∷ ds = g.number ∙ ap (λ (z : Bytes). z ++ ds) (decimal_digit left (omega arith)) ∙ ap (λ k. (48 + k) ∷ ds) (sym r) in
    let long = ap length here in
    let blank : at - 1 ≡ w - length (decimal n) = omega (arith, g.columns) in
    digit_put at (48 + left % 10) bytes ds some g.stand
    ∙ ap (λ k. replicate k 32 ++ ((48 + left % 10) ∷ ds)) blank
    ∙ ap (λ (z : Bytes). replicate (w - length (decimal n)) 32 ++ z) (sym here)
    ∙ sym (shown_fits w n (omega (arith, g.columns)))

-- all columns have a digit, and digits are left
pub digits_wide : (w n at left : ℕ) (bytes : Bytes) → Digits w n bytes at left → at ≤ 0 → left < 2 ^ 64 → replicate w 57 ≡ shown w n
digits_wide w n at left bytes g none small =
    let long = ap length g.number in
    let a = length-append (decimal left) g.ds in
    let b = decimal_nonempty left small in
    sym (shown_wide w n (omega (arith, g.columns)))

pub length_shown : (w n : ℕ) → length (shown w n) ≡ w
unfolding right
length_shown w n = elim (leb_tells (length (decimal n)) w) [
  | inl h ↦
      let fits = h.1 in
      ap length (shown_fits w n fits) ∙ length-append (replicate (w - length (decimal n)) 32) (decimal n) ∙ omega (arith, length-replicate {A = ℕ} (w - length (decimal n)) 32)
  | inr h ↦ ap length (shown_wide w n h.1) ∙ length-replicate w 57
]
