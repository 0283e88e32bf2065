-- How long a report is.
use Rattle.std.proofs.Common.{◌≡◌, ℕ, suc, ◌+◌, ◌*◌, ◌≤◌, Bool, true, false, List, [], ◌∷◌, map, length, refl, arith}
use Rattle.std.proofs.lemmas.List.{length-append, length-map}
use Rattle.sets.specs.Sets.{Numbers}
use Rattle.systems.specs.States.{up}
use Rattle.duality.specs.declared.verdict.Verdict.{Verdict}
use Rattle.duality.specs.declared.verdict.Verdict.TheVariants.{Same, Miss, Both}
use Rattle.sheets.specs.Bytes.{Bytes}
use Rattle.sheets.specs.Labels.{named}
use Rattle.sheets.specs.declared.place.LabelPlace.{LabelPlace}
use Rattle.writing.specs.Reports.{mark, state_line, state_lines, rows_line, verdict_lines, report_text}
use Rattle.writing.proofs.Digits.{length_shown}
use Rattle.writing.proofs.Lengths.{Short, short_names}

length_mark : (b : Bool) → length (mark b) ≡ 4
length_mark true = refl
length_mark false = refl

length_state_line : (b : Bool) (k : ℕ) (l : Bytes) → length (state_line b k l) ≡ length l + 10
length_state_line b k l = simp (length-append, length_shown, length_mark) (omega arith)

length_states : (s : Numbers) (k : ℕ) (names : List Bytes) → Short names → length (state_lines s k names) ≤ length names * 65545
length_states s k [] short = omega arith
length_states s k (l ∷ ls) short =
    omega (arith, length_state_line (s k) k l, short 0, length_states s (suc k) ls (λ j. short (suc j)), length-append (state_line (s k) k l) (state_lines s (suc k) ls))

length_verdict : (names : List Bytes) (v : Verdict) → Short names → length (verdict_lines names v) ≤ 5 + length names * 65545
length_verdict names Same short = omega arith
length_verdict names (Miss s) short = omega (arith, length_states (up s) 0 names short)
length_verdict names (Both s) short = omega (arith, length_states (up s) 0 names short)

length_rows : (cuts paths : ℕ) → length (rows_line cuts paths) ≡ 17
length_rows cuts paths = simp (length-append, length_shown)

pub length_report : (text : Bytes) (places : List LabelPlace) (paths cuts : ℕ) (v : Verdict) → length text ≤ 65535 → length (report_text (map (named text) places) paths cuts v) ≤ 22 + length places * 65545
length_report text places paths cuts v h =
    let names = map (named text) places in
    omega (arith, length_rows cuts paths, length_verdict names v (short_names text places h), length-append (rows_line cuts paths) (verdict_lines names v), length-map places (named text))
