-- The ITEM line in front of a text: whether it is there, and which.
use Rattle.std.proofs.Common.{◌≡◌, ℕ, zero, suc, ◌+◌, ◌%◌, ◌<◌, [], ◌∷◌, ◌++◌, length, get_or, drop, codes, length-append, sym, refl, ap, ◌∙◌, subst, ◌⊎◌, inl, inr, Bor, arith}
use Rattle.std.proofs.lemmas.Bool.Decides.{nat_tests}
use Rattle.std.proofs.lemmas.List.{append_assoc, get_or_at}
use Rattle.sheets.specs.Bytes.{Bytes, Feedless, Label, item_line}
use Rattle.sheets.specs.Runs.{Each, Halts}
use Rattle.sheets.specs.Lines.{Ended, Says}
use Rattle.sheets.specs.declared.line.Line.{Line}
use Rattle.sheets.specs.declared.line.Line.TheVariants.{Path, Cuts}
use Rattle.sheets.specs.Items.{Fronts, ItemAt}
use Rattle.sheets.proofs.Parses.{item_bytes, item_path, item_cuts}
use Rattle.sheets.proofs.Columns.{hundreds, tens}
use Rattle.sheets.proofs.Spans.{span_same}

abbrev pub NoFeed : ℕ → Type 0
NoFeed b = b ≡ 10 → ⊥

-- the same, part by part
abbrev pub Whole : (ℕ → Type 0) → Bytes → Type 0
Whole P [] = Unit {0}
Whole P (x ∷ xs) = P x × Whole P xs

pub whole_each : (P : ℕ → Type 0) (l : Bytes) → Whole P l → Each P l
whole_each P [] w k h = absurd (omega arith)
whole_each P (x ∷ xs) w zero h = w.0
whole_each P (x ∷ xs) w (suc k) h = whole_each P xs w.1 k (omega arith)

pub each_whole : (P : ℕ → Type 0) (l : Bytes) → Each P l → Whole P l
each_whole P [] e = tt
each_whole P (x ∷ xs) e = (e 0 (omega arith), each_whole P xs (λ k h. e (suc k) (omega arith)))

pub label_plain : (l : Bytes) → Label l → Feedless l
label_plain l lab k h e = let v = lab.bytes k h in omega arith

pub item_plain : (n : ℕ) (l : Bytes) → n < 1000 → Label l → Feedless (item_line n l)
item_plain n l small lab = subst Feedless (sym (item_bytes n l small))
    (whole_each NoFeed (73 ∷ 84 ∷ 69 ∷ 77 ∷ 32 ∷ hundreds n ∷ tens n ∷ (48 + n % 10) ∷ 32 ∷ l) (
      (λ e. omega arith),
      (
        (λ e. omega arith),
        (
          (λ e. omega arith),
          (
            (λ e. omega arith),
            (
              (λ e. omega arith),
              ((λ e. grind (arith, nat_tests)), ((λ e. grind (arith, nat_tests)), ((λ e. omega arith), ((λ e. omega arith), each_whole NoFeed l (label_plain l lab))))),
            ),
          ),
        ),
      ),
    ))

pub length_item : (n : ℕ) (l : Bytes) → n < 1000 → length (item_line n l) ≡ 9 + length l
length_item n l small = let e = ap length (item_bytes n l small) in omega arith

-- what has no line feed ends no line
pub feed_apart : (rest l after : Bytes) → Feedless rest → rest ≡ l ++ (10 ∷ after) → ⊥
feed_apart rest l after plain e =
    let long = length-append l (10 ∷ after) in
    let le = ap length e in
    plain (length l) (omega arith) (ap (λ z. get_or z (length l) 0) e ∙ get_or_at l 10 after 0 (length l) refl)

feed_halts : (x : Bytes) → Halts NoFeed (10 ∷ x)
feed_halts x = λ h f. f refl

-- the first line of a text is determined
pub line_same : (l m x y : Bytes) → Feedless l → Feedless m → l ++ (10 ∷ x) ≡ m ++ (10 ∷ y) → (l ≡ m) × (x ≡ y)
line_same l m x y pl pm e = let p = span_same NoFeed l m (10 ∷ x) (10 ∷ y) pl pm (feed_halts x) (feed_halts y) e in (p.0, cc)

pub fronts_parts : (n : ℕ) (rest l : Bytes) (f : Fronts n rest l) → rest ≡ item_line n l ++ (10 ∷ f.1.0)
fronts_parts n rest l (lab, (after, e)) = e ∙ append_assoc (item_line n l) (10 ∷ []) after

fronts_line : (text : Bytes) (at n : ℕ) (line l : Bytes) → n < 1000 → Ended text at line → Fronts n (drop at text) l → line ≡ item_line n l
fronts_line text at n line l small ended f =
    (line_same line (item_line n l) _ _ ended.plain (item_plain n l small f.0) (sym ended.parts ∙ fronts_parts n (drop at text) l f)).0

-- a line that is no ITEM line of number n
pub no_fronts : (text : Bytes) (at n : ℕ) (line : Bytes) → n < 1000 → Ended text at line → ((l : Bytes) → Label l → line ≡ item_line n l → ⊥) → (l : Bytes) → Fronts n (drop at text) l → ⊥
no_fronts text at n line small ended bad l f = bad l f.0 (fronts_line text at n line l small ended f)

pub item_at_from : (text : Bytes) (at n : ℕ) (line l : Bytes) → n < 1000 → Label l → Ended text at line → line ≡ item_line n l → ItemAt text at n l
item_at_from text at n line l small lab ended e =
    let long = length_item n l small in
    let same = ap length e in
    let fits = ended.fits in
    let to : at + length line + 1 ≡ at + 10 + length l = omega arith in
    record { label = lab; fits = omega arith; parts = ended.parts ∙ rw (to, e) }

pub fronts_from : (text : Bytes) (at n : ℕ) (l : Bytes) → ItemAt text at n l → Fronts n (drop at text) l
fronts_from text at n l i = (i.label, (drop (at + 10 + length l) text, i.parts ∙ sym (append_assoc (item_line n l) (10 ∷ []) (drop (at + 10 + length l) text))))

-- a line of another kind is no ITEM line
other_item : (line h s : Bytes) (n : ℕ) → n < 1000 → ((s t : Bytes) → codes "ITEM " ++ s ≡ h ++ t → ⊥) → line ≡ h ++ s → (l : Bytes) → Label l → line ≡ item_line n l → ⊥
other_item line h s n small apart e l lab f = apart (hundreds n ∷ tens n ∷ (48 + n % 10) ∷ 32 ∷ l) s (sym (item_bytes n l small) ∙ sym f ∙ e)

pub row_no_item : (v : Line) (line : Bytes) (n : ℕ) → n < 1000 → Says v line → ((x : Bor Bytes) × (v ≡ Path x)) ⊎ ((x : Bor Bytes) × (v ≡ Cuts x)) → (l : Bytes) → Label l → line ≡ item_line n l → ⊥
row_no_item v line n small says (inl (x, e)) = other_item line (codes "PATH") x.now n small item_path (subst (λ z. Says z line) e says).1
row_no_item v line n small says (inr (x, e)) = other_item line (codes "CUTS") x.now n small item_cuts (subst (λ z. Says z line) e says).1

-- ITEM lines of two numbers differ
pub number_same : (line : Bytes) (m n : ℕ) (k l : Bytes) → m < 1000 → n < 1000 → line ≡ item_line m k → line ≡ item_line n l → (m ≡ n) × (k ≡ l)
number_same line m n k l sm sn e f =
    let z = sym (item_bytes m k sm) ∙ sym e ∙ f ∙ item_bytes n l sn in
    let h : hundreds m ≡ hundreds n = cc in
    let t : tens m ≡ tens n = cc in
    let o : 48 + m % 10 ≡ 48 + n % 10 = cc in
    (grind (arith, nat_tests), cc)
