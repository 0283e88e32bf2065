-- A front of bytes of one sort, and what follows it: where a label ends, and which labels a row has.
use Rattle.std.proofs.Common.{◌≡◌, ℕ, suc, ◌<◌, ◌≤◌, Option, Some, None, List, [], ◌∷◌, ◌++◌, length, codes, get_or, take, drop, sym, refl, ap, ◌∙◌, subst, MatchOption, unwrap_or, arith, add-zero}
use Rattle.std.specs.List.{AllWithin, HoldsAt}
use Rattle.std.proofs.lemmas.List.{take-append-drop, get_or-drop, get_or-take, length-take-le, length-drop, length-append}
use Rattle.sheets.specs.Bytes.{Bytes, Label, Row, spaced}
use Rattle.sheets.specs.Lines.{Begins}
use Rattle.sheets.specs.Runs.{Visible, Each, Halts, Named}

each_tail : (P : ℕ → Type 0) (a : ℕ) (l : Bytes) → Each P (a ∷ l) → Each P l
each_tail P a l e = λ k h. e (suc k) (omega arith)

each_head : (P : ℕ → Type 0) (a : ℕ) (l : Bytes) → Each P (a ∷ l) → P a
each_head P a l e = e 0 (omega arith)

-- both are determined
pub span_same : (P : ℕ → Type 0) (l m x y : Bytes) → Each P l → Each P m → Halts P x → Halts P y → l ++ x ≡ m ++ y → (l ≡ m) × (x ≡ y)
span_same P [] [] x y el em hx hy e = (refl, e)
span_same P [] (b ∷ m) x y el em hx hy e = absurd (subst (Halts P) e hx (omega arith) (each_head P b m em))
span_same P (a ∷ l) [] x y el em hx hy e = absurd (subst (Halts P) (sym e) hy (omega arith) (each_head P a l el))
span_same P (a ∷ l) (b ∷ m) x y el em hx hy e =
    let t : l ++ x ≡ m ++ y = cc in
    let h : a ≡ b = cc in
    let p = span_same P l m x y (each_tail P a l el) (each_tail P b m em) hx hy t in
    (cc, p.1)

pub halts_spaced : (ls : List Bytes) → Halts Visible (spaced ls)
halts_spaced [] = λ h v. omega arith
halts_spaced (l ∷ ls) = λ h v. omega arith

row_on : (l rest : Bytes) → Each Visible l → Halts Visible rest → Row (32 ∷ (l ++ rest)) → Label l × Row rest
row_on l rest el stop ([], labels, e) = absurd (cc)
row_on l rest el stop (m ∷ ms, labels, e) =
    let t : l ++ rest ≡ m ++ spaced ms = cc in
    let p = span_same Visible l m rest (spaced ms) el labels.0.bytes stop (halts_spaced ms) t in
    (subst Label (sym p.0) labels.0, (ms, labels.1, p.1))

row_back : (l rest : Bytes) → Label l → Row rest → Row (32 ∷ (l ++ rest))
row_back l rest lab (ls, labels, e) = (l ∷ ls, (lab, labels), ap (λ (z : Bytes). 32 ∷ (l ++ z)) e)

-- a row that does not begin with a space is empty
pub row_unspaced : (s : Bytes) → (Begins s (codes " ") → ⊥) → Row s → s ≡ []
row_unspaced s ne ([], labels, e) = e
row_unspaced s ne (m ∷ ms, labels, e) = absurd (ne (m ++ spaced ms, e))

pub row_nil : Row []
row_nil = ([], tt, refl)

-- a label in front leaves the question whether it is a row to the rest
pub named_on : (s l rest : Bytes) → Named s l rest → Row s → Row rest
named_on s l rest n row = (row_on l rest n.formed.bytes n.halts (subst Row n.parts row)).1

pub named_back : (s l rest : Bytes) → Named s l rest → Row rest → Row s
named_back s l rest n row = subst Row (sym n.parts) (row_back l rest n.formed row)

pub named_shorter : (s l rest : Bytes) → Named s l rest → length rest < length s
named_shorter s l rest n = let long = ap length n.parts in let sum = length-append l rest in omega arith

-- the visible bytes in front end at `e`
pub record Ends (names : Bytes) (e : ℕ) : Type 0 where
  pub fits : e ≤ length names
  pub bytes : (k : ℕ) → k < e → Visible (get_or names k 0)
  pub end : e < length names → Visible (get_or names e 0) → ⊥

pub ends_from : (names : Bytes) (r : Option ℕ) → MatchOption r (AllWithin Visible names 0 (length names)) (λ i. (i < length names) × HoldsAt (λ b. Visible b → ⊥) names i × AllWithin Visible names 0 i) → Ends names (unwrap_or r (length names))
ends_from names None m = record { fits = omega arith; bytes = λ k h. m k 0 (omega arith) h; end = λ h. absurd (omega arith) }
ends_from names (Some i) m = record { fits = omega arith; bytes = λ k h. m.2 k 0 (omega arith) h; end = λ h. m.1 0 }

module _ (s names : Bytes) (e : ℕ) (parts : s ≡ 32 ∷ names) (ends : Ends names e) where
  each_front : Each Visible (take e names)
  each_front k h =
      let fits = ends.fits in
      let long = length-take-le e names fits in
      let below : k < e = omega arith in
      subst Visible (sym (get_or-take e names k 0 below)) (ends.bytes k below)

  halts_back : Halts Visible (drop e names)
  halts_back h v =
      let long = length-drop e names in
      ends.end (omega arith) (subst Visible (get_or-drop e names 0 0 ∙ rw add-zero) v)

  cut : s ≡ 32 ∷ (take e names ++ drop e names)
  cut = parts ∙ ap (λ (z : Bytes). 32 ∷ z) (sym (take-append-drop e names))

  named_from : Label (take e names) → Named s (take e names) (drop e names)
  named_from lab = record { formed = lab; parts = cut; halts = halts_back }

  unnamed_from : (Label (take e names) → ⊥) → Row s → s ≡ []
  unnamed_from bad row = absurd (bad (row_on (take e names) (drop e names) each_front halts_back (subst Row cut row)).0)

  pub named_at : (l r : Bytes) → l ≡ take e names → r ≡ drop e names → Label l → Named s l r
  named_at l r el er lab = rw (el, er) (named_from (subst Label el lab))

  pub unnamed_at : (l : Bytes) → l ≡ take e names → (Label l → ⊥) → Row s → s ≡ []
  unnamed_at l el bad = unnamed_from (λ lab. bad (subst Label (sym el) lab))
