-- The loop over the leading lines that begin with ITEM: what is left decides what is skipped.
use Rattle.std.proofs.Common.{◌≡◌, ℕ, ◌+◌, ◌-◌, ◌≤◌, true, false, Bool, length, take, drop, codes, eqb, sym, refl, ap, ◌∙◌, subst, arith}
use Rattle.std.specs.Cmp.Lexicographic.{pointwise}
use Rattle.std.proofs.lemmas.Bool.{true≢false}
use Rattle.std.proofs.lemmas.Bool.Decides.{Decides-eqb}
use Rattle.std.proofs.lemmas.List.{length-drop, drop_all, take_rest}
use Rattle.std.proofs.lemmas.Slice.Eq.{starts_is}
use Rattle.sheets.specs.Bytes.{Bytes, Feedless}
use Rattle.sheets.specs.Lines.{Begins, Ended}
use Rattle.sheets.specs.Skips.{Skips, skip_stop, skip_last, skip_line, Skipped}

pub record Skipping (text : Bytes) (at nth : ℕ) : Type 0 where
  pub fits : at ≤ length text
  pub low : nth ≤ at + 1
  pub some : 1 ≤ nth
  pub goes : (m : ℕ) (rest : Bytes) → Skips (drop at text) m rest → Skips text (m + (nth - 1)) rest

module _ (text head : Bytes) (at : ℕ) (r : Bool) (e : r ≡ pointwise eqb head (take (length head) (take (length text - at) (drop at text)))) where
  pub begins : r ≡ true → Begins (drop at text) head
  begins t = let s = starts_is Decides-eqb (drop at text) head r (rw (take_rest text at) at e) in (drop (length head) (drop at text), s.0 t)

  pub not_begins : r ≡ false → Begins (drop at text) head → ⊥
  not_begins f b = let s = starts_is Decides-eqb (drop at text) head r (rw (take_rest text at) at e) in true≢false (sym (s.1 b.0 b.1) ∙ f)

module _ (text : Bytes) (at nth : ℕ) (g : Skipping text at nth) where
  pub skipping_more : (line : Bytes) (to : ℕ) → at + length line + 1 ≡ to → Begins (drop at text) (codes "ITEM") → Ended text at line → Skipping text to (nth + 1)
  skipping_more line to is b e =
      let fits = e.fits in
      let low = g.low in
      let some = g.some in
      record {
        fits = omega arith;
        low = omega arith;
        some = omega arith;
        goes = λ m rest s.
            let n : m + 1 + (nth - 1) ≡ m + (nth + 1 - 1) = omega arith in
            subst (λ (k : ℕ). Skips text k rest) n
            (g.goes (m + 1) rest (skip_line line (drop (at + length line + 1) text) m b e.plain e.parts refl (subst (λ (k : ℕ). Skips (drop k text) m rest) (sym is) s)));
      }

  pub skipped_stop : (Begins (drop at text) (codes "ITEM") → ⊥) → Skipped text (record { at = at; nth = nth })
  skipped_stop b = let some = g.some in record { fits = g.fits; low = g.low; lines = 0 + (nth - 1); number = omega arith; skips = g.goes 0 (drop at text) (skip_stop b refl refl) }

  pub skipped_last : Begins (drop at text) (codes "ITEM") → Feedless (drop at text) → Skipped text (record { at = length text; nth = nth + 1 })
  skipped_last b f =
      let some = g.some in
      let low = g.low in
      let fits = g.fits in
      let l = ap length b.1 in
      let d = length-drop at text in
      record {
        fits = omega arith;
        low = omega arith;
        lines = 1 + (nth - 1);
        number = omega arith;
        skips = g.goes 1 (drop (length text) text) (skip_last b f refl (drop_all (length text) text (omega arith)));
      }
