-- Bytes that are put on a page, one part after another.
use Rattle.std.proofs.Common.{◌≡◌, ℕ, ◌+◌, ◌≤◌, [], ◌++◌, length, take, drop, refl, sym, ap, ◌∙◌, subst, add-zero, arith}
use Rattle.std.proofs.lemmas.List.{append_assoc, length-append, length-take-le, take_at, drop_at, drop-drop, take-append-drop}
use Rattle.sheets.specs.Bytes.{Bytes}
use Rattle.writing.specs.Pages.{Written, Wrote}
use Rattle.writing.specs.declared.page.Page.{Page}

written_none : (a : Bytes) (at : ℕ) → Written a a at []
written_none a at = sym (take-append-drop at a) ∙ rw add-zero

-- a part behind a part
written_then : (a b c xs ys : Bytes) (at to : ℕ) → at + length xs ≤ length a → to ≡ at + length xs → Written a b at xs → Written b c to ys → Written a c at (xs ++ ys)
written_then a b c xs ys at to fits e p q =
    let here : length (take at a) ≡ at = length-take-le at a (omega arith) in
    let front : length (take at a ++ xs) ≡ to = length-append (take at a) xs ∙ omega arith in
    let p2 : b ≡ (take at a ++ xs) ++ drop (at + length xs) a = p ∙ sym (append_assoc (take at a) xs (drop (at + length xs) a)) in
    let t : take to b ≡ take at a ++ xs = ap (λ (z : Bytes). take to z) p2 ∙ take_at (take at a ++ xs) (drop (at + length xs) a) to front in
    let u : drop to b ≡ drop (at + length xs) a = ap (λ (z : Bytes). drop to z) p2 ∙ drop_at (take at a ++ xs) (drop (at + length xs) a) to front in
    let n : at + length xs + length ys ≡ at + length (xs ++ ys) = omega (arith, length-append xs ys) in
    let v : drop (to + length ys) b ≡ drop (at + length (xs ++ ys)) a = sym (drop-drop (length ys) to b) ∙ ap (λ (z : Bytes). drop (length ys) z) u ∙ drop-drop (length ys) (at + length xs) a ∙ rw n in
    q ∙ rw (t, v) (append_assoc (take at a) xs (ys ++ drop (at + length (xs ++ ys)) a) ∙ ap (λ (z : Bytes). take at a ++ z) (sym (append_assoc xs ys (drop (at + length (xs ++ ys)) a))))

pub wrote_none : {p : Page} → Wrote p p []
wrote_none {p} = record { len = sym (add-zero p.len); room = refl; written = λ h. written_none p.memory.now p.len; lent = refl }

pub wrote_then : {a b c : Page} {xs ys : Bytes} → Wrote a b xs → Wrote b c ys → Wrote a c (xs ++ ys)
wrote_then {a} {b} {c} {xs} {ys} p q =
    let long = length-append xs ys in
    record {
      len = omega (arith, p.len, q.len);
      room = q.room ∙ p.room;
      written = λ h.
          let inner : b.len ≤ length a.memory.now = omega (arith, q.len) in
          let outer : c.len ≤ length b.memory.now = omega (arith, p.room) in
          written_then a.memory.now b.memory.now c.memory.now xs ys a.len b.len (omega (arith, p.len)) p.len (p.written inner) (q.written outer);
      lent = q.lent ∙ p.lent;
    }

pub wrote_same : {a b : Page} {xs ys : Bytes} → xs ≡ ys → Wrote a b xs → Wrote a b ys
wrote_same {a} {b} e p = subst (λ (z : Bytes). Wrote a b z) e p
