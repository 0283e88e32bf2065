-- What a place stands for, and which item has a label.
use Rattle.std.proofs.Common.{◌≡◌, ℕ, ◌+◌, ◌<◌, ◌≤◌, Bool, cond, List, [], ◌∷◌, map, length, get_or, take, drop, sym, ap, ◌∙◌, inl, inr, MatchOption, None, Some, Option, Bor, arith}
use Rattle.std.specs.List.{AllWithin, HoldsAt}
use Rattle.std.specs.Option.{unwrap_or}
use Rattle.std.specs.Slice.{IsGetRangeResult}
use Rattle.std.proofs.lemmas.Bool.{le-leb, lt-leb}
use Rattle.std.proofs.lemmas.List.{length-map, get_or-map, take_rest}
use Rattle.std.proofs.Math.Nat.{sub-zero}
use Rattle.sheets.specs.Bytes.{Bytes}
use Rattle.sheets.specs.Labels.{named, Absent, First}
use Rattle.sheets.specs.declared.place.LabelPlace.{LabelPlace}

pub named_in : (text : Bytes) (p : LabelPlace) → p.start + p.len ≤ length text → named text p ≡ take p.len (drop p.start text)
unfolding named
named_in text p h = ap (λ (b : Bool). cond b (take p.len (drop p.start text)) []) (le-leb (p.start + p.len) (length text) h)

named_out : (text : Bytes) (p : LabelPlace) → length text < p.start + p.len → named text p ≡ []
unfolding named
named_out text p h = ap (λ (b : Bool). cond b (take p.len (drop p.start text)) []) (lt-leb (p.start + p.len) (length text) h)

-- a place cuts its label out in two steps: what stands from its start on, and of that as much as it has
pub cut_named : (text : Bytes) (p : LabelPlace) (rest label : Option (Bor Bytes)) (none : Bor Bytes) → IsGetRangeResult text p.start (length text) rest
    → MatchOption rest (label ≡ None) (λ x. IsGetRangeResult x.now 0 p.len label) → none.now ≡ [] → (unwrap_or label none).now ≡ named text p
cut_named text p None label none h k e = rw k (e ∙ sym (named_out text p (elim (h.0) [ inl l ↦ omega arith | inr l ↦ omega arith ])))
cut_named text p (Some x) None none h k e = e ∙ sym (named_out text p (elim (k.0) [ inl l ↦ omega arith | inr l ↦ omega (arith, h.0.3) ]))
cut_named text p (Some x) (Some y) none h k e =
    k.0.2 ∙ ap (λ (n : ℕ). take n x.now) (sub-zero p.len) ∙ ap (take p.len) (h.0.2 ∙ take_rest text p.start) ∙ sym (named_in text p (omega (arith, h.0.3, k.0.1)))

module _ {X : Type 0} (name : X → Bytes) (l : Bytes) where
  at_place : (P : Bytes → Type 0) (xs : List X) (i : ℕ) → i < length xs → HoldsAt (λ x. P (name x)) xs i → P (get_or (map name xs) i [])
  at_place P [] i lt h = absurd (omega arith)
  at_place P (x ∷ xs) i lt h = rw (get_or-map name (x ∷ xs) i x [] lt) (h x)

  out_below : (xs : List X) (n : ℕ) → n ≤ length xs → AllWithin (λ x. name x ≡ l → ⊥) xs 0 n → (k : ℕ) → k < n → get_or (map name xs) k [] ≡ l → ⊥
  out_below xs n le all k lt = at_place (λ s. s ≡ l → ⊥) xs k (omega arith) (λ d. all k d (omega arith) lt)

  pub first_named : (xs : List X) (o : Option ℕ) → MatchOption o (AllWithin (λ x. name x ≡ l → ⊥) xs 0 (length xs)) (λ i. (i < length xs) × HoldsAt (λ x. name x ≡ l) xs i × AllWithin (λ x. name x ≡ l → ⊥) xs 0 i)
      → MatchOption o (Absent (map name xs) l) (First (map name xs) l)
  first_named xs None h = λ k lt. out_below xs (length xs) (omega arith) h k (omega (arith, length-map xs name))
  first_named xs (Some i) h = record {
    there = omega (arith, length-map xs name, h.0);
    same = at_place (λ s. s ≡ l) xs i h.0 h.1;
    lowest = out_below xs i (omega (arith, h.0)) h.2;
  }
