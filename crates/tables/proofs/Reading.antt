-- Rows as they are read from places.
use Rattle.std.proofs.Common.{◌≡◌, ℕ, ◌<◌, ◌≤◌, List, [], ◌∷◌, map, length, get_or, take, sym, ap, ◌∙◌, MatchOption, None, Some, Option, arith}
use Rattle.std.specs.List.{AllWithin, HoldsAt}
use Rattle.std.proofs.lemmas.List.{length-take-le, length-map, get_or-map}
use Rattle.sets.specs.Sets.{Numbers, nothing, Within}
use Rattle.tables.specs.Memory.{Standing}
use Rattle.tables.specs.Rows.{ContainsNone, LowestContained}

module _ {X : Type 0} (mem : X → Numbers) (P : Numbers → Type 0) where
  -- of what a place means, from what it holds
  at_place : (xs : List X) (i : ℕ) → i < length xs → HoldsAt (λ x. P (mem x)) xs i → P (get_or (map mem xs) i nothing)
  at_place [] i lt h = absurd (omega arith)
  at_place (x ∷ xs) i lt h = rw (get_or-map mem (x ∷ xs) i x nothing lt) (h x)

module _ {X : Type 0} (mem : X → Numbers) (r : Numbers) (xs : List X) where
  abbrev In : X → Type 0
  In x = Within (mem x) r

  abbrev Out : X → Type 0
  Out x = In x → ⊥

  out_below : (n : ℕ) → n ≤ length xs → AllWithin Out xs 0 n → (k : ℕ) → k < n → Within (get_or (map mem xs) k nothing) r → ⊥
  out_below n le all k lt = at_place mem (λ s. Within s r → ⊥) xs k (omega arith) (λ d. all k d (omega arith) lt)

  pub first_contained : (o : Option ℕ) → MatchOption o (AllWithin Out xs 0 (length xs)) (λ i. (i < length xs) × HoldsAt In xs i × AllWithin Out xs 0 i)
      → MatchOption o (ContainsNone (map mem xs) r) (LowestContained (map mem xs) r)
  first_contained None h = λ k lt. out_below (length xs) (omega arith) h k (omega (arith, length-map xs mem))
  first_contained (Some i) h = record {
    there = omega (arith, length-map xs mem, h.0);
    contained = at_place mem (λ s. Within s r) xs i h.0 h.1;
    lowest = out_below i (omega (arith, h.0)) h.2;
  }

-- as many rows as are counted
pub standing_many : {X : Type 0} {mem : X → Numbers} {xs : List X} {capacity count : ℕ} {ps : List Numbers} → count ≤ length xs → Standing mem xs capacity count ps → length ps ≡ count
standing_many {X} {mem} {xs} {capacity} {count} {ps} le st = ap length (sym st.stand) ∙ length-map (take count xs) mem ∙ length-take-le count xs le
