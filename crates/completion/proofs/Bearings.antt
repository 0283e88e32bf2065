-- Rows alone up, and the first that a structure function does not bear out.
use Rattle.std.proofs.Common.{◌≡◌, ℕ, zero, suc, ◌<◌, Bool, true, false, List, [], ◌∷◌, map, length, get_or, None, Option, Some, arith}
use Rattle.std.specs.List.{AllWithin, HoldsAt}
use Rattle.std.specs.Option.{MatchOption}
use Rattle.std.proofs.lemmas.Bool.{both_ways}
use Rattle.std.proofs.lemmas.List.{length-map}
use Rattle.sets.specs.Sets.{Numbers, nothing, Below}
use Rattle.sets.specs.Truth.{holds_true, true_holds}
use Rattle.systems.specs.Systems.{Structure, EachRow}
use Rattle.tables.specs.Memory.{meant}
use Rattle.tables.specs.declared.row.Row.{Row}
use Rattle.completion.specs.Completions.{PathBorne, FirstNot}

-- the structure function, with just the items of the row up, answers b, if the row fits it
abbrev pub Answered : {X : Type 0} → (X → Numbers) → Structure → Bool → Row X → Type 0
Answered mem φ b row = Below φ.items (meant mem row) → φ.works (meant mem row) ≡ b

module _ {X : Type 0} (mem : X → Numbers) (φ : Structure) where
  answer_of : (b : Bool) (xs : List (Row X)) (i : ℕ) → i < length xs → ((d : Row X) → Answered mem φ b (get_or xs i d))
      → Below φ.items (get_or (map (meant mem) xs) i nothing) → φ.works (get_or (map (meant mem) xs) i nothing) ≡ b
  answer_of b [] i lt h low = absurd (omega arith)
  answer_of b (x ∷ xs) zero lt h low = h x low
  answer_of b (x ∷ xs) (suc i) lt h low = answer_of b xs i (omega arith) h low

  -- r is the first of the rows xs that is answered no
  module _ (xs : List (Row X)) (low : EachRow (map (meant mem) xs) (Below φ.items)) where
    answer_at : (b : Bool) (i : ℕ) → i < length xs → ((d : Row X) → Answered mem φ b (get_or xs i d)) → φ.works (get_or (map (meant mem) xs) i nothing) ≡ b
    answer_at b i lt h = answer_of b xs i lt h (low i (simp length-map lt))

    pub first_not : (r : Option ℕ) → MatchOption r (AllWithin (Answered mem φ true) xs 0 (length xs)) (λ i. (i < length xs) × HoldsAt (Answered mem φ false) xs i × AllWithin (Answered mem φ true) xs 0 i)
        → MatchOption r (EachRow (map (meant mem) xs) (PathBorne φ)) (FirstNot (PathBorne φ) (map (meant mem) xs))
    first_not None h = λ i lt. let lt = simp length-map at lt in true_holds _ (answer_at true i lt (λ d. h i d (omega arith) lt))
    first_not (Some i) h = record {
      there = simp length-map (h.0);
      fails = λ t. both_ways _ (answer_at false i h.0 h.1) (holds_true _ t);
      first = λ k lt. true_holds _ (answer_at true k (omega (arith, h.0)) (λ d. h.2 k d (omega arith) lt));
    }
