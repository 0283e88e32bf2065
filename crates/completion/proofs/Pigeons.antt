-- Rows that differ have each a place of its own in a list that has them all.
use Rattle.std.proofs.Common.{◌≡◌, ℕ, zero, suc, ◌<◌, ◌≤◌, List, [], ◌∷◌, length, get_or, sym, refl, ap, ◌∙◌, subst, inl, inr, add-one, arith}
use Rattle.std.specs.List.{remove}
use Rattle.std.proofs.lemmas.List.Edits.{length-remove, get_or-remove_below, get_or-remove_above}
use Rattle.std.proofs.lemmas.Bool.{cases_order}
use Rattle.sets.specs.Sets.{Numbers, nothing, Same}
use Rattle.systems.specs.Systems.{Among, EachRow, Once}
use Rattle.completion.specs.Fills.{AtMost}

-- what is not the set that is taken out is still there
module _ (sets : List Numbers) (j : ℕ) (lt : j < length sets) (s : Numbers) where
  before_stays : (i : ℕ) → i < j → Same (get_or sets i nothing) s → Among (remove sets j) s
  before_stays i h e =
      let l = length-remove sets j lt in
      record { row = i; there = omega arith; same = subst (λ (v : Numbers). Same v s) (sym (get_or-remove_below sets j nothing i h lt)) e }

  behind_stays : (i : ℕ) → j < i → i < length sets → Same (get_or sets i nothing) s → Among (remove sets j) s
  behind_stays zero h there e = absurd (omega arith)
  behind_stays (suc i) h there e =
      let l = length-remove sets j lt in
      record { row = i; there = omega arith; same = subst (λ (v : Numbers). Same v s) (sym (get_or-remove_above sets j nothing i (omega arith) lt)) (rw add-one e) }

  among_removed : (Same (get_or sets j nothing) s → ⊥) → Among sets s → Among (remove sets j) s
  among_removed other a =
      elim (cases_order a.row j) [
        | inl e ↦ absurd (other (subst (λ (i : ℕ). Same (get_or sets i nothing) s) e a.same))
        | inr (inl h) ↦ before_stays a.row h a.same
        | inr (inr h) ↦ behind_stays a.row h a.there a.same
      ]

pigeons : (rows sets : List Numbers) → Once rows → EachRow rows (Among sets) → length rows ≤ length sets
pigeons [] sets once each = omega arith
pigeons (r ∷ rows) sets once each =
    let a = each 0 (omega arith) in
    let l = length-remove sets a.row a.there in
    let rest_once : Once rows = λ i j hi hj e. let q = once (suc i) (suc j) (omega arith) (omega arith) e in omega arith in
    let other : EachRow rows (λ t. Same (get_or sets a.row nothing) t → ⊥) = λ i h e. let q = once 0 (suc i) (omega arith) (omega arith) (λ k. sym (a.same k) ∙ e k) in omega arith in
    let rest_each : EachRow rows (Among (remove sets a.row)) = λ i h. among_removed sets a.row a.there (get_or rows i nothing) (other i h) (each (suc i) (omega arith)) in
    let rest = pigeons rows (remove sets a.row) rest_once rest_each in
    omega arith

-- where the rows fill every place and one more is not among them, no list of so many sets has all
pub no_room : (capacity : ℕ) (P : Numbers → Type 0) (rows : List Numbers) (p : Numbers) → EachRow rows P → Once rows → length rows ≡ capacity → P p → (Among rows p → ⊥) → AtMost capacity P → ⊥
no_room capacity P rows p each once full m new most =
    let few = most.few in
    let many = pigeons (p ∷ rows) most.sets more_once more_each in
    omega arith where
      more_each : EachRow (p ∷ rows) (Among most.sets)
      more_each zero h = most.all p m
      more_each (suc i) h = most.all (get_or rows i nothing) (each i (omega arith))

      more_once : Once (p ∷ rows)
      more_once zero zero hi hj e = refl
      more_once zero (suc j) hi hj e = absurd (new (record { row = j; there = omega arith; same = λ k. sym (e k) }))
      more_once (suc i) zero hi hj e = absurd (new (record { row = i; there = omega arith; same = e }))
      more_once (suc i) (suc j) hi hj e = ap suc (once i j (omega arith) (omega arith) e)
