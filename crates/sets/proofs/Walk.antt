-- How far a walk over a set's members has come.
use Rattle.std.proofs.Common.{◌≡◌, ℕ, ◌+◌, ◌≤◌, true, false, not, ◌&&◌, ◌||◌, ◌==◌, nat_lt, T, sym, refl, ap, ap₂, ◌∙◌, subst, inl, inr, arith}
use Rattle.std.proofs.Math.Bool.{and-true, and-false}
use Rattle.std.proofs.lemmas.Bool.{cases_eq, cases_lt, eq-eqb, ne_eqb, lt-ltb, le-ltb}
use Rattle.sets.specs.Sets.{Numbers, nothing, with, without, Within, Same, Lowest, NoneFrom}
use Rattle.sets.specs.Truth.{holds_true, fails_false, and_T}

-- the members of s below n
abbrev pub so_far : Numbers → ℕ → Numbers
so_far s n j = nat_lt j n && s j

-- the members of s but for those that are left, r
abbrev pub but : Numbers → Numbers → Numbers
but s r j = s j && not (r j)

-- the member k of what is left is walked over
pub but_with : (s r left : Numbers) (k : ℕ) → Within r s → T (r k) → Same left (without r k) → Same (but s left) (with (but s r) k)
but_with s r left k inside m e j =
    elim (cases_eq j k) [
      | inl q ↦
          let in' : s j ≡ true = holds_true (s j) (inside j (subst (λ i. T (r i)) (sym q) m)) in
          let out : left j ≡ false = e j ∙ ap (λ b. not b && r j) (eq-eqb j k q) in
          ap₂ (λ a b. a && not b) in' out ∙ sym (ap (λ b. b || but s r j) (eq-eqb j k q))
      | inr n ↦
          ap (λ b. s j && not b) (e j ∙ ap (λ b. not b && r j) (ne_eqb j k n)) ∙ sym (ap (λ b. b || but s r j) (ne_eqb j k n))
    ]

pub but_none : (s r : Numbers) → Same r s → Same (but s r) nothing
but_none s r e j = ap (λ b. s j && not b) (e j) ∙ elim (s j) as (λ b. (b && not b) ≡ false) [ true ↦ refl | false ↦ refl ]

pub but_all : (s r : Numbers) → Same r nothing → Same (but s r) s
but_all s r e j = ap (λ b. s j && not b) (e j) ∙ and-true (s j)

pub left_within : (s r left : Numbers) (k : ℕ) → Within r s → Same left (without r k) → Within left s
left_within s r left k inside e j t = inside j (and_T (not (j == k)) (r j) (subst T (e j) t)).1

-- ---- by the members so far
pub so_far_none : (s : Numbers) → Same (so_far s 0) nothing
so_far_none s j = ap (λ b. b && s j) (le-ltb j 0 (omega arith))

so_far_next : (s : Numbers) (from k : ℕ) → Lowest s from k → (so_far s from k ≡ false) × (so_far s (k + 1) k ≡ true) × ((j : ℕ) → (j ≡ k → ⊥) → so_far s (k + 1) j ≡ so_far s from j)
so_far_next s from k low = (
  ap (λ b. b && s k) (le-ltb k from low.above),
  ap₂ (λ a b. a && b) (lt-ltb k (k + 1) (omega arith)) (holds_true (s k) low.member),
  λ j n.
      elim (cases_lt j from) [
        | inl lt ↦ ap (λ b. b && s j) (lt-ltb j (k + 1) (omega (arith, low.above)) ∙ sym (lt-ltb j from lt))
        | inr ge ↦
            elim (cases_lt j k) [
              | inl lt ↦
                  let out = fails_false (s j) (λ t. low.first j ge lt t) in
                  ap (λ b. nat_lt j (k + 1) && b) out ∙ and-false (nat_lt j (k + 1)) ∙ sym (and-false (nat_lt j from)) ∙ ap (λ b. nat_lt j from && b) (sym out)
              | inr over ↦ ap (λ b. b && s j) (le-ltb j (k + 1) (above over n) ∙ sym (le-ltb j from ge))
            ]
      ],
)
  where
    above : {j k : ℕ} → k ≤ j → (j ≡ k → ⊥) → k + 1 ≤ j
    above {j} {k} h n = elim (cases_lt k j) [ inl lt ↦ omega arith | inr ge ↦ absurd (n (omega arith)) ]

pub so_far_with : (s : Numbers) (from k : ℕ) → Lowest s from k → Same (so_far s (k + 1)) (with (so_far s from) k)
so_far_with s from k low j =
    let p = so_far_next s from k low in
    elim (cases_eq j k) [
      | inl q ↦ ap (so_far s (k + 1)) q ∙ p.1 ∙ sym (ap (λ b. b || so_far s from j) (eq-eqb j k q))
      | inr n ↦ p.2 j n ∙ sym (ap (λ b. b || so_far s from j) (ne_eqb j k n))
    ]

pub so_far_all : (s : Numbers) (from : ℕ) → NoneFrom s from → Same (so_far s from) s
so_far_all s from none j =
    elim (cases_lt j from) [
      | inl lt ↦ ap (λ b. b && s j) (lt-ltb j from lt)
      | inr ge ↦ let out = fails_false (s j) (λ t. none j ge t) in ap (λ b. nat_lt j from && b) out ∙ and-false (nat_lt j from) ∙ sym out
    ]
