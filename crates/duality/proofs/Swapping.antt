-- Masks are sifted in place, and each is swapped, one that does not pass too.
use Rattle.std.proofs.Common.{◌≡◌, ℕ, ◌+◌, ◌<◌, ◌≤◌, Bool, true, false, List, length, get_or, take, drop, ap, ◌∙◌, subst, arith}
use Rattle.std.proofs.lemmas.List.{length-set, take-set-le, drop-set-lt}
use Rattle.std.proofs.lemmas.List.Filters.{FiltersInPlace, FiltersInPlace-more_swap, FiltersInPlace-more_no}
use Rattle.std.specs.Int.{from_bool}
use Rattle.std.specs.List.{SwappedAt}

module _ {X : Type 0} {p : X → Bool} {xs ys zs : List X} {k i : ℕ} where
  -- from place k on nothing that passes stands yet, so what a swap puts there harms nothing
  swapped_behind : (x : X) → FiltersInPlace p xs ys k (i + 1) → k ≤ i → SwappedAt ys zs k i → FiltersInPlace p xs zs k (i + 1)
  swapped_behind x h le s =
      let sets = s.3 x in
      record {
        front = ap (take k) sets ∙ take-set-le k _ i _ le ∙ take-set-le k ys k _ (omega arith) ∙ h.front;
        rest = ap (drop (i + 1)) sets ∙ drop-set-lt (i + 1) _ i _ (omega arith) ∙ drop-set-lt (i + 1) ys k _ (omega arith) ∙ h.rest;
        behind = h.behind;
        within = h.within;
        long = ap length sets ∙ length-set _ i _ ∙ length-set ys k _ ∙ h.long;
      }

  -- `v.swap(k, i); k += usize::from(passed)`
  pub filtered_more : {x : X} → FiltersInPlace p xs ys k i → i < length ys → x ≡ get_or ys i x → SwappedAt ys zs k i → (b : Bool) (n : ℕ) → p x ≡ b → n ≡ from_bool b → FiltersInPlace p xs zs (k + n) (i + 1)
  filtered_more h lt is s true n e count =
      let one : k + 1 ≡ k + n = omega (arith, count) in
      subst (λ m. FiltersInPlace p xs zs m (i + 1)) one (FiltersInPlace-more_swap h lt e is s)
  filtered_more {x} h lt is s false n e count =
      let none : k ≡ k + n = omega (arith, count) in
      subst (λ m. FiltersInPlace p xs zs m (i + 1)) none (swapped_behind x (FiltersInPlace-more_no h lt e is) h.behind s)

pub bool_most : (b : Bool) (n : ℕ) → n ≡ from_bool b → n ≤ 1
bool_most true n count = omega (arith, count)
bool_most false n count = omega (arith, count)
