-- The dual of a structure function. Assumes nothing.
--
-- It works in a state exactly when the system does not work in the state with every item the other way. So a set of items is a
-- minimal path of the dual exactly when it is a minimal cut.
use Rattle.std.specs.Prelude.{ℕ, not, nat_lt}
use Rattle.std.proofs.Common.{T_not, ltb→lt}
use Rattle.std.proofs.Math.Dec.{not_T}
use Rattle.sets.specs.Sets.{Numbers, Within, Below}
use Rattle.sets.specs.Truth.{and_T, T_and}
use Rattle.systems.specs.Systems.{Structure, others}

pub others_below : (n : ℕ) (s : Numbers) → Below n (others n s)
others_below n s k t = ltb→lt k n (and_T (nat_lt k n) (not (s k)) t).0

pub others_less : (n : ℕ) (s t : Numbers) → Within s t → Within (others n t) (others n s)
others_less n s t h k o =
    let p = and_T (nat_lt k n) (not (t k)) o in
    T_and (nat_lt k n) (not (s k)) p.0 (not_T (s k) (λ m. T_not (t k) p.1 (h k m)))

abbrev pub dual : Structure → Structure
dual φ = record {
  items = φ.items;
  works = λ s. not (φ.works (others φ.items s));
  monotone = λ s t a b h w.
      not_T (φ.works (others φ.items t)) (λ u. T_not (φ.works (others φ.items s)) w
      (φ.monotone (others φ.items t) (others φ.items s) (others_below φ.items t) (others_below φ.items s) (others_less φ.items s t h) u));
}
