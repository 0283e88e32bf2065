-- Tests as facts. They stand in specs since the laws of an `impl` can cite nothing in proofs/.
use Rattle.std.specs.Prelude.{◌≡◌, Bool, true, false, ◌&&◌, ◌||◌, T, ◌⊎◌, refl}
use Rattle.std.proofs.Common.{sym, subst, inl, inr}

pub holds_true : (b : Bool) → T b → b ≡ true
holds_true true t = refl
holds_true false t = absurd t

pub true_holds : (b : Bool) → b ≡ true → T b
true_holds b e = subst T (sym e) tt

pub fails_false : (b : Bool) → (T b → ⊥) → b ≡ false
fails_false true h = absurd (h tt)
fails_false false h = refl

pub and_T : (a b : Bool) → T (a && b) → T a × T b
and_T true b t = (tt, t)
and_T false b t = absurd t

pub T_and : (a b : Bool) → T a → T b → T (a && b)
T_and true b s t = t
T_and false b s t = absurd s

pub or_T : (a b : Bool) → T (a || b) → T a ⊎ T b
or_T true b t = inl t
or_T false b t = inr t

pub T_or_left : (a b : Bool) → T a → T (a || b)
T_or_left true b t = tt
T_or_left false b t = absurd t

pub T_or_right : (a b : Bool) → T b → T (a || b)
T_or_right true b t = tt
T_or_right false b t = t
