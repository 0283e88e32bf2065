-- The loop that makes a row from a list of item numbers.
use Rattle.std.proofs.Common.{◌≡◌, ℕ, ◌+◌, ◌<◌, ◌≤◌, Bool, true, false, ◌||◌, eqb, List, [], ◌∷◌, ◌++◌, length, get_or, take, sym, refl, ap, ◌∙◌, subst, Ok, Err, Result, MatchResult, arith, below_more}
use Rattle.std.specs.Result.{OnOk, OnErr, IsErrAnd, is_ok}
use Rattle.std.proofs.lemmas.Bool.{true≢false}
use Rattle.std.proofs.lemmas.Result.{err_from_is_err_and}
use mathlib.Core.Path.{fun_ext}
use Rattle.std.proofs.lemmas.List.{take_more, take_all}
use Rattle.sets.specs.Sets.{Numbers, nothing, with, Same, Below, listed}
use Rattle.sets.specs.Listing.{listed_place}
use Rattle.tables.specs.Calls.{Pass, ItemRefused, repeated, cannot_hold}

-- the first i items pass, and s is their set
pub record Gathered (n : ℕ) (holds : Numbers → Type 0) (items : List ℕ) (i : ℕ) (s : Numbers) : Type 0 where
  pub pass : Pass n holds items i
  pub is : s ≡ listed (take i items)

or_rotate : (a b c : Bool) → (a || (b || c)) ≡ (b || (a || c))
or_rotate true true c = refl
or_rotate true false c = refl
or_rotate false b c = refl

pub listed_push : (xs : List ℕ) (y : ℕ) → listed (xs ++ y ∷ []) ≡ with (listed xs) y
listed_push [] y = refl
listed_push (x ∷ xs) y = ap (λ s. with s x) (listed_push xs y) ∙ fun_ext (λ j. or_rotate (eqb j x) (eqb j y) (listed xs j))

listed_more : (items : List ℕ) (i : ℕ) → i < length items → listed (take (i + 1) items) ≡ with (listed (take i items)) (get_or items i 0)
listed_more items i lt = ap listed (take_more items i 0 lt) ∙ listed_push (take i items) (get_or items i 0)

-- r is the result of a call, and s the result of `map_err` on it
pub went_on : {A D E P : Type 0} (r : Result A D) (s : Result A E) (x : A) → s ≡ Ok x → is_ok s ≡ is_ok r → OnOk r P → P
went_on (Ok y) s x e same h = h
went_on (Err d) s x e same h = absurd (true≢false (ap is_ok (sym e) ∙ same))

pub turned_back : {A D E P : Type 0} (Q : D → E → Type 0) (r : Result A D) (s : Result A E) (f : E) → s ≡ Err f → MatchResult r (λ x. s ≡ Ok x) (λ d. IsErrAnd s (Q d)) → OnErr r P → P × (d : D) × Q d f
turned_back Q (Ok y) s f e m h = absurd (cc)
turned_back Q (Err d) s f e m h = let p = err_from_is_err_and s m in let same : p.0 ≡ f = cc in (h, d, subst (Q d) same p.2)

pub gathered_none : (n : ℕ) (holds : Numbers → Type 0) (items : List ℕ) (s : Numbers) → Same s nothing → Gathered n holds items 0 s
gathered_none n holds items s e = record { pass = λ i lt. absurd (omega arith); is = fun_ext e }

module _ (n : ℕ) (holds : Numbers → Type 0) (items : List ℕ) (i : ℕ) (s : Numbers) (lt : i < length items) (h : Gathered n holds items i s) (low : get_or items i 0 < n) where
  -- the set with one item more, as the kind has it and as the list has it
  one_more : with s (get_or items i 0) ≡ listed (take (i + 1) items)
  one_more = ap (λ t. with t (get_or items i 0)) h.is ∙ sym (listed_more items i lt)

  first_time : (b : Bool) → b ≡ s (get_or items i 0) → listed (take i items) (get_or items i 0) ≡ b
  first_time b e = sym (e ∙ ap (λ t. t (get_or items i 0)) h.is)

  pub gathered_repeated : true ≡ s (get_or items i 0) → ItemRefused n holds items 3 (i ∷ [])
  gathered_repeated e = repeated i lt h.pass low (first_time true e)

  pub gathered_cannot_hold : false ≡ s (get_or items i 0) → (holds (with s (get_or items i 0)) → ⊥) → ItemRefused n holds items 4 (i ∷ [])
  gathered_cannot_hold e unheld = cannot_hold i lt h.pass low (first_time false e) (λ k. unheld (subst holds (sym one_more) k))

  pub gathered_more : false ≡ s (get_or items i 0) → (t : Numbers) → holds t → Same t (with s (get_or items i 0)) → Gathered n holds items (i + 1) t
  gathered_more e t k same =
      let is : t ≡ listed (take (i + 1) items) = fun_ext same ∙ one_more in
      record {
        pass = below_more _ _ h.pass (record { below = low; once = first_time false e; held = subst holds is k });
        is = is;
      }

pub gathered_all : (n : ℕ) (holds : Numbers → Type 0) (items : List ℕ) (i : ℕ) (s : Numbers) → length items ≤ i → Gathered n holds items i s → Pass n holds items (length items) × (s ≡ listed items)
gathered_all n holds items i s le h = (λ k lt. h.pass k (omega arith), h.is ∙ ap listed (take_all i items le))

-- what a list whose items all pass is
pub pass_below : (n : ℕ) (holds : Numbers → Type 0) (items : List ℕ) → Pass n holds items (length items) → Below n (listed items)
pass_below n holds items pass k h = let r = listed_place items k 0 h in subst (λ m. m < n) r.2 (pass r.0 r.1).below

pub pass_held : (n : ℕ) (holds : Numbers → Type 0) → holds nothing → (items : List ℕ) → Pass n holds items (length items) → holds (listed items)
pass_held n holds none [] pass = none
pass_held n holds none (x ∷ xs) pass = subst (λ l. holds (listed l)) (take_all (length xs + 1) (x ∷ xs) (omega arith)) (pass (length xs) (omega arith)).held
