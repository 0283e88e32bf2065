-- Lists of rows: what holds of each, and a row within a set.
use Rattle.std.proofs.Common.{◌≡◌, ℕ, zero, suc, ◌+◌, ◌<◌, Bool, true, List, [], ◌∷◌, ◌++◌, length, get_or, take, drop, filter, sym, refl, ap, subst, inl, inr, arith}
use Rattle.std.specs.List.{remove}
use Rattle.std.proofs.lemmas.Bool.{cases_Bool, cond-true, cond-false}
use Rattle.std.proofs.lemmas.List.{length-append, length_push, get_or_append_left, get_or-append-add, get_or_push}
use Rattle.std.proofs.lemmas.List.Elements.{All-get_or, All-from_get_or, All-append, All-filter, All-push, All-take, All-drop}
use Rattle.sets.specs.Sets.{Numbers, nothing, Within}
use Rattle.systems.specs.Systems.{Works, EachRow}

-- ---- what holds of each row

module _ (P : Numbers → Type 0) where
  pub each_left : (xs ys : List Numbers) → EachRow (xs ++ ys) P → EachRow xs P
  each_left xs ys e i h = subst P (get_or_append_left xs ys nothing i h) (e i (omega (arith, length-append xs ys)))

  pub each_right : (xs ys : List Numbers) → EachRow (xs ++ ys) P → EachRow ys P
  each_right xs ys e i h = subst P (get_or-append-add xs ys i nothing) (e (length xs + i) (omega (arith, length-append xs ys)))

  pub each_append : (xs ys : List Numbers) → EachRow xs P → EachRow ys P → EachRow (xs ++ ys) P
  each_append xs ys a b i h = All-get_or P (xs ++ ys) i nothing h (All-append P xs ys (All-from_get_or P xs nothing a) (All-from_get_or P ys nothing b))

  pub each_push : (xs : List Numbers) (x : Numbers) → EachRow xs P → P x → EachRow (xs ++ x ∷ []) P
  each_push xs x e p i h = All-get_or P (xs ++ x ∷ []) i nothing h (All-push P xs x (All-from_get_or P xs nothing e) p)

  pub each_kept : (q : Numbers → Bool) (xs : List Numbers) → EachRow xs P → EachRow (filter q xs) P
  each_kept q xs e i h = All-get_or P (filter q xs) i nothing h (All-filter q P xs (All-from_get_or P xs nothing e))

  pub each_removed : (xs : List Numbers) (at : ℕ) → EachRow xs P → EachRow (remove xs at) P
  each_removed xs at e i h =
      let all = All-from_get_or P xs nothing e in
      All-get_or P (remove xs at) i nothing h (All-append P (take at xs) (drop (suc at) xs) (All-take P at xs all) (All-drop P (suc at) xs all))

-- ---- a row within a set

works_first : (x : Numbers) (xs : List Numbers) (s : Numbers) → Within x s → Works (x ∷ xs) s
works_first x xs s h = record { row = 0; there = omega arith; up = h }

works_later : (x : Numbers) (xs : List Numbers) (s : Numbers) → Works xs s → Works (x ∷ xs) s
works_later x xs s w = record { row = suc w.row; there = omega (arith, w.there); up = w.up }

pub works_front : (xs ys : List Numbers) (s : Numbers) → Works xs s → Works (xs ++ ys) s
works_front xs ys s w = record {
  row = w.row;
  there = omega (arith, w.there, length-append xs ys);
  up = subst (λ (v : Numbers). Within v s) (sym (get_or_append_left xs ys nothing w.row w.there)) w.up;
}

pub works_last : (xs : List Numbers) (p s : Numbers) → Within p s → Works (xs ++ p ∷ []) s
works_last xs p s h = record {
  row = length xs;
  there = omega (arith, length_push xs p);
  up = subst (λ (v : Numbers). Within v s) (sym (get_or_push xs p nothing (length xs) refl)) h;
}

-- row i stays, where it is kept
pub works_kept : (q : Numbers → Bool) (xs : List Numbers) (s : Numbers) (i : ℕ) → i < length xs → q (get_or xs i nothing) ≡ true → Within (get_or xs i nothing) s → Works (filter q xs) s
works_kept q [] s i h e w = absurd (omega arith)
works_kept q (x ∷ xs) s zero h e w = subst (λ l. Works l s) (sym (cond-true (q x) (x ∷ filter q xs) (filter q xs) e)) (works_first x (filter q xs) s w)
works_kept q (x ∷ xs) s (suc i) h e w =
    let rest = works_kept q xs s i (omega arith) e w in
    elim (cases_Bool (q x)) [
      | inl b ↦ subst (λ l. Works l s) (sym (cond-true (q x) (x ∷ filter q xs) (filter q xs) b)) (works_later x (filter q xs) s rest)
      | inr b ↦ subst (λ l. Works l s) (sym (cond-false (q x) (x ∷ filter q xs) (filter q xs) b)) rest
    ]

-- row i stays, where another is removed
pub works_removed : (xs : List Numbers) (at i : ℕ) (s : Numbers) → i < length xs → (i ≡ at → ⊥) → Within (get_or xs i nothing) s → Works (remove xs at) s
works_removed [] at i s h ne w = absurd (omega arith)
works_removed (x ∷ xs) zero zero s h ne w = absurd (ne refl)
works_removed (x ∷ xs) zero (suc i) s h ne w = record { row = i; there = omega arith; up = w }
works_removed (x ∷ xs) (suc at) zero s h ne w = works_first x (remove xs at) s w
works_removed (x ∷ xs) (suc at) (suc i) s h ne w = works_later x (remove xs at) s (works_removed xs at i s (omega arith) (λ e. ne (ap suc e)) w)

pub removed_at : (xs : List Numbers) (y : Numbers) (zs : List Numbers) → remove (xs ++ y ∷ zs) (length xs) ≡ xs ++ zs
removed_at [] y zs = refl
removed_at (x ∷ xs) y zs = ap (λ l. x ∷ l) (removed_at xs y zs)
