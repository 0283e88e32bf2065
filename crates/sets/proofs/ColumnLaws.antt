-- What columns owe, member by member.
use Rattle.std.proofs.Common.{◌≡◌, ℕ, ◌<◌, Bool, true, false, ◌&&◌, ◌||◌, ◌==◌, cond, nat_lt, T, Decides, List, length, get_or, set, replicate, ◌%◌, ◌⊎◌, ◌≤◌, sym, refl, ap, ap₂, ◌∙◌, subst, inl, inr, ⊎_elim, get_or-set_same, get_or-set_other}
use Rattle.std.proofs.lemmas.Bool.{and_right, or_right, cases_eq, cases_lt, eq-eqb, ne_eqb, lt-ltb, eqb-true, false≢true}
use Rattle.std.proofs.lemmas.List.{length-replicate, get_or-replicate, get_or_past}
use Rattle.sets.specs.Sets.{Numbers, nothing, with, Same}
use Rattle.sets.proofs.WordLaws.{word_none}
use Rattle.sets.specs.Truth.{holds_true, true_holds}
use Rattle.sets.specs.Marks.{marked}
use Rattle.sets.specs.Masks.{low_marked}
use Rattle.sets.specs.Columns.{column, unmarked, Joined}
use Rattle.sets.specs.declared.marks.Marks.{Marks}
use Rattle.sets.specs.declared.columns.Columns.{Columns}

pub column_none : (m : Marks) → Same (marked m) nothing → (k : ℕ) → Same (low_marked (get_or (replicate 256 m) k unmarked)) nothing
unfolding marked
column_none m none k j =
    and_right (nat_lt j 256) (marked (get_or (replicate 256 m) k unmarked) j)
    (⊎_elim
    (λ l. ap (λ x. marked x j) (get_or-replicate 256 k m unmarked l) ∙ none j)
    (λ h. ap (λ x. marked x j) (get_or_past (replicate 256 m) k unmarked (simp length-replicate h)) ∙ word_none (j % 64))
    (cases_lt k 256))

-- no column is past the last
pub column_past : (cs : List Marks) (k : ℕ) (m : Marks) (j : ℕ) → length cs ≤ k → Same (marked m) nothing → low_marked m j ≡ low_marked (get_or cs k unmarked) j
unfolding marked
column_past cs k m j h none = ap (λ b. nat_lt j 256 && b) (none j ∙ sym (word_none (j % 64)) ∙ sym (ap (λ x. marked x j) (get_or_past cs k unmarked h)))

-- ---- one place put into one column
here_or : (l p b : Bool) → (p ≡ true → l ≡ true) → (l && cond p true b) ≡ cond p true (l && b)
here_or l true b h = ap (λ x. x && true) (h refl)
here_or true false b h = refl
here_or false false b h = refl

within_most : (place j : ℕ) → (nat_lt place 256 && j == place) ≡ true → nat_lt j 256 ≡ true
within_most place j e = go (nat_lt place 256) refl e where
  go : (b : Bool) → nat_lt place 256 ≡ b → (b && j == place) ≡ true → nat_lt j 256 ≡ true
  go true l e = ap (λ i. nat_lt i 256) (eqb-true j place e) ∙ l
  go false l e = absurd (false≢true e)

pub column_put : (cs : List Marks) (k place : ℕ) (m : Marks) → k < length cs → k < 256
    → Same (marked m) (λ j. cond (nat_lt place 256 && j == place) true (marked (get_or cs k unmarked) j))
    → (i j : ℕ) → low_marked (get_or (set cs k m) i unmarked) j ≡ cond ((nat_lt k 256 && i == k) && (nat_lt place 256 && j == place)) true (low_marked (get_or cs i unmarked) j)
column_put cs k place m h l is i j =
    elim (cases_eq i k) [
      | inl q ↦
          let p = nat_lt place 256 && j == place in
          let a = ap (λ x. low_marked x j) (ap (λ n. get_or (set cs k m) n unmarked) q ∙ get_or-set_same cs k m unmarked h) in
          let b = ap (λ x. nat_lt j 256 && x) (is j) ∙ here_or (nat_lt j 256) p (marked (get_or cs k unmarked) j) (within_most place j) in
          let c : ((nat_lt k 256 && i == k) && p) ≡ p = ap₂ (λ x y. (x && y) && p) (lt-ltb k 256 l) (eq-eqb i k q) in
          a ∙ b ∙ sym (ap₂ (λ x n. cond x true (low_marked (get_or cs n unmarked) j)) c q)
      | inr n ↦
          ap (λ x. low_marked x j) (get_or-set_other cs k i m unmarked n)
          ∙ sym (ap₂ (λ x y. cond ((x && y) && (nat_lt place 256 && j == place)) true (low_marked (get_or cs i unmarked) j)) (lt-ltb k 256 l) (ne_eqb i k n))
    ]

-- ---- the place put into the columns of some numbers
abbrev pub PutFor : Columns → Columns → Numbers → ℕ → Type 0
PutFor old new d place = (i j : ℕ) → column new i j ≡ cond (d i && (nat_lt place 256 && j == place)) true (column old i j)

pub put_none : (old : Columns) (d : Numbers) (place : ℕ) → Same d nothing → PutFor old old d place
put_none old d place e i j = sym (ap (λ b. cond (b && (nat_lt place 256 && j == place)) true (column old i j)) (e i))

pub put_same : (old new : Columns) (d e : Numbers) (place : ℕ) → Same d e → PutFor old new d place → PutFor old new e place
put_same old new d e place s h i j = h i j ∙ ap (λ b. cond (b && (nat_lt place 256 && j == place)) true (column old i j)) (s i)

again : (b d p x : Bool) → cond (b && p) true (cond (d && p) true x) ≡ cond ((b || d) && p) true x
again true true true x = refl
again true true false x = refl
again true false p x = refl
again false d p x = refl

pub put_more : (old mid new : Columns) (d e : Numbers) (k place : ℕ) → k < 256 → Same e (with d k)
    → ((i j : ℕ) → column new i j ≡ cond ((nat_lt k 256 && i == k) && (nat_lt place 256 && j == place)) true (column mid i j)) → PutFor old mid d place → PutFor old new e place
put_more old mid new d e k place l s h so_far i j =
    let p = nat_lt place 256 && j == place in
    h i j
    ∙ ap₂ (λ b x. cond ((b && i == k) && p) true x) (lt-ltb k 256 l) (so_far i j)
    ∙ again (i == k) (d i) p (column old i j)
    ∙ sym (ap (λ b. cond (b && p) true (column old i j)) (s i))

-- ---- the columns of some numbers joined
abbrev pub JoinedFor : Columns → Marks → Numbers → Type 0
JoinedFor c m d = (j : ℕ) → Decides (low_marked m j) (Joined c d j)

pub joined_none : (c : Columns) (m : Marks) (d : Numbers) → Same (marked m) nothing → Same d nothing → JoinedFor c m d
joined_none c m d none e j = (
  λ h. absurd (false≢true (sym (and_right (nat_lt j 256) (marked m j) (none j)) ∙ h)),
  λ w. absurd (subst T (e w.number) w.member),
)

pub joined_same : (c : Columns) (m : Marks) (d e : Numbers) → Same d e → JoinedFor c m d → JoinedFor c m e
joined_same c m d e s h j = (
  λ b. let w = (h j).0 b in record { number = w.number; member = subst T (s w.number) w.member; stands = w.stands },
  λ w. (h j).1 (record { number = w.number; member = subst T (sym (s w.number)) w.member; stands = w.stands }),
)

pub joined_more : (c : Columns) (old one new : Marks) (d e : Numbers) (k : ℕ) → Same e (with d k) → Same (low_marked one) (column c k)
    → Same (low_marked new) (λ j. low_marked old j || low_marked one j) → JoinedFor c old d → JoinedFor c new e
joined_more c old one new d e k s is both h j = (
  λ b. go (low_marked old j) refl (sym (both j) ∙ b),
  λ w. both j ∙ there w (cases_eq w.number k),
)
  where
    go : (b : Bool) → low_marked old j ≡ b → (b || low_marked one j) ≡ true → Joined c e j
    go true q t = let w = (h j).0 q in record { number = w.number; member = subst T (sym (s w.number)) (true_holds (w.number == k || d w.number) (or_right (w.number == k) (d w.number) (holds_true (d w.number) w.member))); stands = w.stands }
    go false q t = record {
      number = k;
      member = subst T (sym (s k)) (true_holds (k == k || d k) (ap (λ b. b || d k) (eq-eqb k k refl)));
      stands = true_holds (column c k j) (sym (is j) ∙ t);
    }

    there : (w : Joined c e j) → (w.number ≡ k) ⊎ (w.number ≡ k → ⊥) → (low_marked old j || low_marked one j) ≡ true
    there w (inl q) = or_right (low_marked old j) (low_marked one j) (is j ∙ holds_true (column c k j) (subst (λ n. T (column c n j)) q w.stands))
    there w (inr n) =
        let member : T (d w.number) = subst T (ap (λ b. b || d w.number) (ne_eqb w.number k n)) (subst T (s w.number) w.member) in
        ap (λ b. b || low_marked one j) ((h j).1 (record { number = w.number; member = member; stands = w.stands }))
