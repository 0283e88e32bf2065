-- Which line a line is: what its bytes say, one by one.
use Rattle.std.proofs.Common.{◌≡◌, ℕ, ◌+◌, ◌-◌, ◌%◌, ◌<◌, ◌≤◌, [], ◌∷◌, ◌++◌, length, get_or, take, drop, codes, sym, refl, ap, ◌∙◌, subst, arith}
use Rattle.std.proofs.lemmas.List.{take_rest, append_cancel_left}
use Rattle.sheets.specs.Bytes.{Bytes, Label, Row, item_line, right}
use Rattle.sheets.specs.Lines.{Begins, IsItem, NoItem, NoRow, Unformed}
use Rattle.sheets.proofs.Columns.{hundreds, tens, right_3}

-- the bytes of an ITEM line, one by one
pub item_bytes : (n : ℕ) (l : Bytes) → n < 1000 → item_line n l ≡ 73 ∷ 84 ∷ 69 ∷ 77 ∷ 32 ∷ hundreds n ∷ tens n ∷ (48 + n % 10) ∷ 32 ∷ l
unfolding item_line
item_bytes n l small = ap (λ (z : Bytes). codes "ITEM " ++ (z ++ (32 ∷ l))) (right_3 n small)

pub three : (t : Bytes) → 3 ≤ length t → t ≡ get_or t 0 0 ∷ get_or t 1 0 ∷ get_or t 2 0 ∷ take (length t - 3) (drop 3 t)
three [] h = absurd (omega arith)
three (a ∷ []) h = absurd (omega arith)
three (a ∷ b ∷ []) h = absurd (omega arith)
three (a ∷ b ∷ c ∷ t) h = rw (take_rest (a ∷ b ∷ c ∷ t) 3) refl

-- what stands behind the first space of an ITEM line
item_behind : (a b c : ℕ) (tail : Bytes) (n : ℕ) (l : Bytes) → n < 1000 → codes "ITEM " ++ (a ∷ b ∷ c ∷ tail) ≡ item_line n l → (right 3 n ≡ a ∷ b ∷ c ∷ []) × (tail ≡ 32 ∷ l)
item_behind a b c tail n l small e =
    let f = e ∙ item_bytes n l small in
    let g = right_3 n small in
    (cc, cc)

pub no_item_short : (rest : Bytes) → length rest < 3 → NoItem (codes "ITEM " ++ rest)
no_item_short rest h n l small lab e = let f = ap length (e ∙ item_bytes n l small) in omega arith

module _ (a b c : ℕ) (rest tail : Bytes) (parts : rest ≡ a ∷ b ∷ c ∷ tail) where
  whole : codes "ITEM " ++ rest ≡ codes "ITEM " ++ (a ∷ b ∷ c ∷ tail)
  whole = ap (λ (z : Bytes). codes "ITEM " ++ z) parts

  pub no_item_number : ((n : ℕ) → n < 1000 → right 3 n ≡ a ∷ b ∷ c ∷ [] → ⊥) → NoItem (codes "ITEM " ++ rest)
  no_item_number h n l small lab e = h n small (item_behind a b c tail n l small (sym whole ∙ e)).0

  pub no_item_space : (Begins tail (codes " ") → ⊥) → NoItem (codes "ITEM " ++ rest)
  no_item_space h n l small lab e = h (l, (item_behind a b c tail n l small (sym whole ∙ e)).1)

  pub no_item_label : (label : Bytes) → tail ≡ codes " " ++ label → (Label label → ⊥) → NoItem (codes "ITEM " ++ rest)
  no_item_label label f h n l small lab e = let p = item_behind a b c tail n l small (sym whole ∙ e) in let same : l ≡ label = cc in h (subst Label same lab)

  pub item_whole : (n : ℕ) (label : Bytes) → n < 1000 → right 3 n ≡ a ∷ b ∷ c ∷ [] → tail ≡ codes " " ++ label → Label label → IsItem n label (codes "ITEM " ++ rest)
  unfolding item_line
  item_whole n label small cols space lab = (small, lab, whole ∙ rw (cols, space) refl)

no_item_head : (line : Bytes) → (Begins line (codes "ITEM ") → ⊥) → NoItem line
no_item_head line h n l small lab e = h (hundreds n ∷ tens n ∷ (48 + n % 10) ∷ 32 ∷ l, e ∙ item_bytes n l small)

-- a PATH or CUTS line
no_row_head : (line h : Bytes) → (Begins line h → ⊥) → NoRow h line
no_row_head line h n s row e = n (s, e)

no_row_behind : (line h rest : Bytes) → line ≡ h ++ rest → (Row rest → ⊥) → NoRow h line
no_row_behind line h rest e n s row f = n (subst Row (append_cancel_left h s rest (sym f ∙ e)) row)

pub item_path : (s t : Bytes) → codes "ITEM " ++ s ≡ codes "PATH" ++ t → ⊥
item_path s t e = let z : ◌≡◌ {A = ℕ} 73 80 = cc in omega arith

pub item_cuts : (s t : Bytes) → codes "ITEM " ++ s ≡ codes "CUTS" ++ t → ⊥
item_cuts s t e = let z : ◌≡◌ {A = ℕ} 73 67 = cc in omega arith

pub path_cuts : (s t : Bytes) → codes "PATH" ++ s ≡ codes "CUTS" ++ t → ⊥
path_cuts s t e = let z : ◌≡◌ {A = ℕ} 80 67 = cc in omega arith

module _ (line : Bytes) (item : Begins line (codes "ITEM ") → ⊥) where
  pub path_settled : (rest : Bytes) → line ≡ codes "PATH" ++ rest → (Row rest → ⊥) → Unformed line
  path_settled rest e bad = record {
    no_item = no_item_head line item;
    no_path = no_row_behind line (codes "PATH") rest e bad;
    no_cuts = λ s row f. path_cuts rest s (sym e ∙ f);
  }

  pub cuts_settled : (rest : Bytes) → line ≡ codes "CUTS" ++ rest → (Row rest → ⊥) → Unformed line
  cuts_settled rest e bad = record {
    no_item = no_item_head line item;
    no_path = λ s row f. path_cuts s rest (sym f ∙ e);
    no_cuts = no_row_behind line (codes "CUTS") rest e bad;
  }

  pub none_settled : (Begins line (codes "PATH") → ⊥) → (Begins line (codes "CUTS") → ⊥) → Unformed line
  none_settled path cuts = record {
    no_item = no_item_head line item;
    no_path = no_row_head line (codes "PATH") path;
    no_cuts = no_row_head line (codes "CUTS") cuts;
  }
