-- The labels of the items of a row, one after another.
use Rattle.std.proofs.Common.{◌≡◌, ℕ, ◌+◌, ◌-◌, ◌<◌, ◌≤◌, ◌^◌, List, [], ◌∷◌, ◌++◌, length, get_or, ap, ◌∙◌, sym, arith}
use Rattle.sets.specs.Sets.{Numbers, Below, Lowest, NoneFrom}
use Rattle.sets.specs.Members.{members_from}
use Rattle.sets.proofs.Remaining.{none_left, next_left}
use Rattle.sheets.specs.Bytes.{Bytes, spaced}
use Rattle.writing.specs.Pages.{Wrote}
use Rattle.writing.specs.SheetTexts.{labels_at}
use Rattle.writing.specs.declared.page.Page.{Page}
use Rattle.writing.proofs.Going.{Going, going_more, going_room, going_all}
use Rattle.writing.proofs.Writing.{wrote_then}

-- the labels of the items of the row s from the number k on
abbrev labels_from : List Bytes → Numbers → ℕ → Bytes
labels_from names s k = spaced (labels_at names (members_from s k (256 - k)))

-- these labels are left
abbrev pub LabelsLeft : List Bytes → Numbers → ℕ → Page → Page → Type 0
LabelsLeft names s k a b = Going a b (labels_from names s 0) (labels_from names s k)

module _ (names : List Bytes) (s : Numbers) {k : ℕ} {a b : Page} (left : LabelsLeft names s k a b) where
  pub labels_all : NoneFrom s k → Wrote a b (labels_from names s 0)
  labels_all none = going_all left (ap (λ (ks : List ℕ). spaced (labels_at names ks)) (none_left s k (256 - k) none))

  module _ {top m : ℕ} {l : Bytes} (below : Below top s) (small : top ≤ 256) (lowest : Lowest s k m) (is : l ≡ get_or names m []) where
    labels_next : labels_from names s k ≡ (32 ∷ l) ++ labels_from names s (m + 1)
    labels_next =
        ap (λ (ks : List ℕ). spaced (labels_at names ks)) (next_left s 256 k m (λ j t. let b = below j t in omega arith) lowest)
        ∙ ap (λ (z : Bytes). 32 ∷ (z ++ labels_from names s (m + 1))) (sym is)

    pub label_room : a.len + length (labels_from names s 0) < 2 ^ 64 → b.len + (1 + length l) < 2 ^ 64
    label_room fits = let room = going_room (32 ∷ l) (labels_from names s (m + 1)) left fits labels_next in omega arith

    pub labels_more : {c d : Page} → Wrote b c (32 ∷ []) → Wrote c d l → LabelsLeft names s (m + 1) a d
    labels_more w v = going_more left labels_next (wrote_then w v)
