-- The labels of items, looked up again, name the items.
use Rattle.std.proofs.Common.{ℕ, suc, ◌<◌, List, [], ◌∷◌, length, get_or, refl, arith}
use Rattle.sheets.specs.Bytes.{Bytes, Labels}
use Rattle.sheets.specs.Items.{Accepted}
use Rattle.sheets.specs.Looks.{Looked, looked_none, looked_more}
use Rattle.writing.specs.SheetTexts.{labels_at}

module _ (names : List Bytes) (ok : Accepted names) where
  pub looked_back : (ks : List ℕ) → ((i : ℕ) → i < length ks → get_or ks i 0 < length names) → Looked names (labels_at names ks) ks
  looked_back [] low = looked_none
  looked_back (k ∷ ks) low =
      let lt : k < length names = low 0 (omega arith) in
      looked_more (get_or names k []) k (labels_at names ks) ks
      (record { there = lt; same = refl; lowest = λ j h e. ok.apart j k h lt e })
      (looked_back ks (λ i h. low (suc i) (omega arith)))

  pub labels_back : (ks : List ℕ) → ((i : ℕ) → i < length ks → get_or ks i 0 < length names) → Labels (labels_at names ks)
  labels_back [] low = tt
  labels_back (k ∷ ks) low = (ok.labels k (low 0 (omega arith)), labels_back ks (λ i h. low (suc i) (omega arith)))
