-- The answers, with the count of the code in place of the length of the list.
use Rattle.std.proofs.Common.{◌≡◌, ℕ, ◌+◌, ◌<◌, List, length, Ok, Err, sym, ◌∙◌, subst}
use Rattle.sheets.specs.Bytes.{Bytes}
use Rattle.sheets.specs.Items.{Fronts, Stops, Answers, stop, none, unformed, many, full, again}
use Rattle.sheets.specs.Labels.{First}
use Rattle.sheets.specs.declared.items_fault.ItemsFault.TheVariants.{Unformed, ItemCount, NoPlace, Repeated}

module _ (places : ℕ) (ls : List Bytes) (rest : Bytes) (count : ℕ) (e : length ls ≡ count) where
  pub unformed_at : (Stops rest → ⊥) → ((l : Bytes) → Fronts count rest l → ⊥) → Answers places ls rest (Err (Unformed (count + 1)))
  unformed_at st = subst (λ (k : ℕ). ((l : Bytes) → Fronts k rest l → ⊥) → Answers places ls rest (Err (Unformed (k + 1)))) e (λ n. unformed st n)

  pub many_at : (l : Bytes) → Fronts count rest l → count ≡ 256 → Answers places ls rest (Err (ItemCount 257 257))
  many_at l f h = many l (subst (λ (k : ℕ). Fronts k rest l) (sym e) f) (e ∙ h)

  pub full_at : (l : Bytes) → Fronts count rest l → count < 256 → count ≡ places → Answers places ls rest (Err (NoPlace places (count + 1)))
  full_at l f h r = subst (λ (k : ℕ). Fronts k rest l → k < 256 → k ≡ places → Answers places ls rest (Err (NoPlace places (k + 1)))) e (λ f h r. full l f h r) f h r

  pub again_at : (l : Bytes) (i : ℕ) → Fronts count rest l → count < 256 → count < places → First ls l i → Answers places ls rest (Err (Repeated (count + 1) i))
  again_at l i f h r g = subst (λ (k : ℕ). Fronts k rest l → k < 256 → k < places → Answers places ls rest (Err (Repeated (k + 1) i))) e (λ f h r. again l i f h r g) f h r

  pub stop_at : Stops rest → 0 < count → Answers places ls rest (Ok count)
  stop_at st = subst (λ (k : ℕ). 0 < k → Answers places ls rest (Ok k)) e (λ h. stop st h)

  pub none_at : Stops rest → count ≡ 0 → Answers places ls rest (Err (ItemCount 0 0))
  none_at st h = none st (e ∙ h)
