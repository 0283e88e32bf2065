-- A row that is looked up and put.
use Rattle.std.proofs.Common.{◌≡◌, ℕ, ◌≤◌, List, MatchOption, None, Some, Option, Ok, Err, Bor, subst, arith}
use Rattle.std.specs.Option.{ok_or}
use Rattle.sets.specs.Sets.{Numbers}
use Rattle.tables.specs.Refusals.{Reply, answered, refused, table_refusal}
use Rattle.tables.specs.Calls.{Puts}
use Rattle.tables.specs.declared.fault.TableFault.{TableFault}
use Rattle.sheets.specs.Bytes.{Bytes}
use Rattle.sheets.specs.Looks.{Found, Lost}
use Rattle.sheets.specs.RowPuts.{RowPut, row_put, row_refused}
use Rattle.sheets.specs.declared.putting.RowFault.{RowFault}
use Rattle.sheets.specs.declared.putting.RowFault.TheVariants.{NoItem, Table}
use Rattle.sheets.proofs.PutItems.{puts_whole}

module _ (names : List Bytes) (row : Bytes) (most : ℕ) where
  pub is_lost : (r : Option (Bor (List ℕ))) (e : RowFault) → MatchOption r (Lost names row) (λ items. Found names row most items.now) → Err e ≡ ok_or r NoItem → Lost names row × (e ≡ NoItem)
  is_lost None e h is = (h, cc)
  is_lost (Some x) e h is = absurd (cc)

  pub is_found : (r : Option (Bor (List ℕ))) (x : Bor (List ℕ)) → MatchOption r (Lost names row) (λ items. Found names row most items.now) → r ≡ Some x → Found names row most x.now
  is_found None x h is = absurd (cc)
  is_found (Some y) x h is = let e : y ≡ x = cc in subst (λ (z : Bor (List ℕ)). Found names row most z.now) e h

module _ (n capacity : ℕ) (holds : Numbers → Type 0) (names : List Bytes) (row : Bytes) (ps qs : List Numbers) (ks : List ℕ) (few : n ≤ 256) (f : Found names row 257 ks) where
  whole : (r : Reply ℕ) → Puts n capacity holds ps ks r qs → Puts n capacity holds ps f.items r qs
  whole r h = puts_whole n 257 holds f.items capacity ps (omega arith) r qs (subst (λ (z : List ℕ). Puts n capacity holds ps z r qs) f.first h)

  pub row_answered : (many : ℕ) → Puts n capacity holds ps ks (answered many) qs → RowPut n capacity holds names row ps (Ok tt) qs
  row_answered many h = row_put f.labels f.items many qs f.formed f.parts f.looked (whole (answered many) h)

  pub row_not : (fault : TableFault) → Puts n capacity holds ps ks (refused (table_refusal fault).number (table_refusal fault).values) qs → RowPut n capacity holds names row ps (Err (Table fault)) qs
  row_not fault h = row_refused f.labels f.items fault qs f.formed f.parts f.looked (whole _ h)
