-- Rows as callers in C have them. Assumes nothing.
--
--   cut items lens   the rows: the first of these lengths of items, and so on; where the items run out a row has fewer
--   Fills            of a table of n items with this capacity: the rows are put one after the other, in front of which it has the rows ps, and it
--                    has then the rows qs; or the first that is refused ends it
use Rattle.std.specs.Prelude.{ℕ, List, [], ◌∷◌, take, drop, Ok, Err, Result}
use Rattle.sets.specs.Sets.{Numbers}
use Rattle.tables.specs.Calls.{Puts}
use Rattle.tables.specs.Refusals.{answered, refused, table_refusal}
use Rattle.tables.specs.declared.fault.TableFault.{TableFault}

abbrev pub cut : List ℕ → List ℕ → List (List ℕ)
cut items [] = []
cut items (len ∷ lens) = take len items ∷ cut (drop len items) lens

module _ (n capacity : ℕ) (holds : Numbers → Type 0) where
  pub data Fills : List Numbers → List (List ℕ) → Result (Unit {0}) TableFault → List Numbers → Type 0 where
    fills_none : (ps : List Numbers) → Fills ps [] (Ok tt) ps
    fills_next : (ps us qs : List Numbers) (row : List ℕ) (rows : List (List ℕ)) (many : ℕ) (r : Result (Unit {0}) TableFault)
        → Puts n capacity holds ps row (answered many) us → Fills us rows r qs → Fills ps (row ∷ rows) r qs
    fills_refused : (ps qs : List Numbers) (row : List ℕ) (rows : List (List ℕ)) (fault : TableFault)
        → Puts n capacity holds ps row (refused (table_refusal fault).number (table_refusal fault).values) qs → Fills ps (row ∷ rows) (Err fault) qs
