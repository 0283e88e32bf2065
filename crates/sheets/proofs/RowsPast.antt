-- Rows that are read go on with a past.
use Rattle.std.proofs.Common.{ℕ, List, Result}
use Rattle.sets.specs.Sets.{Numbers, nothing}
use Rattle.tables.specs.Pasts.{Past}
use Rattle.tables.proofs.Histories.{calls_go_on}
use Rattle.sheets.specs.Bytes.{Bytes}
use Rattle.sheets.specs.Rows.{RowLine, Run, run_none, run_path, run_cuts, RowsEnd, end_all, end_unformed, end_lost, end_path, end_cuts, RowsRead}
use Rattle.sheets.specs.declared.rows_fault.RowsFault.{RowsFault}

module _ (n a b : ℕ) (holds : Numbers → Type 0) (none : holds nothing) (names : List Bytes) where
  run_past : (ps cs qs ds : List Numbers) (rs : List RowLine) → Run n a b holds names ps cs rs qs ds → Past n a b holds ps cs → Past n a b holds qs ds
  run_past ps cs qs ds rs (run_none x y) past = past
  run_past ps cs qs ds rs (run_path x y us z e ls ks many ts f l p more) past = run_past us y z e ts more ((calls_go_on holds none).path_puts n a b x y us ks _ past p)
  run_past ps cs qs ds rs (run_cuts x y us z e ls ks many ts f l p more) past = run_past x us z e ts more ((calls_go_on holds none).cut_puts n a b x y us ks _ past p)

  end_past : (us vs qs ds : List Numbers) (rest : Bytes) (nth : ℕ) (r : Result (Unit {0}) RowsFault) → RowsEnd n a b holds names us vs rest nth r qs ds → Past n a b holds us vs → Past n a b holds qs ds
  end_past us vs qs ds rest nth r (end_all e) past = past
  end_past us vs qs ds rest nth r (end_unformed e f) past = past
  end_past us vs qs ds rest nth r (end_lost q f i lt h) past = past
  end_past us vs qs ds rest nth r (end_path ls ks fault ts f l p) past = (calls_go_on holds none).path_puts n a b us vs ts ks _ past p
  end_past us vs qs ds rest nth r (end_cuts ls ks fault ts f l p) past = (calls_go_on holds none).cut_puts n a b us vs ts ks _ past p

  pub read_past : (text : Bytes) (nth : ℕ) (ps cs qs ds : List Numbers) (r : Result (Unit {0}) RowsFault) → RowsRead n a b holds names text nth ps cs r qs ds → Past n a b holds ps cs → Past n a b holds qs ds
  read_past text nth ps cs qs ds r h past = end_past h.us h.vs qs ds h.rest _ r h.end (run_past ps cs h.us h.vs h.rows h.run past)
