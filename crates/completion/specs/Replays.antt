-- What a replay leaves. Assumes nothing.
--
--   Replays   the answers are those of a run from two tables without rows, and the two memories hold the rows that it ends with
use Rattle.std.specs.Prelude.{ℕ, List, [], take, Result}
use Rattle.sets.specs.Sets.{Numbers}
use Rattle.systems.specs.Systems.{Structure}
use Rattle.tables.specs.Pasts.{Past}
use Rattle.tables.specs.Tables.{Left}
use Rattle.tables.specs.declared.row.Row.{Row}
use Rattle.completion.specs.Runs.{Run}
use Rattle.completion.specs.declared.call.Call.{Call}
use Rattle.completion.specs.declared.call.Answer.{Answer}
use Rattle.completion.specs.declared.refused.Refused.{Refused}
use Rattle.completion.specs.declared.running.Replayed.{Replayed}

pub record Replays {X : Type 0} (mem : X → Numbers) (n a b : ℕ) (holds : Numbers → Type 0) (drawings : List Structure) (calls : List Call) (answers : List (Result Answer Refused)) (paths paths' cuts cuts' : List (Row X)) (r : Replayed) : Type 0 where
  pub us : List Numbers
  pub vs : List Numbers
  pub run : Run n a b holds drawings (take r.made calls) [] [] (take r.made answers) us vs
  pub past : Past n a b holds us vs
  pub path_memory : Left mem paths paths' a r.paths us
  pub cut_memory : Left mem cuts cuts' b r.cuts vs
