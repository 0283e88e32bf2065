-- Why a call of a run is refused. Assumes nothing.
--
--   refused_number  the refusal's number; that there is no such drawing has none
--   refused_text    what it says, with its values
use Rattle.std.specs.Prelude.{ℕ, List, codes, None, Some, Option}
use Rattle.tables.specs.Refusals.{table_refusal, table_text}
use Rattle.duality.specs.Pairs.{pair_refusal, pair_text}
use Rattle.completion.specs.Completions.{completion_refusal, completion_text}
use Rattle.completion.specs.declared.refused.Refused.{Refused}
use Rattle.completion.specs.declared.refused.Refused.TheVariants.{Table, Pair, Completion, NoDrawing}

abbrev pub refused_number : Refused → Option ℕ
refused_number (Table fault) = Some (table_refusal fault).number
refused_number (Pair fault) = Some (pair_refusal fault).number
refused_number (Completion fault) = Some (completion_refusal fault).number
refused_number (NoDrawing number) = None

abbrev pub refused_text : Refused → List ℕ
refused_text (Table fault) = table_text fault
refused_text (Pair fault) = pair_text fault
refused_text (Completion fault) = completion_text fault
refused_text (NoDrawing number) = codes "there is no such drawing"
