-- The length has its number.
use Rattle.std.proofs.Common.{rules}
use Rattle.clib.proofs.Rewritten.{sheet_len}
use Rattle.clib.proofs.rewriting.gomzietis_sheet.Goals as goal

pub overflow_cast-result : goal.overflow_cast-result
overflow_cast-result c = let h = sheet_len c.in-Ok.ensures in search (rules, h)

pub returns-in-Ok : goal.returns-in-Ok
returns-in-Ok c = let h = sheet_len c.in-Ok.ensures in record { answer = _; sheet = c.in-Ok.ensures; code_is = search (rules, h) }
