use Rattle.std.proofs.Common.{arith}
use Rattle.std.proofs.lemmas.Bool.Decides.{nat_tests}
use Rattle.sheets.proofs.Columns.{columns_right}
use Rattle.sheets.proofs.line.read_number.Goals as goal

pub returns-in-32-eq32-48-to-57 : goal.returns-in-32-eq32-48-to-57
returns-in-32-eq32-48-to-57 c = columns_right _ _ _ _ (omega arith) (grind (arith, nat_tests)) (grind (arith, nat_tests)) (omega arith)

pub returns-in-32-49-to-57-48-to-57 : goal.returns-in-32-49-to-57-48-to-57
returns-in-32-49-to-57-48-to-57 c = columns_right _ _ _ _ (omega arith) (grind (arith, nat_tests)) (grind (arith, nat_tests)) (omega arith)

pub returns-in-49-to-57-48-to-57-48-to-57 : goal.returns-in-49-to-57-48-to-57-48-to-57
returns-in-49-to-57-48-to-57-48-to-57 c = columns_right _ _ _ _ (omega arith) (grind (arith, nat_tests)) (grind (arith, nat_tests)) (omega arith)
