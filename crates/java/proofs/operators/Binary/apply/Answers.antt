use Rattle.std.proofs.Common.{rules}
use Rattle.java.proofs.Lawful.{binary_lawful}
use Rattle.java.proofs.operators.Binary.apply.Goals as goal

pub returns-in-Arithmetic-clause-lawful : goal.returns-in-Arithmetic-clause-lawful
returns-in-Arithmetic-clause-lawful c = binary_lawful _ _ _ _ (search rules) (search rules)

pub returns-in-Shift-clause-lawful : goal.returns-in-Shift-clause-lawful
returns-in-Shift-clause-lawful c = binary_lawful _ _ _ _ (search rules) (search rules)

pub returns-in-Comparison-clause-lawful : goal.returns-in-Comparison-clause-lawful
returns-in-Comparison-clause-lawful c = binary_lawful _ _ _ _ (search rules) (search rules)

pub returns-in-Equality-clause-lawful : goal.returns-in-Equality-clause-lawful
returns-in-Equality-clause-lawful c = binary_lawful _ _ _ _ (search rules) (search rules)

pub returns-in-Bitwise-clause-lawful : goal.returns-in-Bitwise-clause-lawful
returns-in-Bitwise-clause-lawful c = binary_lawful _ _ _ _ (search rules) (search rules)
