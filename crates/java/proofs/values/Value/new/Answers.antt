use Rattle.std.proofs.Common.{Some, rules}
use Rattle.java.proofs.Ranges.{constructed}
use Rattle.java.proofs.values.Value.new.Goals as goal

pub returns-clause-exact : goal.returns-clause-exact
returns-clause-exact c = constructed _ _ (Some c.with_number.result) (search rules)
