-- The places before were passed.
use Rattle.script.specs.Tables.{script_of}
use Rattle.admission.specs.Seen.{Passed}
use Rattle.admission.proofs.names.first_unkept.Given as goal

abbrev pub invariant-loop-p : goal.invariant-loop-p
invariant-loop-p g l = Passed g.R.NameRule.rule g.R.NameRule.introduced (script_of l.table) l.latest.places l.p
