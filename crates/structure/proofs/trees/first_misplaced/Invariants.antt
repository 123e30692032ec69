use Rattle.script.specs.Tables.{script_of}
use Rattle.structure.proofs.Awaited.{Awaits}
use Rattle.structure.proofs.trees.first_misplaced.Given as goal

abbrev pub invariant-loop-p : goal.invariant-loop-p
invariant-loop-p l = Awaits (script_of l.table) l.next l.p
