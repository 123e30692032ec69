-- The script of good form that is held.
use Rattle.script.specs.Scripts.{Script}
use Rattle.script.specs.Tables.{script_of}
use Rattle.structure.specs.declared.formed.Formed.{Formed}

abbrev pub formed_script : Formed → Script
formed_script f = script_of f.table
