-- The refusals of admission: the number of each rule, and its words.
use Rattle.std.specs.Prelude.{ℕ, List, ◌++◌, Some, None, Ok, Err, codes, decimal, Option, Result}
use Rattle.script.specs.declared.sorts.Pos.{Pos}
use Rattle.semantics.specs.declared.fault.Rule.{Rule}
use Rattle.semantics.specs.declared.fault.Rule.TheVariants as R
use Rattle.semantics.specs.declared.fault.AdmissionFault.{AdmissionFault}

abbrev pub rule_number : Rule → ℕ
rule_number R.Construct = 10
rule_number R.Tree = 11
rule_number R.Children = 12
rule_number R.Label = 13
rule_number R.Scope = 14
rule_number R.Type = 15
rule_number R.Assignment = 16

abbrev pub rule_reason : Rule → List ℕ
rule_reason R.Construct = codes "kind, detail or number is not in the table of kinds"
rule_reason R.Tree = codes "the node is not in its place in a tree"
rule_reason R.Children = codes "the children are not those of the kind"
rule_reason R.Label = codes "the label is nested in itself, or is not that of an enclosing statement or loop"
rule_reason R.Scope = codes "the local is declared twice, or not in scope"
rule_reason R.Type = codes "no typing rule fits"
rule_reason R.Assignment = codes "the local is not assigned on every way to here"

abbrev pub fault_number : AdmissionFault → ℕ
fault_number e = rule_number e.rule

abbrev pub fault_text : AdmissionFault → List ℕ
fault_text e =
    codes "refusal " ++ (decimal (rule_number e.rule) ++ (codes " at place " ++ (decimal e.place.0 ++ (codes ": " ++ rule_reason e.rule))))

-- a refusal by a rule at the place where it is broken, if there is one
abbrev pub refusal : Rule → Option Pos → Result (Unit {0}) AdmissionFault
refusal r None = Ok tt
refusal r (Some p) = Err (record { rule = r; place = p })
