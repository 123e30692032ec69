-- What holds of every answer to a script, beyond the definition that computes it.
use Rattle.std.specs.Prelude.{◌≡◌, ℕ, ◌<◌, length, Some, Ok, Err, Option, Result}
use Rattle.java.specs.declared.types.Primitive.{Primitive}
use Rattle.script.specs.Scripts.{Script}
use Rattle.script.specs.declared.construct.Construct.{Construct}
use Rattle.script.specs.Constructs.{InSection}
use Rattle.script.specs.Tables.{meaning, size}
use Rattle.semantics.specs.declared.fault.Rule.{Rule}
use Rattle.semantics.specs.declared.fault.Rule.TheVariants as R
use Rattle.semantics.specs.declared.fault.AdmissionFault.{AdmissionFault}
use Rattle.semantics.specs.Trees.{Walked}
use Rattle.semantics.specs.Types.{TypeLaws, type_at}
use Rattle.semantics.specs.Flow.{Facts, FlowLaws, facts}
use Rattle.semantics.specs.Rules.{Admitted, AllKeep, Refused}

-- the types of a script that keeps the rules of tree and children are those of the typing rules, and no others are
pub record TypesExact (s : Script) : Type 0 where
  pub lawful : TypeLaws s (type_at s)
  pub only : (type : ℕ → Option Primitive) → TypeLaws s type → (p : ℕ) → p < size s → type p ≡ type_at s p

-- so are the sets of locals
pub record SetsExact (s : Script) : Type 0 where
  pub lawful : FlowLaws s (facts s)
  pub before_only : (f : Facts) → FlowLaws s f → (p : ℕ) → p < size s → f.before p ≡ (facts s).before p
  pub assigned_only : (f : Facts) → FlowLaws s f → (p : ℕ) → p < size s → f.assigned p ≡ (facts s).assigned p

-- a script that keeps the rules of tree and children
pub record WellFormed (s : Script) : Type 0 where
  pub some : 0 < size s
  pub placed : AllKeep R.Tree s
  pub shaped : AllKeep R.Children s

-- the rules of form
abbrev pub IsOfForm : Rule → Type 0
IsOfForm R.Construct = Unit {0}
IsOfForm R.Tree = Unit {0}
IsOfForm R.Children = Unit {0}
IsOfForm _ = ⊥

-- what holds of an answer by the rules of form alone
pub record FormLawful (s : Script) (r : Result (Unit {0}) AdmissionFault) : Type 0 where
  -- exactly the scripts whose every node keeps these rules are taken
  pub taken : (r ≡ Ok tt → (rule : Rule) → IsOfForm rule → AllKeep rule s) × (((rule : Rule) → IsOfForm rule → AllKeep rule s) → r ≡ Ok tt)
  -- a refusal is by one of them, and is given exactly where what it says is so
  pub refused : (e : AdmissionFault) → (r ≡ Err e → IsOfForm e.rule × Refused s e) × (IsOfForm e.rule → Refused s e → r ≡ Err e)
  -- the rule of the tree is kept exactly by the scripts that a walk from the root finds to be trees
  pub walked : (AllKeep R.Tree s → Walked s) × (Walked s → AllKeep R.Tree s)
  -- what a node stands for names only locals and labels that the script has
  pub named : (p : ℕ) (c : Construct) → meaning s p ≡ Some c → InSection (length s.locals) s.labels c

pub record Lawful (s : Script) (r : Result (Unit {0}) AdmissionFault) : Type 0 where
  -- exactly the scripts whose every node keeps every rule are admitted
  pub admitted : (r ≡ Ok tt → Admitted s) × (Admitted s → r ≡ Ok tt)
  -- a refusal is given exactly where what it says is so
  pub refused : (e : AdmissionFault) → (r ≡ Err e → Refused s e) × (Refused s e → r ≡ Err e)
  -- an admitted script is a tree, as a walk from its root finds it
  pub walked : r ≡ Ok tt → Walked s
  -- the facts of which the last two rules speak
  pub types : WellFormed s → TypesExact s
  pub sets : WellFormed s → SetsExact s
