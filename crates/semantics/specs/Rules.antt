-- The rules of admission, node by node, and the answer: the first rule that is broken, at the lowest place.
use Rattle.std.specs.Prelude.{◌≡◌, ℕ, ◌<◌, Bool, not, List, [], ◌∷◌, is_some, is_ok, Some, None, Ok, Err, Option, Result}
use Rattle.std.specs.Option.{option_map}
use Rattle.script.specs.declared.construct.Construct.{Construct}
use Rattle.script.specs.declared.sorts.Pos.{Pos}
use Rattle.script.specs.Scripts.{Script}
use Rattle.script.specs.Tables.{size, meaning, construct}
use Rattle.semantics.specs.declared.fault.Rule.{Rule}
use Rattle.semantics.specs.declared.fault.Rule.TheVariants as R
use Rattle.semantics.specs.declared.fault.AdmissionFault.{AdmissionFault}
use Rattle.semantics.specs.Faults.{rule_number}
use Rattle.semantics.specs.Searches.{lowest_failing}
use Rattle.semantics.specs.Trees.{Placed, placed}
use Rattle.semantics.specs.Shapes.{Shaped, shaped}
use Rattle.semantics.specs.Labels.{LabelKept, label_kept}
use Rattle.semantics.specs.Scopes.{ScopeKept, scope_kept}
use Rattle.semantics.specs.Types.{Misfits, is_misfit, typing, type_at}
use Rattle.semantics.specs.Flow.{AssignedBefore, assigned_before}

-- the node at p keeps a rule
abbrev pub Keeps : Rule → Script → ℕ → Type 0
Keeps R.Construct s p = (c : Construct) × (meaning s p ≡ Some c)
Keeps R.Tree s p = Placed s p
Keeps R.Children s p = Shaped s p
Keeps R.Label s p = LabelKept s p (construct s p)
Keeps R.Scope s p = ScopeKept s p (construct s p)
Keeps R.Type s p = Misfits s p → ⊥
Keeps R.Assignment s p = AssignedBefore s p (construct s p)

-- every node keeps a rule
abbrev pub AllKeep : Rule → Script → Type 0
AllKeep r s = (p : ℕ) → p < size s → Keeps r s p

-- a script is admitted if every node keeps every rule
abbrev pub Admitted : Script → Type 0
Admitted s = (r : Rule) → AllKeep r s

-- a refusal says: here the rule is broken, at no lower place is it, and every earlier rule is kept everywhere
pub record Refused (s : Script) (e : AdmissionFault) : Type 0 where
  pub within : e.place.0 < size s
  pub broken : Keeps e.rule s e.place.0 → ⊥
  pub lowest : (q : ℕ) → q < e.place.0 → Keeps e.rule s q
  pub earlier : (r : Rule) → rule_number r < rule_number e.rule → AllKeep r s

-- the rules as tests
abbrev pub keeps : Rule → Script → ℕ → Bool
keeps R.Construct s p = is_some (meaning s p)
keeps R.Tree s p = placed s p
keeps R.Children s p = shaped s p
keeps R.Label s p = label_kept s p (construct s p)
keeps R.Scope s p = scope_kept s p (construct s p)
keeps R.Type s p = not (is_misfit (typing s (type_at s) p))
keeps R.Assignment s p = assigned_before s p (construct s p)

-- the lowest place at which a rule is broken
unfoldable pub broken_at : Rule → Script → Option ℕ
broken_at r s = lowest_failing (keeps r s) (size s)

abbrev pub first_broken : Rule → Script → Option Pos
first_broken r s = option_map (λ p. record { 0 = p }) (broken_at r s)

-- a refusal by that rule at that place, or else what the rules after it say
abbrev pub or_else : Rule → Option ℕ → Result (Unit {0}) AdmissionFault → Result (Unit {0}) AdmissionFault
or_else r None later = later
or_else r (Some p) later = Err (record { rule = r; place = record { 0 = p } })

abbrev pub tested : Script → List Rule → Result (Unit {0}) AdmissionFault
tested s [] = Ok tt
tested s (r ∷ rules) = or_else r (broken_at r s) (tested s rules)

abbrev pub in_order : List Rule
in_order = R.Construct ∷ R.Tree ∷ R.Children ∷ R.Label ∷ R.Scope ∷ R.Type ∷ R.Assignment ∷ []

-- the rules of form: the nodes are constructs, and hang together as those do
abbrev pub form : List Rule
form = R.Construct ∷ R.Tree ∷ R.Children ∷ []

abbrev pub formed : Script → Bool
formed s = is_ok (tested s form)

-- what is answered to a script
abbrev pub answer : Script → Result (Unit {0}) AdmissionFault
answer s = tested s in_order
