-- A script that keeps the rules of form is a tree whose nodes have the children of their kinds.
use Rattle.std.proofs.Common.{◌≡◌, ℕ, ◌<◌, true, false, is_ok, length, Some, Ok, Err, Option, Result, unwrap_or, refl, ap, subst, arith}
use Rattle.std.proofs.lemmas.Bool.{both_ways}
use Rattle.script.specs.declared.construct.Construct.{Construct}
use Rattle.script.specs.declared.construct.Construct.TheVariants.{Empty}
use Rattle.script.specs.Constructs.{InSection}
use Rattle.script.specs.Scripts.{Script}
use Rattle.script.specs.Tables.{construct, meaning, size}
use Rattle.script.proofs.Sections.{sections}
use Rattle.semantics.specs.declared.fault.Rule.{Rule}
use Rattle.semantics.specs.declared.fault.Rule.TheVariants as R
use Rattle.semantics.specs.declared.fault.AdmissionFault.{AdmissionFault}
use Rattle.semantics.specs.Faults.{rule_number}
use Rattle.semantics.specs.Laws.{FormLawful, IsOfForm, WellFormed}
use Rattle.semantics.specs.Rules.{AllKeep, form, formed, tested}
use Rattle.semantics.proofs.Tested.{AllKept, all_tested, kept_all, refused_by_form}
use Rattle.semantics.proofs.Trees.{tree_of, walked}
use Rattle.semantics.proofs.Walks.{kept_by_walk}

ok_since : (r : Result (Unit {0}) AdmissionFault) → is_ok r ≡ true → r ≡ Ok tt
ok_since (Ok tt) e = refl
ok_since (Err f) e = absurd (both_ways false refl e)

-- a script of good form is a tree whose nodes have the children of their kinds
pub formed_well : (s : Script) → 0 < size s → formed s ≡ true → WellFormed s
formed_well s some e =
    let a = kept_all s form (ok_since _ e) in
    record { some = some; placed = a.1.0; shaped = a.1.1.0 }

-- the rules of form are the first three
of_form : (r : Rule) → rule_number r < 13 → IsOfForm r
of_form R.Construct h = tt
of_form R.Tree h = tt
of_form R.Children h = tt
of_form _ h = absurd (omega (arith, h))

below_13 : (r : Rule) → IsOfForm r → rule_number r < 13
below_13 R.Construct h = omega arith
below_13 R.Tree h = omega arith
below_13 R.Children h = omega arith
below_13 _ h = absurd h

each_kept : (s : Script) → AllKept s form → (r : Rule) → IsOfForm r → AllKeep r s
each_kept s a R.Construct h = a.0
each_kept s a R.Tree h = a.1.0
each_kept s a R.Children h = a.1.1.0
each_kept s a _ h = absurd h

named : (s : Script) (p : ℕ) (c : Construct) → meaning s p ≡ Some c → InSection (length s.locals) s.labels c
unfolding construct
named s p c e =
    let stands : construct s p ≡ c = ap (λ (o : Option Construct). unwrap_or o Empty) e in
    subst (InSection (length s.locals) s.labels) stands (sections s p)

-- what the rules of form answer keeps the law of form
pub form_lawful : (s : Script) → 0 < size s → FormLawful s (tested s form)
form_lawful s some = record {
  taken = (
    λ e. each_kept s (kept_all s form e),
    λ all. all_tested s form (all R.Construct tt, (all R.Tree tt, (all R.Children tt, tt))),
  );
  refused = λ f. (
    λ e. let by = (refused_by_form s f).0 e in (of_form f.rule by.1, by.0),
    λ h true_of. (refused_by_form s f).1 true_of (below_13 f.rule h),
  );
  walked = (λ all. walked s (tree_of s some all), kept_by_walk s);
  named = named s;
}
