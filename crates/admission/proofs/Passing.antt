-- Where each name was last seen, while the places are passed one after the other.
use Rattle.std.proofs.Common.{◌≡◌, ℕ, ◌+◌, ◌<◌, Bool, true, List, length, get_or, replicate, Some, None, Option, sym, ap, ◌∙◌, ⊎_elim, arith, below_more, length-set, get_or-set_other, get_or-set_same}
use Rattle.std.proofs.lemmas.List.{get_or-replicate}
use Rattle.std.proofs.lemmas.Bool.{cases_eq}
use Rattle.script.specs.declared.sorts.Pos.{Pos}
use Rattle.script.specs.declared.construct.Construct.{Construct}
use Rattle.script.specs.Scripts.{Script}
use Rattle.script.specs.Tables.{construct, script_of}
use Rattle.semantics.specs.declared.fault.Rule.{Rule}
use Rattle.semantics.specs.Rules.{keeps}
use Rattle.admission.specs.declared.spot.Spot.{Spot}
use Rattle.admission.specs.Seen.{Last, Passed, SeenAt, TestsRule, noted}

module _ (name : ℕ → Option ℕ) (n p : ℕ) where
  -- p has another name, or none
  other : (o : Option Pos) → (name p ≡ Some n → ⊥) → SeenAt name n p o → SeenAt name n (p + 1) o
  other None apart seen = grind arith
  other (Some x) apart seen = record { below = omega (arith, seen.below); named = seen.named; none_after = grind arith }

  -- p has this name
  found : name p ≡ Some n → Last name n (p + 1) p
  found e = grind arith

module _ (rule : Rule) (name : Construct → Option ℕ) (s : Script) where
  pub none_passed : (places : List (Option Pos)) → places ≡ replicate 64 None → Passed rule name s places 0
  none_passed places e = record {
    kept = λ q h. absurd (omega arith);
    long = ap length e;
    seen = λ n h. rw (e, get_or-replicate {A = Option Pos} 64 n None None h) (λ q l _. absurd (omega arith));
  }

  module _ (places : List (Option Pos)) (p : ℕ) (passed : Passed rule name s places p) where
    abbrev at : ℕ → Option ℕ
    at q = name (construct s q)

    abbrev here : Option Pos
    here = Some (record { 0 = p })

    sees : (o : Option ℕ) → at p ≡ o → (n : ℕ) → n < 64 → SeenAt at n (p + 1) (get_or (noted places o (record { 0 = p })) n None)
    sees None e n h = other at n p (get_or places n None) (λ z. cc) (passed.seen n h)
    sees (Some m) e n h = ⊎_elim
        (λ (i : n ≡ m). rw (i, get_or-set_same places m here None (omega (arith, passed.long))) (found at m p e))
        (λ i. rw (get_or-set_other places m n here None i) (other at n p (get_or places n None) (λ z. i (cc)) (passed.seen n h)))
        (cases_eq n m)

    -- p keeps the rule too, and its name is noted
    pub one_passed : (o : Option ℕ) → o ≡ at p → keeps rule s p ≡ true → Passed rule name s (noted places o (record { 0 = p })) (p + 1)
    one_passed o e holds = record {
      kept = below_more _ _ passed.kept holds;
      long = grind (arith, length-set, passed.long);
      seen = sees o (sym e);
    }

-- what the test answers at a place is whether the rule is kept there
pub tested_here : (rule : Rule) (name : Construct → Option ℕ) (test : Spot → Construct → Bool) → TestsRule rule name test
    → (spot : Spot) (c : Construct) (b : Bool) → Passed rule name (script_of spot.table) spot.latest.now.places spot.place.0
    → c ≡ construct (script_of spot.table) spot.place.0 → b ≡ test spot c → keeps rule (script_of spot.table) spot.place.0 ≡ b
tested_here rule name test decides spot c b passed e answer = sym (answer ∙ ap (test spot) e ∙ decides spot passed)
