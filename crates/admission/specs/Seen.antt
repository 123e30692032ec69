-- Where each name was last seen, while the places are passed one after the other.
use Rattle.std.specs.Prelude.{◌≡◌, ℕ, ◌<◌, Bool, true, false, List, length, Some, None, Option, slice_index_or, slice_set}
use Rattle.std.proofs.Common.{Decides, refl, subst, arith}
use Rattle.std.proofs.lemmas.Bool.{both_ways, cases_order}
use Rattle.std.proofs.lemmas.Bool.Decides.{same_from_decides}
use Rattle.script.specs.declared.sorts.Pos.{Pos}
use Rattle.script.specs.declared.construct.Construct.{Construct}
use Rattle.script.specs.Scripts.{Script}
use Rattle.script.specs.Tables.{construct, script_of}
use Rattle.semantics.specs.declared.fault.Rule.{Rule}
use Rattle.semantics.specs.Rules.{keeps}
use Rattle.semantics.specs.Searches.{some_below}
use Rattle.semantics.proofs.Decided.{some_decided}
use Rattle.admission.specs.declared.spot.Spot.{Spot}

-- the places after a name, if any, was seen at one
abbrev pub noted : List (Option Pos) → Option ℕ → Pos → List (Option Pos)
noted places None p = places
noted places (Some name) p = slice_set places name (Some p)

-- x is the last place below p with a name
pub record Last (name : ℕ → Option ℕ) (n p x : ℕ) : Type 0 where
  pub below : x < p
  pub named : name x ≡ Some n
  pub none_after : (q : ℕ) → x < q → q < p → name q ≡ Some n → ⊥

abbrev pub SeenAt : (ℕ → Option ℕ) → ℕ → ℕ → Option Pos → Type 0
SeenAt name n p None = (q : ℕ) → q < p → name q ≡ Some n → ⊥
SeenAt name n p (Some x) = Last name n p x.0

-- a name was seen, and a test passes at the place
abbrev pub seen_and : (ℕ → Bool) → Option Pos → Bool
seen_and test None = false
seen_and test (Some x) = test x.0

-- That says whether some place below p is wanted, if the wanted ones have the name and pass the test, and no place after one
-- of them has the name.
module _ (name : ℕ → Option ℕ) (n p : ℕ) (test wanted : ℕ → Bool) (Wanted : ℕ → Type 0) (decided : (x : ℕ) → Decides (wanted x) (Wanted x))
    (to : (x : ℕ) → name x ≡ Some n → test x ≡ true → Wanted x)
    (from : (x : ℕ) → x < p → Wanted x → (name x ≡ Some n) × (test x ≡ true))
    (alone : (x y : ℕ) → x < y → y < p → name y ≡ Some n → Wanted x → ⊥) where
  same : (x : ℕ) → x < p → Wanted x → (y : ℕ) → Last name n p y → x ≡ y
  same x h w y seen = grind (arith, cases_order x y, alone x y, (from x h w).0)

  seen_decides : (o : Option Pos) → SeenAt name n p o → Decides (seen_and test o) ((x : ℕ) × (x < p) × Wanted x)
  seen_decides None seen = (λ e. absurd (both_ways false refl e), λ f. absurd (seen f.0 f.1 (from f.0 f.1 f.2).0))
  seen_decides (Some y) seen = (
    (λ e. (y.0, seen.below, to y.0 seen.named e)),
    λ f. subst (λ (k : ℕ). test k ≡ true) (same f.0 f.1 f.2 y.0 seen) (from f.0 f.1 f.2).1,
  )

  pub seen_finds : (o : Option Pos) → SeenAt name n p o → seen_and test o ≡ some_below wanted p
  seen_finds o seen = same_from_decides _ _ (seen_decides o seen) (some_decided wanted Wanted decided p)

-- no place below p breaks the rule, and of each name it is known where it was last seen below p
pub record Passed (rule : Rule) (name : Construct → Option ℕ) (s : Script) (places : List (Option Pos)) (p : ℕ) : Type 0 where
  pub kept : (q : ℕ) → q < p → keeps rule s q ≡ true
  pub long : length places ≡ 64
  pub seen : (n : ℕ) → n < 64 → SeenAt (λ q. name (construct s q)) n p (slice_index_or places n None)

-- once the places before are passed, the test says whether the rule is kept
abbrev pub TestsRule : Rule → (Construct → Option ℕ) → (Spot → Construct → Bool) → Type 0
TestsRule rule name test =
    (spot : Spot) → Passed rule name (script_of spot.table) spot.latest.now.places spot.place.0
    → test spot (construct (script_of spot.table) spot.place.0) ≡ keeps rule (script_of spot.table) spot.place.0
