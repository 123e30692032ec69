-- A local is declared at most once, so the test by where its declaration was seen is the rule of scopes.
use Rattle.std.proofs.Common.{◌≡◌, ℕ, ◌<◌, ◌≤◌, true, not, ltb, length, is_some, Some, None, Option, refl, ap, ◌∙◌, subst, arith}
use Rattle.std.proofs.lemmas.Bool.{lt-ltb, ltb-true}
use Rattle.script.specs.declared.sorts.Loc.{Loc}
use Rattle.script.specs.declared.sorts.Pos.{Pos}
use Rattle.script.specs.declared.construct.Construct.{Construct}
use Rattle.script.specs.declared.construct.Construct.TheVariants.{Local, Assignment, Declaration}
use Rattle.script.specs.Constructs.{InSection}
use Rattle.script.specs.Scripts.{Script}
use Rattle.script.specs.Tables.{construct, end, script_of, up}
use Rattle.script.proofs.Sections.{sections}
use Rattle.semantics.specs.declared.fault.Rule.TheVariants as R
use Rattle.semantics.specs.Searches.{some_below}
use Rattle.semantics.specs.Scopes.{InScope, ScopeKept, declared, in_scope, scope_kept}
use Rattle.semantics.proofs.Decided.{declares_decided, in_scope_decided, kept}
use Rattle.admission.specs.declared.spot.Spot.{Spot}
use Rattle.admission.specs.Names.{declared_in, in_scope_at, last_at, scope_test}
use Rattle.admission.specs.Seen.{Passed, TestsRule, seen_and, seen_finds}

declaration : (c : Construct) (n : ℕ) → declared_in c ≡ Some n → c ≡ Declaration (record { 0 = n })
declaration c n e = grind arith

abbrev declared_at : Script → ℕ → Option ℕ
declared_at s q = declared_in (construct s q)

module _ (spot : Spot) where
  abbrev s : Script
  s = script_of spot.table

  abbrev p : ℕ
  p = spot.place.0

  whether_seen : (o : Option Pos) → is_some o ≡ seen_and (λ d. true) o
  whether_seen None = refl
  whether_seen (Some d) = refl

  module _ (passed : Passed R.Scope declared_in s spot.latest.now.places p) where
    alone : (x : Loc) (d e : ℕ) → d < e → e < p → declared_at s e ≡ Some x.0 → construct s d ≡ Declaration x → ⊥
    alone x d e i j named first =
        let once = subst (ScopeKept s e) (declaration (construct s e) x.0 named) ((kept R.Scope s e).0 (passed.kept e j)) in
        once d i first

    seen_as : (x : Loc) → x.0 < 64 → is_some (last_at spot x.0) ≡ some_below (declared s x) p
    seen_as x small =
        whether_seen (last_at spot x.0)
        ∙ seen_finds (declared_at s) x.0 p (λ d. true) (declared s x) (λ d. construct s d ≡ Declaration x) (λ d. declares_decided x (construct s d))
        (λ d named t. declaration (construct s d) x.0 named)
        (λ d h e. (ap declared_in e, refl))
        (alone x)
        (last_at spot x.0) (passed.seen x.0 small)

    in_scope_as : (x : Loc) → x.0 < 64 → in_scope_at spot x.0 ≡ some_below (in_scope s x p) p
    in_scope_as x small =
        seen_finds (declared_at s) x.0 p (λ d. ltb p (end s (up s d))) (in_scope s x p) (InScope s x p) (in_scope_decided s x p)
        (λ d named t. (ltb-true p (end s (up s d)) t, declaration (construct s d) x.0 named))
        (λ d h f. (ap declared_in f.1, lt-ltb p (end s (up s d)) f.0))
        (λ d e i j named f. alone x d e i j named f.1)
        (last_at spot x.0) (passed.seen x.0 small)

    test_of : (c : Construct) → InSection (length s.locals) s.labels c → length s.locals ≤ 64 → scope_test spot c ≡ scope_kept s p c
    test_of (Local x) h few = in_scope_as x (omega arith)
    test_of (Assignment x) h few = in_scope_as x (omega arith)
    test_of (Declaration x) h few = ap not (seen_as x (omega arith))
    test_of _ h few = refl

pub scope_decides : TestsRule R.Scope declared_in scope_test
scope_decides spot passed =
    test_of spot passed (construct (script_of spot.table) spot.place.0) (sections (script_of spot.table) spot.place.0) spot.table.few_locals
