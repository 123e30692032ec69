-- Scopes: a local is declared once, and is in scope from its declaration to the end of the block around it.
use Rattle.std.specs.Prelude.{◌≡◌, ℕ, ◌<◌, Bool, true, false, not, ◌&&◌, ◌==◌, ◌≢◌, nat_lt}
use Rattle.script.specs.declared.sorts.Loc.{Loc}
use Rattle.script.specs.declared.construct.Construct.{Construct}
use Rattle.script.specs.declared.construct.Construct.TheVariants.{Local, Assignment, Declaration}
use Rattle.script.specs.Scripts.{Script}
use Rattle.script.specs.Tables.{up, end, construct}
use Rattle.semantics.specs.Searches.{some_below}

-- at d a local is declared whose scope p is in, if p is after d
abbrev pub InScope : Script → Loc → ℕ → ℕ → Type 0
InScope s x p d = (p < end s (up s d)) × (construct s d ≡ Declaration x)

-- by the construct at p: no second declaration of a local, and no use of one that is not in scope
abbrev pub ScopeKept : Script → ℕ → Construct → Type 0
ScopeKept s p (Local x) = (d : ℕ) × (d < p) × InScope s x p d
ScopeKept s p (Assignment x) = (d : ℕ) × (d < p) × InScope s x p d
ScopeKept s p (Declaration x) = (d : ℕ) → d < p → construct s d ≢ Declaration x
ScopeKept s p _ = Unit {0}

-- the same as a test
abbrev pub declares : Loc → Construct → Bool
declares y (Declaration x) = x.0 == y.0
declares y _ = false

abbrev pub declared : Script → Loc → ℕ → Bool
declared s x d = declares x (construct s d)

abbrev pub in_scope : Script → Loc → ℕ → ℕ → Bool
in_scope s x p d = nat_lt p (end s (up s d)) && declares x (construct s d)

abbrev pub scope_kept : Script → ℕ → Construct → Bool
scope_kept s p (Local x) = some_below (in_scope s x p) p
scope_kept s p (Assignment x) = some_below (in_scope s x p) p
scope_kept s p (Declaration x) = not (some_below (declared s x) p)
scope_kept s p _ = true
