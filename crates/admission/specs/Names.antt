-- How the rules of labels and of scopes are tested: by where each name was last seen.
use Rattle.std.specs.Prelude.{ℕ, ◌+◌, Bool, true, cond, not, ◌&&◌, is_some, Some, None, Option, nat_lt, slice_index_or}
use Rattle.script.specs.declared.sorts.Pos.{Pos}
use Rattle.script.specs.declared.construct.Construct.{Construct}
use Rattle.script.specs.declared.construct.Construct.TheVariants.{Local, Assignment, Labelled, Break, Continue, Declaration}
use Rattle.script.specs.Scripts.{Script}
use Rattle.script.specs.Tables.{construct, end, script_of, up}
use Rattle.semantics.specs.Labels.{is_while}
use Rattle.admission.specs.declared.spot.Spot.{Spot}
use Rattle.admission.specs.Seen.{seen_and}

-- the label that stands on a statement, and the local that is declared
abbrev pub label_in : Construct → Option ℕ
label_in (Labelled l) = Some l.0
label_in _ = None

abbrev pub declared_in : Construct → Option ℕ
declared_in (Declaration x) = Some x.0
declared_in _ = None

-- where a name was last seen before a place
abbrev pub last_at : Spot → ℕ → Option Pos
last_at spot name = slice_index_or spot.latest.now.places name None

-- the statement of a label, last seen at x, that p stands inside
abbrev pub still_open : Script → ℕ → Option Pos → Option Pos
still_open s p None = None
still_open s p (Some x) = cond (nat_lt x.0 p && nat_lt p (end s x.0)) (Some x) None

abbrev pub open_at : Spot → ℕ → Option Pos
open_at spot l = still_open (script_of spot.table) spot.place.0 (last_at spot l)

-- it is a label on a while
abbrev pub in_loop_at : Spot → ℕ → Bool
in_loop_at spot l = seen_and (λ x. is_while (construct (script_of spot.table) (x + 1))) (open_at spot l)

abbrev pub label_test : Spot → Construct → Bool
label_test spot (Labelled l) = not (is_some (open_at spot l.0))
label_test spot (Break l) = is_some (open_at spot l.0)
label_test spot (Continue l) = in_loop_at spot l.0
label_test spot _ = true

-- the place is before the end of the parent of the declaration
abbrev pub in_scope_at : Spot → ℕ → Bool
in_scope_at spot x = seen_and (λ d. nat_lt spot.place.0 (end (script_of spot.table) (up (script_of spot.table) d))) (last_at spot x)

abbrev pub scope_test : Spot → Construct → Bool
scope_test spot (Local x) = in_scope_at spot x.0
scope_test spot (Assignment x) = in_scope_at spot x.0
scope_test spot (Declaration x) = not (is_some (last_at spot x.0))
scope_test spot _ = true
