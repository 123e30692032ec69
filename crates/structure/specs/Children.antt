-- The children of a node as a list of constructs, and what the rule of children says of it.
use Rattle.std.specs.Prelude.{ℕ, ◌-◌, Bool, true, false, not, ◌&&◌, List, [], ◌∷◌, Some, None, Option, filter, map, ◌==◌}
use Rattle.std.specs.List.{list_any, range_with_len}
use Rattle.script.specs.declared.children.Sort.{Sort}
use Rattle.script.specs.declared.construct.Construct.{Construct}
use Rattle.script.specs.Children.{is_expression, is_of_sort}
use Rattle.script.specs.Scripts.{Script}
use Rattle.script.specs.Tables.{construct, end, script_of, up}
use Rattle.structure.specs.declared.children.Children.{Children}

-- what stands at the places from q on, up to the end of p, whose parent is p
unfoldable pub children_from : Script → ℕ → ℕ → List Construct
children_from s p q = map (construct s) (filter (λ x. up s x == p) (range_with_len q (end s p - q)))

-- the children that are left to go over
abbrev pub children_left : Children → List Construct
children_left c = children_from (script_of c.tree.table) c.parent.0 c.at.0

-- they are as many as the sorts, and each is of its sort
abbrev pub are_of_sorts : List Construct → List Sort → Bool
are_of_sorts [] [] = true
are_of_sorts (child ∷ children) (sort ∷ sorts) = is_of_sort sort child && are_of_sorts children sorts
are_of_sorts _ _ = false

-- none is an expression
abbrev pub are_no_expressions : List Construct → Bool
are_no_expressions children = not (list_any is_expression children)

-- they are those of a kind: one of each sort, or any number that are no expressions
abbrev pub are_due : List Construct → Option (List Sort) → Bool
are_due children None = are_no_expressions children
are_due children (Some sorts) = are_of_sorts children sorts
