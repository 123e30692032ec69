-- Whether a node has the children of its kind.
use Rattle.std.specs.Prelude.{◌≡◌, ℕ, ◌+◌, ◌<◌, Bool, true, false, not, ◌&&◌, ◌||◌, List, [], ◌∷◌, Some, None, Option, ◌==◌, nat_lt}
use Rattle.script.specs.declared.children.Sort.{Sort}
use Rattle.script.specs.declared.construct.Construct.{Construct}
use Rattle.script.specs.declared.construct.Construct.TheVariants.{Block}
use Rattle.script.specs.Children.{children_of, is_expression, is_of_sort}
use Rattle.script.specs.Scripts.{Script}
use Rattle.script.specs.Tables.{up, end, construct}
use Rattle.semantics.specs.Searches.{all_below}

-- from q to e there is one child of each sort after the other
abbrev pub InTurn : Script → ℕ → ℕ → List Sort → Type 0
InTurn s q e [] = q ≡ e
InTurn s q e (sort ∷ sorts) = (q < e) × (is_of_sort sort (construct s q) ≡ true) × InTurn s (end s q) e sorts

-- no child of p is an expression: a block has statements and declarations
abbrev pub NoExpression : Script → ℕ → Type 0
NoExpression s p = (q : ℕ) → q < end s p → p < q → up s q ≡ p → is_expression (construct s q) ≡ false

abbrev pub Children : Script → ℕ → Option (List Sort) → Type 0
Children s p None = NoExpression s p
Children s p (Some sorts) = InTurn s (p + 1) (end s p) sorts

abbrev pub is_block : Construct → Bool
is_block Block = true
is_block _ = false

-- each node has the children of its kind, and node 0 is a block
abbrev pub Shaped : Script → ℕ → Type 0
Shaped s p = Children s p (children_of (construct s p)) × (p ≡ 0 → construct s p ≡ Block)

-- the same as a test
abbrev pub in_turn : Script → ℕ → ℕ → List Sort → Bool
in_turn s q e [] = q == e
in_turn s q e (sort ∷ sorts) = nat_lt q e && (is_of_sort sort (construct s q) && in_turn s (end s q) e sorts)

abbrev pub child_fits : Script → ℕ → ℕ → Bool
child_fits s p q = not (nat_lt p q && up s q == p) || not (is_expression (construct s q))

abbrev pub children : Script → ℕ → Option (List Sort) → Bool
children s p None = all_below (child_fits s p) (end s p)
children s p (Some sorts) = in_turn s (p + 1) (end s p) sorts

abbrev pub shaped : Script → ℕ → Bool
shaped s p = children s p (children_of (construct s p)) && (not (p == 0) || is_block (construct s p))
