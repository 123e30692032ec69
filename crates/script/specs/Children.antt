-- The children that each construct has, in the table of kinds.
use Rattle.std.specs.Prelude.{Bool, true, false, List, [], ◌∷◌, Some, None, Option}
use Rattle.script.specs.declared.children.Sort.{Sort}
use Rattle.script.specs.declared.children.Sort.TheVariants as S
use Rattle.script.specs.declared.construct.Construct.{Construct}
use Rattle.script.specs.declared.construct.Construct.TheVariants.{Empty, Literal, Local, Unary, Binary, Conditional, Assignment, Reading, Expression, Labelled, Break, Continue, If, While, Block, Declaration}

-- one after the other, the children of a construct; none for a block, which has any number of statements and declarations
abbrev pub children_of : Construct → Option (List Sort)
children_of Empty = Some []
children_of (Literal v) = Some []
children_of (Local x) = Some []
children_of (Unary o) = Some (S.Expression ∷ [])
children_of (Binary o) = Some (S.Expression ∷ S.Expression ∷ [])
children_of Conditional = Some (S.Expression ∷ S.Expression ∷ S.Expression ∷ [])
children_of (Assignment x) = Some (S.Expression ∷ [])
children_of (Reading k) = Some []
children_of Expression = Some (S.Assignment ∷ [])
children_of (Labelled l) = Some (S.Statement ∷ [])
children_of (Break l) = Some []
children_of (Continue l) = Some []
children_of If = Some (S.Expression ∷ S.Statement ∷ S.Statement ∷ [])
children_of While = Some (S.Expression ∷ S.Statement ∷ [])
children_of Block = None
children_of (Declaration x) = Some []

abbrev pub is_expression : Construct → Bool
is_expression (Literal v) = true
is_expression (Local x) = true
is_expression (Unary o) = true
is_expression (Binary o) = true
is_expression Conditional = true
is_expression (Assignment x) = true
is_expression (Reading k) = true
is_expression _ = false

-- a declaration is neither an expression nor a statement
abbrev pub is_statement : Construct → Bool
is_statement Empty = true
is_statement Expression = true
is_statement (Labelled l) = true
is_statement (Break l) = true
is_statement (Continue l) = true
is_statement If = true
is_statement While = true
is_statement Block = true
is_statement _ = false

abbrev pub is_assignment : Construct → Bool
is_assignment (Assignment x) = true
is_assignment _ = false

-- whether a construct can stand where a child of this sort is due
abbrev pub is_of_sort : Sort → Construct → Bool
is_of_sort S.Expression c = is_expression c
is_of_sort S.Statement c = is_statement c
is_of_sort S.Assignment c = is_assignment c
