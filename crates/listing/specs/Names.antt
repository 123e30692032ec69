-- What a node is called in a listing: its kind by name, with the type, local, label or channel that it names.
use Rattle.std.specs.Prelude.{ℕ, cond, List, ◌++◌, ℤ, pos, negsuc, Some, None, codes, decimal, Option, ◌==◌, nat_lt}
use Rattle.java.specs.declared.types.Primitive.{Primitive}
use Rattle.java.specs.Types.{type_name, type_of}
use Rattle.script.specs.declared.kind.Kind.{Kind}
use Rattle.script.specs.declared.kind.Kind.TheVariants.{Literal, Local, Unary, Binary, Conditional, Assignment, Reading, Empty, Expression, Labelled, Break, Continue, If, While, Block, Declaration}
use Rattle.script.specs.declared.node.Node.{Node}
use Rattle.script.specs.Kinds.{kind_code, kind_name, kind_of}

-- a kind with the local, label or channel of this number, where it names one
abbrev pub numbered : Kind → ℕ → List ℕ
numbered Local n = codes "local " ++ decimal n
numbered Assignment n = kind_name Assignment ++ (codes " to " ++ (codes "local " ++ decimal n))
numbered Reading n = kind_name Reading ++ (codes " of " ++ (codes "channel " ++ decimal n))
numbered Labelled n = kind_name Labelled ++ (codes " by " ++ (codes "label " ++ decimal n))
numbered Break n = kind_name Break ++ (codes " to " ++ (codes "label " ++ decimal n))
numbered Continue n = kind_name Continue ++ (codes " to " ++ (codes "label " ++ decimal n))
numbered Declaration n = kind_name Declaration ++ (codes " of " ++ (codes "local " ++ decimal n))
numbered k n = kind_name k

-- a literal with its type, if its detail is the code of one
abbrev pub literal_of : Option Primitive → List ℕ
literal_of None = kind_name Literal
literal_of (Some t) = kind_name Literal ++ (codes " of " ++ type_name t)

-- a number that is too large for a local, a label and a channel names none
abbrev pub by_number : Kind → ℤ → List ℕ
by_number k (pos n) = cond (nat_lt n 256) (numbered k n) (kind_name k)
by_number k (negsuc n) = kind_name k

abbrev pub of_kind : Option Kind → Node → List ℕ
of_kind None node = codes "kind " ++ decimal node.kind
of_kind (Some k) node = cond (kind_code k == 0) (literal_of (type_of node.detail)) (by_number k node.number)

abbrev pub node_name : Node → List ℕ
node_name node = of_kind (kind_of node.kind) node
