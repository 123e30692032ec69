-- A script as data.
use Rattle.std.specs.Prelude.{ℕ, List}
use Rattle.java.specs.declared.types.Primitive.{Primitive}
use Rattle.script.specs.declared.node.Node.{Node}

-- the types of its locals, how many labels it has, and its nodes by place
pub record Script : Type 0 where
  pub locals : List Primitive
  pub labels : ℕ
  pub nodes : List Node
