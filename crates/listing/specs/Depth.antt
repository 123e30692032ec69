-- How deep a node stands, going by what the file says of its parents.
use Rattle.std.specs.Prelude.{ℕ, zero, suc, cond, ◌&&◌, List, length, nat_lt, slice_index_or}
use Rattle.script.specs.declared.node.Node.{Node}
use Rattle.script.specs.Tables.{blank}

abbrev pub parent : List Node → ℕ → ℕ
parent nodes p = (slice_index_or nodes p blank).up.0

-- the nodes above a place, at most so many: each is the parent of the one below it, and stands before it
abbrev pub above : ℕ → List Node → ℕ → ℕ
above zero nodes p = 0
above (suc most) nodes p = cond (nat_lt p (length nodes) && nat_lt (parent nodes p) p) (suc (above most nodes (parent nodes p))) 0

-- no more stand above a place than before it
unfoldable pub depth_of : List Node → ℕ → ℕ
depth_of nodes p = above p nodes p
