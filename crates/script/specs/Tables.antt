-- A script by its places: what a table holds, and what stands at each place.
use Rattle.std.specs.Prelude.{ℕ, Bool, cond, ◌||◌, [], ◌∷◌, length, pos, Ok, Err, Option, Result, nat_lt, slice_index_or}
use Rattle.std.specs.Option.{unwrap_or}
use Rattle.script.specs.declared.construct.Construct.{Construct}
use Rattle.script.specs.declared.construct.Construct.TheVariants.{Empty}
use Rattle.script.specs.declared.node.Node.{Node}
use Rattle.script.specs.declared.table.OverLimits.{OverLimits}
use Rattle.script.specs.declared.table.Table.{Table}
use Rattle.script.specs.Constructs.{construct_of}
use Rattle.script.specs.Scripts.{Script}

-- the script that a table holds
abbrev pub script_of : Table → Script
script_of t = record { locals = t.types.now; labels = t.labels; nodes = t.nodes.now }

-- `{ }`: one block, without locals or labels
abbrev pub empty_block : Node
empty_block = record { kind = 15; detail = 0; up = record { 0 = 0 }; end = record { 0 = 1 }; number = pos 0 }

abbrev pub empty_script : Script
empty_script = record { locals = []; labels = 0; nodes = empty_block ∷ [] }

-- at most 64 locals and 32 labels, and 1 to 1,024 nodes
abbrev pub over_limits : Script → Bool
over_limits s = nat_lt 64 (length s.locals) || (nat_lt 32 s.labels || (nat_lt (length s.nodes) 1 || nat_lt 1024 (length s.nodes)))

-- what a table answers when it is given `new`
abbrev pub held : Script → Result (Unit {0}) OverLimits
held new = cond (over_limits new) (Err (record {})) (Ok tt)

-- what stands past the end of a table
abbrev pub blank : Node
blank = record { kind = 0; detail = 0; up = record { 0 = 0 }; end = record { 0 = 0 }; number = pos 0 }

-- how many nodes there are
abbrev pub size : Script → ℕ
size s = length s.nodes

-- the node at a place
unfoldable pub node : Script → ℕ → Node
node s p = slice_index_or s.nodes p blank

-- the parent's place
unfoldable pub up : Script → ℕ → ℕ
up s p = (node s p).up.0

-- the place after the last node below a place
unfoldable pub end : Script → ℕ → ℕ
end s p = (node s p).end.0

-- what the node at a place stands for, if anything
unfoldable pub meaning : Script → ℕ → Option Construct
meaning s p = construct_of (length s.locals) s.labels (node s p)

-- the same where each node is known to stand for something
unfoldable pub construct : Script → ℕ → Construct
construct s p = unwrap_or (meaning s p) Empty
