use Rattle.std.proofs.Common.{arith}
use Rattle.script.specs.Tables.{script_of}
use Rattle.semantics.proofs.Trees.{first_up}
use Rattle.structure.proofs.Siblings.{known}
use Rattle.structure.proofs.children.Children.new.Goals as goal

pub invariant_of-result : goal.invariant_of-result
invariant_of-result c =
    let s = script_of c.args.tree.table in
    let tree = known c.args.tree in
    let inside = c.requires in
    record { inside = inside; behind = omega arith; within = omega (arith, tree.after c.args.parent.0 inside); next_child = first_up s tree c.args.parent.0 inside }
