-- The children and sorts that are left decide from here on.
use Rattle.std.proofs.Common.{◌≡◌, drop}
use Rattle.structure.specs.Children.{are_of_sorts, children_left}
use Rattle.structure.proofs.shapes.are_in_turn.Given as goal

abbrev pub invariant-loop-sort : goal.invariant-loop-sort
invariant-loop-sort l =
    are_of_sorts (children_left l.initial.children) l.sorts ≡ are_of_sorts (children_left l.children) (drop l.sort-index l.sorts)
