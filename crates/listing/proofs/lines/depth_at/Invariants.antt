-- The nodes counted so far, and those above the node that is reached, stand above the place.
use Rattle.std.proofs.Common.{◌≡◌, ◌+◌, ◌≤◌}
use Rattle.listing.specs.Depth.{depth_of}
use Rattle.listing.proofs.lines.depth_at.Given as goal

abbrev pub invariant-loop-node : goal.invariant-loop-node
invariant-loop-node l = (depth_of l.nodes l.initial.at.0 ≡ l.above + depth_of l.nodes l.at.0) × (l.above + l.at.0 ≤ l.initial.at.0)

abbrev pub decreases-loop-node : goal.decreases-loop-node
decreases-loop-node l = l.at.0
