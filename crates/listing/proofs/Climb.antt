-- One step from a node to its parent.
use Rattle.std.proofs.Common.{◌≡◌, ℕ, zero, suc, ◌+◌, ◌≤◌, ◌&&◌, ltb, List, length, cond, refl, arith}
use Rattle.std.proofs.lemmas.Bool.Decides.{nat_tests}
use Rattle.script.specs.declared.node.Node.{Node}
use Rattle.listing.specs.Depth.{above, depth_of, parent}

-- more than enough is enough
enough : (nodes : List Node) (most other p : ℕ) → p ≤ most → p ≤ other → above most nodes p ≡ above other nodes p
enough nodes zero zero p h k = refl
enough nodes zero (suc other) p h k = grind (arith, nat_tests)
enough nodes (suc most) zero p h k = grind (arith, nat_tests)
enough nodes (suc most) (suc other) p h k = grind (arith, nat_tests, enough nodes most other (parent nodes p))

pub depth_step : (nodes : List Node) (p : ℕ) → depth_of nodes p ≡ cond (ltb p (length nodes) && ltb (parent nodes p) p) (depth_of nodes (parent nodes p) + 1) 0
unfolding depth_of
depth_step nodes zero = grind (arith, nat_tests)
depth_step nodes (suc p) = grind (arith, nat_tests, enough nodes p (parent nodes (suc p)) (parent nodes (suc p)))
