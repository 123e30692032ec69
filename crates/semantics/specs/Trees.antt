-- The nodes as a tree: a node's place, its parent's place (up) and the place after its last descendant (end). A node x
-- stands above p exactly if x < p and p < end x.
use Rattle.std.specs.Prelude.{◌≡◌, ℕ, zero, suc, ◌+◌, ◌<◌, ◌≤◌, Bool, ◌&&◌, ◌||◌, ◌⊎◌, ◌==◌, nat_le, nat_lt}
use Rattle.script.specs.Scripts.{Script}
use Rattle.script.specs.Tables.{size, up, end}
use Rattle.semantics.specs.Searches.{some_below}

-- q is an earlier child of p's parent, and ends where p begins
abbrev pub EndsBefore : Script → ℕ → ℕ → Type 0
EndsBefore s p q = (0 < q) × (up s q ≡ up s p) × (end s q ≡ p)

-- a node other than node 0 is in its place: its parent stands before it and ends no earlier, and it is the first child or
-- begins where an earlier one ends
pub record Child (s : Script) (p : ℕ) : Type 0 where
  pub before : up s p < p
  pub after : p < end s p
  pub within : end s p ≤ end s (up s p)
  pub follows : (p ≡ up s p + 1) ⊎ ((q : ℕ) × (q < p) × EndsBefore s p q)

-- node 0 has no parent and ends with the table
abbrev pub Placed : Script → ℕ → Type 0
Placed s zero = (up s 0 ≡ 0) × (end s 0 ≡ size s)
Placed s (suc p) = Child s (suc p)

-- the same as a test
abbrev pub ends_before : Script → ℕ → ℕ → Bool
ends_before s p q = nat_lt 0 q && (up s q == up s p && end s q == p)

abbrev pub child : Script → ℕ → Bool
child s p =
    nat_lt (up s p) p && (nat_lt p (end s p) && (nat_le (end s p) (end s (up s p)) && (p == up s p + 1 || some_below (ends_before s p) p)))

abbrev pub placed : Script → ℕ → Bool
placed s zero = up s 0 == 0 && end s 0 == size s
placed s (suc p) = child s (suc p)

-- what follows of a table whose every node is in its place
pub record Tree (s : Script) : Type 0 where
  pub some : 0 < size s
  pub root : up s 0 ≡ 0
  pub whole : end s 0 ≡ size s
  pub after : (p : ℕ) → p < size s → p < end s p
  pub up_before : (p : ℕ) → 0 < p → p < size s → up s p < p
  pub up_holds : (p : ℕ) → 0 < p → p < size s → p < end s (up s p)
  -- of two nodes one is above the other, or neither reaches into the other
  pub nested : (x p : ℕ) → p < size s → x ≤ p → p < end s x → end s p ≤ end s x
  -- what stands above p is its parent, or stands above that
  pub nearest : (x p : ℕ) → p < size s → x < p → p < end s x → x ≤ up s p

-- A walk from the root. It comes from u to the place q, goes through the node there and all below it, and comes back to u
-- for the next child, until it has come to e: each place is met once, in rising order, with u as its parent, and each
-- node ends where the walk below it does.
pub data Walk (s : Script) : ℕ → ℕ → ℕ → Type 0 where
  done : {u e : ℕ} → Walk s u e e
  visit : {u q e : ℕ} → up s q ≡ u → Walk s q (q + 1) (end s q) → Walk s u (end s q) e → Walk s u q e

-- the whole table is one walk below node 0
pub record Walked (s : Script) : Type 0 where
  pub root : up s 0 ≡ 0
  pub whole : end s 0 ≡ size s
  pub below : Walk s 0 1 (size s)
