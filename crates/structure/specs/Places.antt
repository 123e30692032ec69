-- How the rule of the tree is tested: by where the next child of each node has to begin.
use Rattle.std.specs.Prelude.{ℕ, Bool, cond, ◌&&◌, List, ◌==◌, nat_le, nat_lt, slice_index_or}
use Rattle.script.specs.declared.sorts.Pos.{Pos}
use Rattle.script.specs.Scripts.{Script}
use Rattle.script.specs.Tables.{size, up, end}

-- where the next child of the node at u has to begin
abbrev pub next_place : List Pos → ℕ → ℕ
next_place next u = (slice_index_or next u (record { 0 = 0 })).0

-- the node at p is in its place
abbrev pub in_place : Script → List Pos → ℕ → Bool
in_place s next p =
    cond (p == 0) (up s p == 0 && end s p == size s)
    (nat_lt (up s p) p && (nat_lt p (end s p) && (nat_le (end s p) (end s (up s p)) && next_place next (up s p) == p)))
