-- Sets of locals: local x is in a set if bit x of its number is one. There are at most 64 locals.
use Rattle.std.specs.Prelude.{ℕ, ◌-◌, ◌/◌, ◌%◌, ◌^◌, Bool, cond, ◌==◌, bit_and, bit_or, nat_lt}
use Rattle.semantics.specs.declared.sets.LocalSet.{LocalSet}

unfoldable pub has : ℕ → LocalSet → Bool
has x m = m.0 / 2 ^ x % 2 == 1

-- no local
abbrev pub none : LocalSet
none = record { 0 = 0 }

-- all locals
abbrev pub full : LocalSet
full = record { 0 = 18446744073709551615 }

-- the locals of both
unfoldable pub shared : LocalSet → LocalSet → LocalSet
shared a b = record { 0 = bit_and a.0 b.0 }

-- one local more
unfoldable pub with : ℕ → LocalSet → LocalSet
with x m = cond (nat_lt x 64) (record { 0 = bit_or m.0 (2 ^ x) }) m

-- without that local
unfoldable pub without : ℕ → LocalSet → LocalSet
without x m = cond (nat_lt x 64) (record { 0 = bit_and m.0 (18446744073709551615 - 2 ^ x) }) m
