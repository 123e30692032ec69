-- Quotients and remainders of whole numbers, by their sizes.
use Rattle.std.proofs.Common.{◌≡◌, ◌/◌, ◌^◌, ◌≤◌, ℤ, pos, ◌+ℤ◌, ◌*ℤ◌, nat_abs, ◌≤ℤ◌, div-le_self, arith, SFits, to_z, of_z}
use native.Mathlib.Nat.{mod-le}
use lib.Signed.{quot_z, rem_z, nat_abs-le}
use mir.Syntax.{Width}
use mir.Val.{hbits}
use borrow.Author.Differences.{ints}
use Rattle.std.specs.Int.{int_wrap}
use Rattle.std.proofs.lemmas.Int.{int_wrap_fits, int_wrap-add_left, int_wrap-add_right, int_wrap-mul_left, quot-rem}
use Rattle.java.proofs.Wrapping.{read_wrapped}

size_quotient : (a b : ℤ) → nat_abs (quot_z a b) ≡ nat_abs a / nat_abs b
size_quotient a b = grind (arith, ints)

-- the quotient of numbers of a width, as its bits are read, is what is left of it there
pub quotient_wraps : (w : Width) (a b : ℤ) → SFits w a → to_z w (of_z w (quot_z a b)) ≡ int_wrap w (quot_z a b)
quotient_wraps w a b f =
    let small : nat_abs a ≤ 2 ^ hbits w = nat_abs-le a f.sfits in
    let less : nat_abs a / nat_abs b ≤ nat_abs a = div-le_self (nat_abs a) (nat_abs b) in
    let size = size_quotient a b in
    read_wrapped w (quot_z a b) (omega arith)

-- a number is its quotient times the divisor, plus its remainder, also at a width, where each step wraps
pub whole_wraps : (w : Width) (a b : ℤ) → SFits w a → int_wrap w (int_wrap w (int_wrap w (quot_z a b) *ℤ b) +ℤ int_wrap w (rem_z a b)) ≡ a
whole_wraps w a b f = rw (int_wrap-mul_left, int_wrap-add_left, int_wrap-add_right, quot-rem) (int_wrap_fits w a f)

-- the remainder's sign
pub remainder_up : (a b : ℤ) → pos 0 ≤ℤ a → pos 0 ≤ℤ rem_z a b
remainder_up a b h = grind (arith, ints)

pub remainder_down : (a b : ℤ) → a ≤ℤ pos 0 → rem_z a b ≤ℤ pos 0
remainder_down a b h = grind (arith, ints, mod-le)
