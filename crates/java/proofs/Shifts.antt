-- Shifts of a number's bits, as shifts of the number.
use Rattle.std.proofs.Common.{◌≡◌, ℕ, ◌*◌, ◌/◌, ◌%◌, ◌^◌, ◌<◌, ℤ, pos, ◌*ℤ◌, arith, pow_mono, w64, SFits, to_z, of_z}
use mir.Syntax.{Width}
use mir.Val.{bits}
use mir.ValLaws as laws
use Rattle.std.specs.Int.{int_wrap}
use Rattle.std.proofs.lemmas.Nat.{pow_below, shr_le}
use Rattle.std.proofs.lemmas.Int.{int_wrap-mul_right, wrapping_mul-bits, to_z-of_z}
use Rattle.java.specs.declared.types.Numeric.{Numeric}
use Rattle.java.specs.Values.{residue, width}
use Rattle.java.proofs.Residues.{residue_below}
use Rattle.java.proofs.Wrapping.{read_bits, within_long}

pub left_wraps : (w : Width) (a : ℤ) (d : ℕ) → SFits w a → d < bits w → to_z w ((of_z w a * 2 ^ d) % 2 ^ bits w) ≡ int_wrap w (a *ℤ pos (2 ^ d))
left_wraps w a d f h =
    let small : 2 ^ d < 2 ^ bits w = pow_below d (bits w) h in
    rw (wrapping_mul-bits w (of_z w a) (2 ^ d) (laws.of_z_fits w a f).fits small, to_z-of_z w a f, read_bits w (2 ^ d) small, int_wrap-mul_right)

pub zeros_wrap : (n : Numeric) (a : ℤ) (d : ℕ) → to_z w64 (residue (width n) a / 2 ^ d) ≡ int_wrap w64 (pos (residue (width n) a / 2 ^ d))
zeros_wrap n a d = read_bits w64 _ (omega (arith, shr_le (residue (width n) a) d, residue_below (width n) a, pow_mono (within_long n)))

-- the steps of a shift, for grind
pub ruleset shift_steps = (to_z-of_z, left_wraps, zeros_wrap)
