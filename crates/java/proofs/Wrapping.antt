-- What is left of a number at a width: it is in the width's range, differs by a multiple of 2 ^ bits, and is the only such number.
use Rattle.std.proofs.Common.{◌≡◌, ℕ, suc, ◌+◌, ◌-◌, ◌*◌, ◌^◌, ◌<◌, ◌≤◌, Bool, true, false, ltb, ℤ, pos, negsuc, nat_abs, sym, refl, ap, ◌∙◌, mod-eq_of_lt, arith, w64, SFits, to_z, of_z}
use lib.Bits.{bit_and}
use mir.Syntax.{Width}
use mir.Val.{bits, hbits, sel}
use mir.ValLaws as laws
use borrow.Author.Differences.{ints}
use Rattle.std.specs.Int.{int_wrap}
use Rattle.std.proofs.lemmas.Int.{int_wrap_fits, to_z-of_z}
use Rattle.std.proofs.lemmas.Nat.{pow-add, and_mask}
use Rattle.java.specs.declared.types.Numeric.{Numeric}
use Rattle.java.specs.Values.{residue, width, value_of}
use Rattle.java.specs.Laws.{Congruent}
use Rattle.java.proofs.Residues.{residue_same, residue_below, residue_congruent}

congruent_trans : (m : ℕ) (a b c : ℤ) → Congruent m a b → Congruent m b c → Congruent m a c
congruent_trans m a b c (i, j, e) (k, l, f) = (i + k, j + l, omega (arith, ints))

-- numbers that agree in some low bits agree in fewer
pub fewer_bits : (k m : ℕ) (a b : ℤ) → k ≤ m → Congruent (2 ^ m) a b → Congruent (2 ^ k) a b
fewer_bits k m a b h (i, j, e) =
    let split : 2 ^ m ≡ 2 ^ (m - k) * 2 ^ k = ap (λ (n : ℕ). 2 ^ n) (omega arith) ∙ pow-add 2 (m - k) k in
    let f = rw split at e in
    (i * 2 ^ (m - k), j * 2 ^ (m - k), omega (arith, ints))

-- bits and the signed number that they are read as
read_congruent : (w : Width) (n : ℕ) → n < 2 ^ bits w → Congruent (2 ^ bits w) (to_z w n) (pos n)
read_congruent w n h = by (ltb n (2 ^ hbits w)) refl
  where
    by : (t : Bool) → ltb n (2 ^ hbits w) ≡ t → Congruent (2 ^ bits w) (sel t (pos n) (negsuc (2 ^ bits w - suc n))) (pos n)
    by true e = (0, 0, refl)
    by false e = (1, 0, omega (arith, ints))

pub wrapped_congruent : (w : Width) (z : ℤ) → Congruent (2 ^ bits w) (int_wrap w z) z
unfolding int_wrap residue
wrapped_congruent w z = congruent_trans (2 ^ bits w) (int_wrap w z) (pos (residue (bits w) z)) z (read_congruent w (residue (bits w) z) (residue_below (bits w) z)) (residue_congruent (bits w) z)

pub wrapped_only : (w : Width) (z y : ℤ) → SFits w y → Congruent (2 ^ bits w) y z → y ≡ int_wrap w z
unfolding int_wrap residue
wrapped_only w z y f c = sym (int_wrap_fits w y f) ∙ ap (to_z w) (residue_same (bits w) y z c)

-- any low bits of a number are those of what is left of it at a width that has as many
low_kept : (k : ℕ) (w : Width) (z : ℤ) → k ≤ bits w → residue k (int_wrap w z) ≡ residue k z
low_kept k w z h = residue_same k (int_wrap w z) z (fewer_bits k (bits w) (int_wrap w z) z h (wrapped_congruent w z))

-- a mask of k bits leaves the low k bits of a number
pub masked : (k : ℕ) (w : Width) (z : ℤ) → SFits w z → k ≤ bits w → bit_and (of_z w z) (2 ^ k - 1) ≡ residue k z
unfolding residue
masked k w z f h =
    let c : Congruent (2 ^ bits w) z (pos (of_z w z)) = rw (to_z-of_z w z f) at (read_congruent w (of_z w z) (laws.of_z_fits w z f).fits) in
    and_mask (of_z w z) k ∙ sym (residue_same k z (pos (of_z w z)) (fewer_bits k (bits w) z (pos (of_z w z)) h c))

pub within_long : (n : Numeric) → width n ≤ 64
within_long n = grind arith

-- numbers with the same low bits give one value
value_of_same : (n : Numeric) (y z : ℤ) → residue (width n) y ≡ residue (width n) z → value_of n y ≡ value_of n z
unfolding int_wrap residue
value_of_same n y z e = grind arith

-- to keep 64 bits on the way to a value changes nothing
pub value_of_wrapped : (n : Numeric) (z : ℤ) → value_of n (int_wrap w64 z) ≡ value_of n z
value_of_wrapped n z = value_of_same n (int_wrap w64 z) z (low_kept (width n) w64 z (within_long n))

-- bits, as they are read
pub read_bits : (w : Width) (n : ℕ) → n < 2 ^ bits w → to_z w n ≡ int_wrap w (pos n)
unfolding int_wrap
read_bits w n h = rw (mod-eq_of_lt h)

pub value_of_read : (n : Numeric) (m : ℕ) → m < 2 ^ 64 → value_of n (to_z w64 m) ≡ value_of n (pos m)
value_of_read n m h = rw (read_bits w64 m h, value_of_wrapped n (pos m))

-- what is left of a number at a width is its low bits, as they are read
pub low_read : (w : Width) (z : ℤ) → int_wrap w z ≡ to_z w (residue (bits w) z)
unfolding int_wrap residue
low_read w z = refl

half : (w : Width) → 2 ^ hbits w < 2 ^ bits w
half w = grind arith

-- a number that is at most one too great for a width, as its bits are read
pub read_wrapped : (w : Width) (z : ℤ) → nat_abs z ≤ 2 ^ hbits w → to_z w (of_z w z) ≡ int_wrap w z
unfolding int_wrap
read_wrapped w (pos n) h = let less = half w in read_bits w n (omega arith)
read_wrapped w (negsuc n) h = let f : SFits w (negsuc n) = record { sfits = omega arith } in rw int_wrap_fits (to_z-of_z w (negsuc n) f)
