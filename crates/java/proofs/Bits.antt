-- Shifts go by the low bits of their counts, and the bitwise operators bit by bit.
use Rattle.std.proofs.Common.{◌≡◌, ℕ, suc, ◌%◌, ◌+◌, min, max, not, ◌||◌, ◌^◌, ◌<◌, Bool, true, false, cond, ◌&&◌, eqb, ℤ, pos, Some, None, Ok, Option, refl, sym, ◌∙◌, arith}
use Rattle.std.specs.Option.{option_map, ok_or}
use Rattle.std.specs.Int.{bit_at}
use Rattle.std.proofs.lemmas.Nat.{field_of}
use Rattle.std.proofs.lemmas.Nat.Bits.{bit_at_and, bit_at_or, bit_at_xor, bit_at-lt}
use Rattle.std.proofs.lemmas.Bool.Decides.{nat_tests}
use Rattle.java.specs.declared.types.Primitive.{Primitive}
use Rattle.java.specs.declared.types.Primitive.TheVariants as P
use Rattle.java.specs.declared.types.Numeric.{Numeric}
use Rattle.java.specs.declared.values.Value.{Value}
use Rattle.java.specs.declared.values.Value.TheVariants as V
use Rattle.java.specs.declared.operators.Bitwise.{Bitwise}
use Rattle.java.specs.declared.operators.Bitwise.TheVariants as W
use Rattle.java.specs.declared.results.NoValue.TheVariants.{Untyped}
use Rattle.java.specs.Types.{primitive}
use Rattle.java.specs.Subtypes.{same_type}
use Rattle.java.specs.Values.{value_type, number, residue, width, value_of}
use Rattle.java.specs.Typing.{promoted, promoted_pair}
use Rattle.java.specs.Results.{truth, distance_bits, distance, shifted, bitwise, logical}
use Rattle.java.specs.Laws.{Congruent, LowCount, has_bit, BitByBit}
use Rattle.java.proofs.Ranges.{type_kept, kept_unique}
use Rattle.java.proofs.Residues.{residue_same, residue_congruent}
use Rattle.java.proofs.Rules.{counted}
use Rattle.java.proofs.Wrapping.{fewer_bits}

-- a count is taken modulo 64 where the left operand is long, and modulo 32 otherwise: as many as its low bits say
count_bits : (a : Primitive) (n : Numeric) → promoted a ≡ Some n → cond (same_type a P.Long) 64 32 ≡ 2 ^ distance_bits n
count_bits a n e = grind arith

pub low_count : LowCount
low_count o l r s nr ns c = rw (counted (value_type l) (value_type r) nr, counted (value_type l) (value_type s) ns) (by (promoted (value_type l)) refl)
  where
    by : (x : Option Numeric) → promoted (value_type l) ≡ x → ok_or (option_map (λ n. value_of n (shifted o n (number l) (distance n (number r)))) x) Untyped ≡ ok_or (option_map (λ n. value_of n (shifted o n (number l) (distance n (number s)))) x) Untyped
    by None e = refl
    by (Some n) e = rw (residue_same (distance_bits n) (number r) (number s) (rw (count_bits (value_type l) n e) at c))

-- numbers that agree in their low k bits agree in each of them
same_bit : (i k : ℕ) (a b : ℤ) → i < k → Congruent (2 ^ k) a b → has_bit i a ≡ has_bit i b
same_bit i k a b h c = rw (residue_same (suc i) a b (fewer_bits (suc i) k a b h c))

bit_of_nat : (i n : ℕ) → has_bit i (pos n) ≡ eqb (bit_at n i) 1
unfolding residue
bit_of_nat i n = let more : suc i ≡ 1 + i = omega arith in rw (more, field_of n 1 i)

bit_of : (i k : ℕ) (z : ℤ) → i < k → has_bit i z ≡ eqb (bit_at (residue k z) i) 1
bit_of i k z h = sym (same_bit i k (pos (residue k z)) z h (residue_congruent k z)) ∙ bit_of_nat i (residue k z)

-- on one bit a bitwise operator is logical
least_bit : (p q : ℕ) → p < 2 → q < 2 → eqb (min p q) 1 ≡ (eqb p 1 && eqb q 1)
least_bit p q h k = grind (arith, nat_tests)

greatest_bit : (p q : ℕ) → p < 2 → q < 2 → eqb (max p q) 1 ≡ (eqb p 1 || eqb q 1)
greatest_bit p q h k = grind (arith, nat_tests)

odd_bit : (p q : ℕ) → p < 2 → q < 2 → eqb ((p + q) % 2) 1 ≡ cond (eqb p 1) (not (eqb q 1)) (eqb q 1)
odd_bit p q h k = grind (arith, nat_tests)

on_bit : (o : Bitwise) (a b i : ℕ) → eqb (bit_at (bitwise o a b) i) 1 ≡ logical o (eqb (bit_at a i) 1) (eqb (bit_at b i) 1)
on_bit W.And a b i = rw (bit_at_and a b i) (least_bit _ _ (bit_at-lt a i) (bit_at-lt b i))
on_bit W.Xor a b i = rw (bit_at_xor a b i) (odd_bit _ _ (bit_at-lt a i) (bit_at-lt b i))
on_bit W.Or a b i = rw (bit_at_or a b i) (greatest_bit _ _ (bit_at-lt a i) (bit_at-lt b i))

-- different numeric types are different types
one_numeric : (m n : Numeric) → primitive m ≡ primitive n → m ≡ n
one_numeric m n e = grind arith

-- what a bitwise operator gives at a type, which keeps the bits
abbrev bitwise_at : Bitwise → ℤ → ℤ → Numeric → Value
bitwise_at o a b n = value_of n (pos (bitwise o (residue (width n) a) (residue (width n) b)))

bits_at : (o : Bitwise) (n : Numeric) (a b : ℤ) (i : ℕ) → i < width n → has_bit i (number (bitwise_at o a b n)) ≡ logical o (has_bit i a) (has_bit i b)
bits_at o n a b i h =
    let x = bitwise o (residue (width n) a) (residue (width n) b) in
    let kept : has_bit i (number (value_of n (pos x))) ≡ has_bit i (pos x) = same_bit i (width n) _ (pos x) h (kept_unique n (pos x)).1 in
    rw (kept, bit_of_nat i x, bit_of i (width n) a h, bit_of i (width n) b h) (on_bit o (residue (width n) a) (residue (width n) b) i)

pub bit_by_bit : BitByBit
bit_by_bit o l r w n type = by (same_type (value_type l) P.Boolean && same_type (value_type r) P.Boolean) (logical o (truth l) (truth r)) (promoted_pair (value_type l) (value_type r))
  where
    by : (booleans b : Bool) (x : Option Numeric) → cond booleans (Ok (V.Boolean b)) (ok_or (option_map (bitwise_at o (number l) (number r)) x) Untyped) ≡ Ok w → (i : ℕ) → i < width n → has_bit i (number w) ≡ logical o (has_bit i (number l)) (has_bit i (number r))
    by true b x e = let boolean : primitive n ≡ P.Boolean = cc in grind arith
    by false b None e = cc
    by false b (Some m) e =
        let is : bitwise_at o (number l) (number r) m ≡ w = cc in
        let kept : value_type w ≡ primitive m = rw (← is) (type_kept m _) in
        let same : m ≡ n = one_numeric m n (cc) in
        λ i h. rw (← is) (bits_at o m (number l) (number r) i (rw (← same) at h))
