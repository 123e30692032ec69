-- What an operator gives on values: the arithmetic of whole numbers, of which the result's type keeps the low bits.
use Rattle.std.specs.Prelude.{ℕ, ◌/◌, ◌^◌, List, codes, Bool, false, cond, not, ◌&&◌, ◌||◌, ℤ, pos, ◌+ℤ◌, ◌-ℤ◌, ◌*ℤ◌, neg_ℤ, Some, None, Ok, Err, Option, Result, ◌==◌, bit_and, bit_or, bit_xor, int_div, int_le, int_lt, int_rem, unsigned_abs}
use Rattle.std.specs.Int.Signed.{shr_z}
use Rattle.std.specs.Option.{option_map, ok_or}
use Rattle.java.specs.declared.types.Primitive.TheVariants as P
use Rattle.java.specs.declared.types.Numeric.{Numeric}
use Rattle.java.specs.declared.values.Value.{Value}
use Rattle.java.specs.declared.values.Value.TheVariants as V
use Rattle.java.specs.declared.operators.Unary.{Unary}
use Rattle.java.specs.declared.operators.Unary.TheVariants as U
use Rattle.java.specs.declared.operators.Binary.{Binary}
use Rattle.java.specs.declared.operators.Binary.TheVariants as B
use Rattle.java.specs.declared.operators.Arithmetic.{Arithmetic}
use Rattle.java.specs.declared.operators.Arithmetic.TheVariants as A
use Rattle.java.specs.declared.operators.Shift.{Shift}
use Rattle.java.specs.declared.operators.Shift.TheVariants as S
use Rattle.java.specs.declared.operators.Comparison.{Comparison}
use Rattle.java.specs.declared.operators.Comparison.TheVariants as C
use Rattle.java.specs.declared.operators.Equality.{Equality}
use Rattle.java.specs.declared.operators.Equality.TheVariants as E
use Rattle.java.specs.declared.operators.Bitwise.{Bitwise}
use Rattle.java.specs.declared.operators.Bitwise.TheVariants as W
use Rattle.java.specs.declared.results.NoValue.{NoValue}
use Rattle.java.specs.declared.results.NoValue.TheVariants.{Untyped, ZeroDivisor}
use Rattle.java.specs.Types.{numeric, is_long}
use Rattle.java.specs.Subtypes.{same_type}
use Rattle.java.specs.Values.{value_type, number, residue, width, value_of}
use Rattle.java.specs.Typing.{promoted, promoted_pair, promoted_shift, not_type, comparison_type, equality_type}

-- whether a value is the boolean true
abbrev pub truth : Value → Bool
truth (V.Boolean b) = b
truth _ = false

-- the value that a unary operator gives, or none where no rule fits; ~z is −z − 1
abbrev pub unary_value : Unary → Value → Option Value
unary_value U.Plus v = option_map (λ n. value_of n (number v)) (promoted (value_type v))
unary_value U.Minus v = option_map (λ n. value_of n (neg_ℤ (number v))) (promoted (value_type v))
unary_value U.Complement v = option_map (λ n. value_of n (neg_ℤ (number v) -ℤ pos 1)) (promoted (value_type v))
unary_value U.Not v = option_map (λ _. V.Boolean (not (truth v))) (not_type (value_type v))
unary_value (U.Cast n) v = option_map (λ _. value_of n (number v)) (numeric (value_type v))

-- the arithmetic operators on whole numbers: a quotient is rounded toward zero, and a remainder has the dividend's sign
abbrev pub arithmetic : Arithmetic → ℤ → ℤ → ℤ
arithmetic A.Times a b = a *ℤ b
arithmetic A.Divide a b = int_div a b
arithmetic A.Remainder a b = int_rem a b
arithmetic A.Plus a b = a +ℤ b
arithmetic A.Minus a b = a -ℤ b

abbrev pub is_zero : ℤ → Bool
is_zero z = unsigned_abs z == 0

-- whether an operator has no value for its right operand
abbrev pub zero_divisor : Arithmetic → ℤ → Bool
zero_divisor A.Times b = false
zero_divisor A.Divide b = is_zero b
zero_divisor A.Remainder b = is_zero b
zero_divisor A.Plus b = false
zero_divisor A.Minus b = false

abbrev pub arithmetic_at : Arithmetic → ℤ → ℤ → Option Numeric → Result Value NoValue
arithmetic_at o a b None = Err Untyped
arithmetic_at o a b (Some n) = cond (zero_divisor o b) (Err ZeroDivisor) (Ok (value_of n (arithmetic o a b)))

abbrev pub arithmetic_value : Arithmetic → Value → Value → Result Value NoValue
arithmetic_value o l r = arithmetic_at o (number l) (number r) (promoted_pair (value_type l) (value_type r))

-- how far to shift: the low 6 bits of the count where what is shifted is long, and the low 5 otherwise
abbrev pub distance_bits : Numeric → ℕ
distance_bits n = cond (is_long n) 6 5

abbrev pub distance : Numeric → ℤ → ℕ
distance n z = residue (distance_bits n) z

-- to the right the sign is carried, or zeros fill from the left end of the width
abbrev pub shifted : Shift → Numeric → ℤ → ℕ → ℤ
shifted S.Left n a d = a *ℤ pos (2 ^ d)
shifted S.Right n a d = shr_z a (2 ^ d)
shifted S.UnsignedRight n a d = pos (residue (width n) a / 2 ^ d)

abbrev pub shift_value : Shift → Value → Value → Result Value NoValue
shift_value o l r = ok_or (option_map (λ n. value_of n (shifted o n (number l) (distance n (number r)))) (promoted_shift (value_type l) (value_type r))) Untyped

abbrev pub compared : Comparison → ℤ → ℤ → Bool
compared C.Less a b = int_lt a b
compared C.LessOrEqual a b = int_le a b
compared C.Greater a b = int_lt b a
compared C.GreaterOrEqual a b = int_le b a

abbrev pub comparison_value : Comparison → Value → Value → Result Value NoValue
comparison_value o l r = ok_or (option_map (λ _. V.Boolean (compared o (number l) (number r))) (comparison_type (value_type l) (value_type r))) Untyped

abbrev pub same_number : ℤ → ℤ → Bool
same_number a b = is_zero (a -ℤ b)

abbrev pub equal : Equality → ℤ → ℤ → Bool
equal E.Equal a b = same_number a b
equal E.NotEqual a b = not (same_number a b)

abbrev pub equality_value : Equality → Value → Value → Result Value NoValue
equality_value o l r = ok_or (option_map (λ _. V.Boolean (equal o (number l) (number r))) (equality_type (value_type l) (value_type r))) Untyped

abbrev pub bitwise : Bitwise → ℕ → ℕ → ℕ
bitwise W.And a b = bit_and a b
bitwise W.Xor a b = bit_xor a b
bitwise W.Or a b = bit_or a b

abbrev pub logical : Bitwise → Bool → Bool → Bool
logical W.And a b = a && b
logical W.Xor a b = cond a (not b) b
logical W.Or a b = a || b

abbrev pub bitwise_value : Bitwise → Value → Value → Result Value NoValue
bitwise_value o l r =
    cond (same_type (value_type l) P.Boolean && same_type (value_type r) P.Boolean)
    (Ok (V.Boolean (logical o (truth l) (truth r))))
    (ok_or (option_map (λ n. value_of n (pos (bitwise o (residue (width n) (number l)) (residue (width n) (number r))))) (promoted_pair (value_type l) (value_type r))) Untyped)

-- why there is no value, in words
abbrev pub no_value_text : NoValue → List ℕ
no_value_text Untyped = codes "no type"
no_value_text ZeroDivisor = codes "zero divisor"

abbrev pub binary_value : Binary → Value → Value → Result Value NoValue
binary_value (B.Arithmetic o) l r = arithmetic_value o l r
binary_value (B.Shift o) l r = shift_value o l r
binary_value (B.Comparison o) l r = comparison_value o l r
binary_value (B.Equality o) l r = equality_value o l r
binary_value (B.Bitwise o) l r = bitwise_value o l r
