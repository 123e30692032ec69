-- The values: the type and the number of each, the range of a type, and the value that the low bits of a number give.
use Rattle.std.specs.Prelude.{◌≡◌, ℕ, ◌^◌, Bool, cond, ◌&&◌, List, ℤ, pos, negsuc, ◌≤ℤ◌, Some, None, codes, Option, int_le, unsigned_abs}
use Rattle.std.specs.Int.{int_rem_euclid, int_wrap, w8, w16, w32, w64}
use Rattle.std.specs.Fmt.{signed_decimal}
use Rattle.java.specs.declared.types.Primitive.{Primitive}
use Rattle.java.specs.declared.types.Primitive.TheVariants as P
use Rattle.java.specs.declared.types.Numeric.{Numeric}
use Rattle.java.specs.declared.types.Numeric.TheVariants as N
use Rattle.java.specs.declared.values.Value.{Value}
use Rattle.java.specs.declared.values.Value.TheVariants as V
use Rattle.java.specs.Types.{numeric}

abbrev pub value_type : Value → Primitive
value_type (V.Boolean b) = P.Boolean
value_type (V.Byte n) = P.Byte
value_type (V.Short n) = P.Short
value_type (V.Char n) = P.Char
value_type (V.Int n) = P.Int
value_type (V.Long n) = P.Long

-- the number of a value; false is 0 and true is 1
abbrev pub number : Value → ℤ
number (V.Boolean b) = cond b (pos 1) (pos 0)
number (V.Byte n) = n
number (V.Short n) = n
number (V.Char n) = pos n
number (V.Int n) = n
number (V.Long n) = n

-- the least and the greatest number of each type; negsuc n is −(n + 1)
abbrev pub least : Primitive → ℤ
least P.Boolean = pos 0
least P.Byte = negsuc 127
least P.Short = negsuc 32767
least P.Char = pos 0
least P.Int = negsuc 2147483647
least P.Long = negsuc 9223372036854775807

abbrev pub greatest : Primitive → ℤ
greatest P.Boolean = pos 1
greatest P.Byte = pos 127
greatest P.Short = pos 32767
greatest P.Char = pos 65535
greatest P.Int = pos 2147483647
greatest P.Long = pos 9223372036854775807

-- z is a number of the type
abbrev pub InType : Primitive → ℤ → Type 0
InType t z = (least t ≤ℤ z) × (z ≤ℤ greatest t)

-- a value holds a number of its type
abbrev pub InRange : Value → Type 0
InRange v = InType (value_type v) (number v)

-- the low k bits of a number in two's complement: what is left of it modulo 2 ^ k
unfoldable pub residue : ℕ → ℤ → ℕ
residue k z = unsigned_abs (int_rem_euclid z (pos (2 ^ k)))

-- in how many bits the numbers of a numeric type are kept
abbrev pub width : Numeric → ℕ
width N.Byte = 8
width N.Short = 16
width N.Char = 16
width N.Int = 32
width N.Long = 64

-- the value that the low bits of a number give at a numeric type: signed, but for char
abbrev pub value_of : Numeric → ℤ → Value
value_of N.Byte z = V.Byte (int_wrap w8 z)
value_of N.Short z = V.Short (int_wrap w16 z)
value_of N.Char z = V.Char (residue 16 z)
value_of N.Int z = V.Int (int_wrap w32 z)
value_of N.Long z = V.Long (int_wrap w64 z)

-- the value with a number of a type: at a numeric type, or at boolean, which is none
abbrev pub numeric_value : Option Numeric → ℤ → Value
numeric_value None z = V.Boolean (int_le (pos 1) z)
numeric_value (Some n) z = value_of n z

abbrev pub value_with : Primitive → ℤ → Value
value_with t z = numeric_value (numeric t) z

-- whether z is a number of the type, and the value with it if so
abbrev pub in_type : Primitive → ℤ → Bool
in_type t z = int_le (least t) z && int_le z (greatest t)

abbrev pub new_value : Primitive → ℤ → Option Value
new_value t z = cond (in_type t z) (Some (value_with t z)) None

-- the value that is given has the type t and the number z; none is given only where t has no such number
abbrev pub Constructed : Primitive → ℤ → Option Value → Type 0
Constructed t z (Some v) = (value_type v ≡ t) × (number v ≡ z) × InRange v
Constructed t z None = InType t z → ⊥

-- a value as text: true or false, or its number
abbrev pub value_text : Value → List ℕ
value_text (V.Boolean b) = cond b (codes "true") (codes "false")
value_text (V.Byte n) = signed_decimal n
value_text (V.Short n) = signed_decimal n
value_text (V.Char n) = signed_decimal (pos n)
value_text (V.Int n) = signed_decimal n
value_text (V.Long n) = signed_decimal n
