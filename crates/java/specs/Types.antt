-- The primitive types: the code of each in stored data, its keyword, which of them are numeric, and the widest of some.
use Rattle.std.specs.Prelude.{ℕ, Bool, true, false, cond, List, [], ◌∷◌, Some, None, codes, Option, ◌==◌}
use Rattle.java.specs.declared.types.Primitive.{Primitive}
use Rattle.java.specs.declared.types.Primitive.TheVariants.{Boolean, Byte, Short, Char, Int, Long}
use Rattle.java.specs.declared.types.Numeric.{Numeric}
use Rattle.java.specs.declared.types.Numeric.TheVariants as N

abbrev pub type_code : Primitive → ℕ
type_code Boolean = 0
type_code Byte = 1
type_code Short = 2
type_code Char = 3
type_code Int = 4
type_code Long = 5

-- the keyword of the type, as text
abbrev pub type_name : Primitive → List ℕ
type_name Boolean = codes "boolean"
type_name Byte = codes "byte"
type_name Short = codes "short"
type_name Char = codes "char"
type_name Int = codes "int"
type_name Long = codes "long"

-- the type whose code this is
abbrev pub type_of : ℕ → Option Primitive
type_of c =
    cond (c == 0) (Some Boolean)
    (cond (c == 1) (Some Byte)
    (cond (c == 2) (Some Short)
    (cond (c == 3) (Some Char)
    (cond (c == 4) (Some Int)
    (cond (c == 5) (Some Long) None)))))

-- a numeric type among all types
abbrev pub primitive : Numeric → Primitive
primitive N.Byte = Byte
primitive N.Short = Short
primitive N.Char = Char
primitive N.Int = Int
primitive N.Long = Long

-- a type as a numeric one: each is, but boolean
abbrev pub numeric : Primitive → Option Numeric
numeric Boolean = None
numeric Byte = Some N.Byte
numeric Short = Some N.Short
numeric Char = Some N.Char
numeric Int = Some N.Int
numeric Long = Some N.Long

abbrev pub is_long : Numeric → Bool
is_long N.Long = true
is_long _ = false

-- the widest of some numeric types and int: long if one of them is long, otherwise int
abbrev pub widest : List Numeric → Numeric
widest [] = N.Int
widest (t ∷ ts) = cond (is_long t) N.Long (widest ts)
