-- The operators: the code of each in stored data, and its symbol in Java.
use Rattle.std.specs.Prelude.{ℕ, ◌+◌, cond, List, Some, None, codes, Option, ◌==◌}
use Rattle.java.specs.declared.types.Numeric.TheVariants as N
use Rattle.java.specs.declared.operators.Unary.{Unary}
use Rattle.java.specs.declared.operators.Unary.TheVariants as U
use Rattle.java.specs.declared.operators.Binary.{Binary}
use Rattle.java.specs.declared.operators.Binary.TheVariants as B
use Rattle.java.specs.declared.operators.Arithmetic.TheVariants as A
use Rattle.java.specs.declared.operators.Shift.TheVariants as S
use Rattle.java.specs.declared.operators.Comparison.TheVariants as C
use Rattle.java.specs.declared.operators.Equality.TheVariants as E
use Rattle.java.specs.declared.operators.Bitwise.TheVariants as W
use Rattle.java.specs.Types.{type_code, primitive}

-- a cast has 16 more than the code of its type
abbrev pub unary_code : Unary → ℕ
unary_code U.Plus = 0
unary_code U.Minus = 1
unary_code U.Complement = 2
unary_code U.Not = 3
unary_code (U.Cast n) = 16 + type_code (primitive n)

-- the unary operator whose code this is
abbrev pub unary_of : ℕ → Option Unary
unary_of c =
    cond (c == 0) (Some U.Plus)
    (cond (c == 1) (Some U.Minus)
    (cond (c == 2) (Some U.Complement)
    (cond (c == 3) (Some U.Not)
    (cond (c == 17) (Some (U.Cast N.Byte))
    (cond (c == 18) (Some (U.Cast N.Short))
    (cond (c == 19) (Some (U.Cast N.Char))
    (cond (c == 20) (Some (U.Cast N.Int))
    (cond (c == 21) (Some (U.Cast N.Long)) None))))))))

abbrev pub unary_symbol : Unary → List ℕ
unary_symbol U.Plus = codes "+"
unary_symbol U.Minus = codes "-"
unary_symbol U.Complement = codes "~"
unary_symbol U.Not = codes "!"
unary_symbol (U.Cast N.Byte) = codes "(byte)"
unary_symbol (U.Cast N.Short) = codes "(short)"
unary_symbol (U.Cast N.Char) = codes "(char)"
unary_symbol (U.Cast N.Int) = codes "(int)"
unary_symbol (U.Cast N.Long) = codes "(long)"

abbrev pub binary_code : Binary → ℕ
binary_code (B.Arithmetic A.Times) = 0
binary_code (B.Arithmetic A.Divide) = 1
binary_code (B.Arithmetic A.Remainder) = 2
binary_code (B.Arithmetic A.Plus) = 3
binary_code (B.Arithmetic A.Minus) = 4
binary_code (B.Shift S.Left) = 5
binary_code (B.Shift S.Right) = 6
binary_code (B.Shift S.UnsignedRight) = 7
binary_code (B.Comparison C.Less) = 8
binary_code (B.Comparison C.LessOrEqual) = 9
binary_code (B.Comparison C.Greater) = 10
binary_code (B.Comparison C.GreaterOrEqual) = 11
binary_code (B.Equality E.Equal) = 12
binary_code (B.Equality E.NotEqual) = 13
binary_code (B.Bitwise W.And) = 14
binary_code (B.Bitwise W.Xor) = 15
binary_code (B.Bitwise W.Or) = 16

-- the binary operator whose code this is
abbrev pub binary_of : ℕ → Option Binary
binary_of c =
    cond (c == 0) (Some (B.Arithmetic A.Times))
    (cond (c == 1) (Some (B.Arithmetic A.Divide))
    (cond (c == 2) (Some (B.Arithmetic A.Remainder))
    (cond (c == 3) (Some (B.Arithmetic A.Plus))
    (cond (c == 4) (Some (B.Arithmetic A.Minus))
    (cond (c == 5) (Some (B.Shift S.Left))
    (cond (c == 6) (Some (B.Shift S.Right))
    (cond (c == 7) (Some (B.Shift S.UnsignedRight))
    (cond (c == 8) (Some (B.Comparison C.Less))
    (cond (c == 9) (Some (B.Comparison C.LessOrEqual))
    (cond (c == 10) (Some (B.Comparison C.Greater))
    (cond (c == 11) (Some (B.Comparison C.GreaterOrEqual))
    (cond (c == 12) (Some (B.Equality E.Equal))
    (cond (c == 13) (Some (B.Equality E.NotEqual))
    (cond (c == 14) (Some (B.Bitwise W.And))
    (cond (c == 15) (Some (B.Bitwise W.Xor))
    (cond (c == 16) (Some (B.Bitwise W.Or)) None))))))))))))))))

abbrev pub binary_symbol : Binary → List ℕ
binary_symbol (B.Arithmetic A.Times) = codes "*"
binary_symbol (B.Arithmetic A.Divide) = codes "/"
binary_symbol (B.Arithmetic A.Remainder) = codes "%"
binary_symbol (B.Arithmetic A.Plus) = codes "+"
binary_symbol (B.Arithmetic A.Minus) = codes "-"
binary_symbol (B.Shift S.Left) = codes "<<"
binary_symbol (B.Shift S.Right) = codes ">>"
binary_symbol (B.Shift S.UnsignedRight) = codes ">>>"
binary_symbol (B.Comparison C.Less) = codes "<"
binary_symbol (B.Comparison C.LessOrEqual) = codes "<="
binary_symbol (B.Comparison C.Greater) = codes ">"
binary_symbol (B.Comparison C.GreaterOrEqual) = codes ">="
binary_symbol (B.Equality E.Equal) = codes "=="
binary_symbol (B.Equality E.NotEqual) = codes "!="
binary_symbol (B.Bitwise W.And) = codes "&"
binary_symbol (B.Bitwise W.Xor) = codes "^"
binary_symbol (B.Bitwise W.Or) = codes "|"
