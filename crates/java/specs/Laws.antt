-- What holds of all values and operators, beyond the definitions that compute them.
use Rattle.std.specs.Prelude.{◌≡◌, ℕ, suc, ◌*◌, ◌/◌, ◌^◌, ◌<◌, Bool, true, cond, not, ◌⊎◌, ℤ, pos, ◌+ℤ◌, ◌*ℤ◌, neg_ℤ, ◌≤ℤ◌, ◌<ℤ◌, Some, None, Ok, Err, Option, Result, ◌==◌, ◌≢◌, unsigned_abs}
use mir.Val.{bits, hbits}
use Rattle.std.specs.Int.{int_wrap, Width}
use Rattle.java.specs.declared.types.Primitive.{Primitive}
use Rattle.java.specs.declared.types.Primitive.TheVariants as P
use Rattle.java.specs.declared.types.Numeric.{Numeric}
use Rattle.java.specs.declared.values.Value.{Value}
use Rattle.java.specs.declared.values.Value.TheVariants as V
use Rattle.java.specs.declared.operators.Unary.{Unary}
use Rattle.java.specs.declared.operators.Unary.TheVariants as U
use Rattle.java.specs.declared.operators.Binary.{Binary}
use Rattle.java.specs.declared.operators.Binary.TheVariants as B
use Rattle.java.specs.declared.operators.Arithmetic.TheVariants as A
use Rattle.java.specs.declared.operators.Shift.{Shift}
use Rattle.java.specs.declared.operators.Comparison.TheVariants as C
use Rattle.java.specs.declared.operators.Equality.TheVariants as E
use Rattle.java.specs.declared.operators.Bitwise.{Bitwise}
use Rattle.java.specs.declared.results.NoValue.{NoValue}
use Rattle.java.specs.declared.results.NoValue.TheVariants.{Untyped, ZeroDivisor}
use Rattle.java.specs.Types.{primitive}
use Rattle.java.specs.Subtypes.{◌≼◌, same_type}
use Rattle.java.specs.Values.{value_type, number, InType, InRange, residue, width}
use Rattle.java.specs.Typing.{IsNumeric, UnaryRule, BinaryRule}
use Rattle.java.specs.Results.{logical, binary_value}

-- a and b differ by a multiple of m
abbrev pub Congruent : ℕ → ℤ → ℤ → Type 0
Congruent m a b = (i : ℕ) × (j : ℕ) × (a +ℤ pos (i * m) ≡ b +ℤ pos (j * m))

-- x is the only number of which P holds that differs from z by a multiple of m
abbrev pub Only : (ℤ → Type 0) → ℕ → ℤ → ℤ → Type 0
Only P m z x = P x × Congruent m x z × ((y : ℤ) → P y → Congruent m y z → y ≡ x)

-- the signed numbers of a width: −2 ^ h ≤ z < 2 ^ h, with h one less than its bits
abbrev pub Signed : Width → ℤ → Type 0
Signed w z = (neg_ℤ (pos (2 ^ hbits w)) ≤ℤ z) × (z <ℤ pos (2 ^ hbits w))

-- what is left of a number at a width is the only signed number there that is congruent to it
abbrev pub WrappedUnique : Type 0
WrappedUnique = (w : Width) (z : ℤ) → Only (Signed w) (2 ^ bits w) z (int_wrap w z)

-- a cast to a numeric type gives the only number of the type's range that is congruent to the operand's
abbrev pub CastUnique : Unary → Value → Option Value → Type 0
CastUnique o v r = (n : Numeric) → o ≡ U.Cast n → (w : Value) → r ≡ Some w → Only (InType (primitive n)) (2 ^ width n) (number v) (number w)

-- a unary operator gives a value exactly where a rule gives a type, and of that type
abbrev pub UnaryTyped : Unary → Value → Option Value → Type 0
UnaryTyped o v (Some w) = UnaryRule o (value_type v) (value_type w) × InRange w
UnaryTyped o v None = (t : Primitive) → UnaryRule o (value_type v) t → ⊥

-- a cast to a wider type keeps the number
abbrev pub Widened : Unary → Value → Option Value → Type 0
Widened o v r = (n : Numeric) → o ≡ U.Cast n → value_type v ≼ primitive n → (w : Value) × (r ≡ Some w) × (number w ≡ number v)

-- the operators that have no value for a zero divisor
abbrev pub Divides : Binary → Type 0
Divides o = (o ≡ B.Arithmetic A.Divide) ⊎ (o ≡ B.Arithmetic A.Remainder)

-- a binary operator gives a value exactly where a rule gives a type, and of that type, but for a zero divisor
abbrev pub BinaryTyped : Binary → Value → Value → Result Value NoValue → Type 0
BinaryTyped o l r (Ok w) = BinaryRule o (value_type l) (value_type r) (value_type w) × InRange w × (Divides o → number r ≢ pos 0)
BinaryTyped o l r (Err Untyped) = (t : Primitive) → BinaryRule o (value_type l) (value_type r) t → ⊥
BinaryTyped o l r (Err ZeroDivisor) = Divides o × (number r ≡ pos 0) × ((t : Primitive) × BinaryRule o (value_type l) (value_type r) t)

-- of l by r, with quotient q and remainder m: quotient times divisor plus remainder, each by the operators themselves,
-- is the dividend again; the remainder is zero or of the dividend's sign, and smaller than the divisor; with a whole
-- number k in place of the quotient the same holds without wrapping, and q is k wherever its type has k
abbrev pub DividedInto : Value → Value → Value → Value → Type 0
DividedInto l r q m =
    ((p : Value) × (s : Value) × (binary_value (B.Arithmetic A.Times) q r ≡ Ok p) × (binary_value (B.Arithmetic A.Plus) p m ≡ Ok s) × (number s ≡ number l))
    × ((k : ℤ) × (k *ℤ number r +ℤ number m ≡ number l) × (InType (value_type q) k → number q ≡ k))
    × (pos 0 ≤ℤ number l → pos 0 ≤ℤ number m)
    × (number l ≤ℤ pos 0 → number m ≤ℤ pos 0)
    × (unsigned_abs (number m) < unsigned_abs (number r))

-- so wherever both / and % have a value
abbrev pub Divided : Value → Value → Type 0
Divided l r = (q m : Value) → binary_value (B.Arithmetic A.Divide) l r ≡ Ok q → binary_value (B.Arithmetic A.Remainder) l r ≡ Ok m → DividedInto l r q m

-- an operator on two values gives this truth value
abbrev pub Gives : Binary → Value → Value → Bool → Type 0
Gives o v w b = binary_value o v w ≡ Ok (V.Boolean b)

-- == is an equivalence, that of equal numbers, wherever it has a type
pub record Equivalence : Type 0 where
  pub numbers : (v w : Value) (b : Bool) → Gives (B.Equality E.Equal) v w b → (b ≡ true → number v ≡ number w) × (number v ≡ number w → b ≡ true)
  pub reflexive : (v : Value) → Gives (B.Equality E.Equal) v v true
  pub symmetric : (v w : Value) (b : Bool) → Gives (B.Equality E.Equal) v w b → Gives (B.Equality E.Equal) w v b
  pub transitive : (u v w : Value) (b : Bool) → Gives (B.Equality E.Equal) u v true → Gives (B.Equality E.Equal) v w true → Gives (B.Equality E.Equal) u w b → b ≡ true
  pub unequal : (v w : Value) (b : Bool) → Gives (B.Equality E.NotEqual) v w b → Gives (B.Equality E.Equal) v w (not b)

-- < is a strict order, that of the numbers, wherever it has a type, and total on the numbers of numeric values; the
-- other three go by it
pub record StrictOrder : Type 0 where
  pub numbers : (v w : Value) (b : Bool) → Gives (B.Comparison C.Less) v w b → (b ≡ true → number v <ℤ number w) × (number v <ℤ number w → b ≡ true)
  pub irreflexive : (v : Value) → Gives (B.Comparison C.Less) v v true → ⊥
  pub transitive : (u v w : Value) → Gives (B.Comparison C.Less) u v true → Gives (B.Comparison C.Less) v w true → Gives (B.Comparison C.Less) u w true
  pub total : (v w : Value) → IsNumeric (value_type v) → IsNumeric (value_type w) → Gives (B.Comparison C.Less) v w true ⊎ (number v ≡ number w) ⊎ Gives (B.Comparison C.Less) w v true
  pub greater : (v w : Value) (b : Bool) → Gives (B.Comparison C.Greater) v w b → Gives (B.Comparison C.Less) w v b
  pub at_most : (v w : Value) (b : Bool) → Gives (B.Comparison C.LessOrEqual) v w b → Gives (B.Comparison C.Less) w v (not b)
  pub at_least : (v w : Value) (b : Bool) → Gives (B.Comparison C.GreaterOrEqual) v w b → Gives (B.Comparison C.Less) v w (not b)

-- a shift goes by its count modulo 64 where the left operand is long, and modulo 32 otherwise: counts that differ by a
-- multiple of that, of whatever numeric types, move alike
abbrev pub LowCount : Type 0
LowCount = (o : Shift) (l r s : Value) → IsNumeric (value_type r) → IsNumeric (value_type s) → Congruent (cond (same_type (value_type l) P.Long) 64 32) (number r) (number s) → binary_value (B.Shift o) l r ≡ binary_value (B.Shift o) l s

-- whether bit i of a number in two's complement is one: the highest of its low i + 1 bits
abbrev pub has_bit : ℕ → ℤ → Bool
has_bit i z = residue (suc i) z / 2 ^ i == 1

-- & ^ | do with each bit of two numbers what they do with two booleans
abbrev pub BitByBit : Type 0
BitByBit = (o : Bitwise) (l r w : Value) (n : Numeric) → value_type w ≡ primitive n → binary_value (B.Bitwise o) l r ≡ Ok w → (i : ℕ) → i < width n → has_bit i (number w) ≡ logical o (has_bit i (number l)) (has_bit i (number r))

-- all that holds of a unary operator o, which gave r on v
pub record UnaryLawful (o : Unary) (v : Value) (r : Option Value) : Type 0 where
  pub typed : UnaryTyped o v r
  pub cast : CastUnique o v r
  pub widened : Widened o v r
  pub wrapped_unique : WrappedUnique

-- all that holds of a binary operator o, which gave x on l and r
pub record BinaryLawful (o : Binary) (l r : Value) (x : Result Value NoValue) : Type 0 where
  pub typed : BinaryTyped o l r x
  pub divided : Divided l r
  pub equivalence : Equivalence
  pub strict_order : StrictOrder
  pub low_count : LowCount
  pub bit_by_bit : BitByBit
