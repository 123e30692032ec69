-- The typing rules: the type of an operator's result from the types of its operands, or none.
use Rattle.std.specs.Prelude.{◌≡◌, cond, ◌&&◌, ◌||◌, [], ◌∷◌, Some, None, Option}
use Rattle.std.specs.Option.{option_map, option_zip, option_and}
use Rattle.java.specs.declared.types.Primitive.{Primitive}
use Rattle.java.specs.declared.types.Primitive.TheVariants.{Boolean}
use Rattle.java.specs.declared.types.Numeric.{Numeric}
use Rattle.java.specs.declared.operators.Unary.{Unary}
use Rattle.java.specs.declared.operators.Unary.TheVariants as U
use Rattle.java.specs.declared.operators.Binary.{Binary}
use Rattle.java.specs.declared.operators.Binary.TheVariants as B
use Rattle.java.specs.declared.operators.Arithmetic.{Arithmetic}
use Rattle.java.specs.declared.operators.Shift.{Shift}
use Rattle.java.specs.declared.operators.Comparison.{Comparison}
use Rattle.java.specs.declared.operators.Equality.{Equality}
use Rattle.java.specs.declared.operators.Bitwise.{Bitwise}
use Rattle.java.specs.Types.{numeric, primitive, widest}
use Rattle.java.specs.Subtypes.{◌≼◌, LeastAbove, same_type, subtype}

-- every type but boolean
abbrev pub IsNumeric : Primitive → Type 0
IsNumeric t = t ≡ Boolean → ⊥

-- the rules, one after the other: an operator on an operand of type a gives type t
pub data UnaryRule : Unary → Primitive → Primitive → Type 0 where
  plus : {a t : Primitive} → IsNumeric a → LeastAbove (a ∷ []) t → UnaryRule U.Plus a t
  minus : {a t : Primitive} → IsNumeric a → LeastAbove (a ∷ []) t → UnaryRule U.Minus a t
  complement : {a t : Primitive} → IsNumeric a → LeastAbove (a ∷ []) t → UnaryRule U.Complement a t
  logical_complement : UnaryRule U.Not Boolean Boolean
  cast : {n : Numeric} {a : Primitive} → IsNumeric a → UnaryRule (U.Cast n) a (primitive n)

-- the same for operands of types a and b
pub data BinaryRule : Binary → Primitive → Primitive → Primitive → Type 0 where
  arithmetic : {o : Arithmetic} {a b t : Primitive} → IsNumeric a → IsNumeric b → LeastAbove (a ∷ b ∷ []) t → BinaryRule (B.Arithmetic o) a b t
  shift : {o : Shift} {a b t : Primitive} → IsNumeric a → IsNumeric b → LeastAbove (a ∷ []) t → BinaryRule (B.Shift o) a b t
  comparison : {o : Comparison} {a b : Primitive} → IsNumeric a → IsNumeric b → BinaryRule (B.Comparison o) a b Boolean
  equal_to_wider : {o : Equality} {a b : Primitive} → a ≼ b → BinaryRule (B.Equality o) a b Boolean
  equal_to_narrower : {o : Equality} {a b : Primitive} → b ≼ a → BinaryRule (B.Equality o) a b Boolean
  bit_by_bit : {o : Bitwise} {a b t : Primitive} → IsNumeric a → IsNumeric b → LeastAbove (a ∷ b ∷ []) t → BinaryRule (B.Bitwise o) a b t
  logical : {o : Bitwise} → BinaryRule (B.Bitwise o) Boolean Boolean Boolean

-- the type to which one operand is promoted, that to which two are, and that to which a shift promotes its left operand
abbrev pub promoted : Primitive → Option Numeric
promoted a = option_map (λ m. widest (m ∷ [])) (numeric a)

abbrev pub promoted_pair : Primitive → Primitive → Option Numeric
promoted_pair a b = option_map (λ p. widest (p.0 ∷ p.1 ∷ [])) (option_zip (numeric a) (numeric b))

abbrev pub promoted_shift : Primitive → Primitive → Option Numeric
promoted_shift a b = option_and (numeric b) (promoted a)

-- the rules as functions
abbrev pub not_type : Primitive → Option Primitive
not_type a = cond (same_type a Boolean) (Some Boolean) None

abbrev pub cast_type : Numeric → Primitive → Option Primitive
cast_type n a = option_map (λ _. primitive n) (numeric a)

abbrev pub unary_type : Unary → Primitive → Option Primitive
unary_type U.Plus a = option_map primitive (promoted a)
unary_type U.Minus a = option_map primitive (promoted a)
unary_type U.Complement a = option_map primitive (promoted a)
unary_type U.Not a = not_type a
unary_type (U.Cast n) a = cast_type n a

abbrev pub comparison_type : Primitive → Primitive → Option Primitive
comparison_type a b = option_map (λ _. Boolean) (promoted_pair a b)

abbrev pub equality_type : Primitive → Primitive → Option Primitive
equality_type a b = cond (subtype a b || subtype b a) (Some Boolean) None

abbrev pub bitwise_type : Primitive → Primitive → Option Primitive
bitwise_type a b = cond (same_type a Boolean && same_type b Boolean) (Some Boolean) (option_map primitive (promoted_pair a b))

abbrev pub binary_type : Binary → Primitive → Primitive → Option Primitive
binary_type (B.Arithmetic o) a b = option_map primitive (promoted_pair a b)
binary_type (B.Shift o) a b = option_map primitive (promoted_shift a b)
binary_type (B.Comparison o) a b = comparison_type a b
binary_type (B.Equality o) a b = equality_type a b
binary_type (B.Bitwise o) a b = bitwise_type a b
