-- The subtypes: A ≼ B where each number of A is one of B, and both are numeric or both boolean.
use Rattle.std.specs.Prelude.{Bool, false, ◌||◌, List, [], ◌∷◌, ◌==◌}
use Rattle.std.specs.List.{AllByRecursion}
use Rattle.java.specs.declared.types.Primitive.{Primitive}
use Rattle.java.specs.declared.types.Primitive.TheVariants.{Boolean, Byte, Short, Char, Int, Long}
use Rattle.java.specs.Types.{type_code}

-- the four steps from a type to a wider one, each type below itself, and chains of these
infix 50 ◌≼◌
pub data ◌≼◌ : Primitive → Primitive → Type 0 where
  byte_short : Byte ≼ Short
  short_int : Short ≼ Int
  char_int : Char ≼ Int
  int_long : Int ≼ Long
  itself : {t : Primitive} → t ≼ t
  chained : {a b c : Primitive} → a ≼ b → b ≼ c → a ≼ c

-- the least type at or above int and each of some types
abbrev pub LeastAbove : List Primitive → Primitive → Type 0
LeastAbove ts r = AllByRecursion (λ t. t ≼ r) (Int ∷ ts) × ((u : Primitive) → AllByRecursion (λ t. t ≼ u) (Int ∷ ts) → r ≼ u)

-- whether the two are one type
abbrev pub same_type : Primitive → Primitive → Bool
same_type a b = type_code a == type_code b

-- ≼ as a test: the types at or above each type
abbrev pub supertypes : Primitive → List Primitive
supertypes Boolean = Boolean ∷ []
supertypes Byte = Byte ∷ Short ∷ Int ∷ Long ∷ []
supertypes Short = Short ∷ Int ∷ Long ∷ []
supertypes Char = Char ∷ Int ∷ Long ∷ []
supertypes Int = Int ∷ Long ∷ []
supertypes Long = Long ∷ []

abbrev pub among : List Primitive → Primitive → Bool
among [] t = false
among (s ∷ ss) t = same_type s t || among ss t

abbrev pub subtype : Primitive → Primitive → Bool
subtype a b = among (supertypes a) b
