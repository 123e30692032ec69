-- The ranges: what the low bits give at a type is the only number of its range that is congruent to the whole, and a
-- number of a type is one of every wider type.
use Rattle.std.proofs.Common.{◌≡◌, ◌^◌, Bool, true, false, cond, ℤ, pos, negsuc, Some, None, Option, sym, refl, ap, ◌∙◌, arith, mod-eq_of_lt, rules, SFits}
use mir.Syntax.{Width}
use mir.Val.{bits}
use borrow.Author.Differences.{ints}
use Rattle.std.specs.Int.{int_wrap}
use Rattle.std.proofs.lemmas.Int.{SFits-int_wrap}
use Rattle.java.specs.declared.types.Primitive.{Primitive}
use Rattle.java.specs.declared.types.Primitive.TheVariants as P
use Rattle.java.specs.declared.types.Numeric.{Numeric}
use Rattle.java.specs.declared.types.Numeric.TheVariants as N
use Rattle.java.specs.declared.values.Value.{Value}
use Rattle.java.specs.Types.{primitive}
use Rattle.java.specs.Subtypes.{◌≼◌, itself, chained}
use Rattle.java.specs.Values.{number, value_type, InType, InRange, residue, width, value_of, value_with, in_type, new_value, Constructed}
use Rattle.java.specs.Laws.{Congruent, Only, Signed, WrappedUnique}
use Rattle.java.proofs.Residues.{residue_same, residue_below, residue_congruent}
use Rattle.java.proofs.Wrapping.{wrapped_congruent, wrapped_only}

-- values in the range of a width keep what is left there
unique_at : (w : Width) (P : ℤ → Type 0) (z : ℤ) → ((y : ℤ) → SFits w y → P y) → ((y : ℤ) → P y → SFits w y) → Only P (2 ^ bits w) z (int_wrap w z)
unique_at w P z to from = (to (int_wrap w z) (SFits-int_wrap w z), wrapped_congruent w z, λ y h c. wrapped_only w z y (from y h) c)

pub wrapped_unique : WrappedUnique
wrapped_unique w z = unique_at w (Signed w) z (omega (arith, ints)) (omega (arith, ints))

char_unique : (z : ℤ) → Only (InType P.Char) (2 ^ 16) z (pos (residue 16 z))
unfolding residue
char_unique z =
    let small = residue_below 16 z in
    (omega (arith, ints), residue_congruent 16 z, λ y h c. only y h c)
  where
    only : (y : ℤ) → InType P.Char y → Congruent (2 ^ 16) y z → y ≡ pos (residue 16 z)
    only (pos n) h c = ap pos (sym (mod-eq_of_lt (omega (arith, ints))) ∙ residue_same 16 (pos n) z c)
    only (negsuc n) h c = absurd (omega (arith, ints))

pub type_kept : (n : Numeric) (z : ℤ) → value_type (value_of n z) ≡ primitive n
type_kept N.Byte z = refl
type_kept _ z = refl

pub kept_unique : (n : Numeric) (z : ℤ) → Only (InType (primitive n)) (2 ^ width n) z (number (value_of n z))
kept_unique N.Char z = char_unique z
kept_unique n z = unique_at _ (InType (primitive n)) z (omega (arith, ints)) (omega (arith, ints))

pub range_kept : (n : Numeric) (z : ℤ) → InRange (value_of n z)
range_kept n z = rw type_kept (kept_unique n z).0

-- so a number of the type is kept whole
pub kept_whole : (n : Numeric) (z : ℤ) → InType (primitive n) z → number (value_of n z) ≡ z
kept_whole n z h = sym ((kept_unique n z).2 z h (0, 0, refl))

-- a number of a type is one of each wider type
pub wider : {a b : Primitive} → a ≼ b → (z : ℤ) → InType a z → InType b z
wider itself z h = h
wider (chained p q) z h = wider q z (wider p z h)
wider _ z h = omega (arith, ints)

-- a value with a number of its type has that number
truth_kept : (z : ℤ) → InType P.Boolean z → number (value_with P.Boolean z) ≡ z
truth_kept z h = grind (arith, ints)

held : (t : Primitive) (z : ℤ) → InType t z → Constructed t z (Some (value_with t z))
held P.Boolean z h = let same = truth_kept z h in (refl, same, rw same h)
held P.Byte z h = (refl, kept_whole N.Byte z h, range_kept N.Byte z)
held P.Short z h = (refl, kept_whole N.Short z h, range_kept N.Short z)
held P.Char z h = (refl, kept_whole N.Char z h, range_kept N.Char z)
held P.Int z h = (refl, kept_whole N.Int z h, range_kept N.Int z)
held P.Long z h = (refl, kept_whole N.Long z h, range_kept N.Long z)

pub constructed : (t : Primitive) (z : ℤ) (r : Option Value) → r ≡ new_value t z → Constructed t z r
constructed t z r same = rw same (by (in_type t z) refl)
  where
    by : (b : Bool) → in_type t z ≡ b → Constructed t z (cond b (Some (value_with t z)) None)
    by true e = held t z (search rules)
    by false f = λ h. let e : in_type t z ≡ true = search rules in cc
