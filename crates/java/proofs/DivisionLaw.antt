-- Of values: quotient times divisor plus remainder is the dividend, at the type to which both are promoted.
use Rattle.std.proofs.Common.{◌⊎◌, None, Option, ◌≡◌, Bool, true, false, ℤ, pos, ◌+ℤ◌, ◌*ℤ◌, Some, Ok, refl, ◌∙◌, inl, inr, arith, w32, w64, SFits}
use lib.Signed.{quot_z, rem_z, mag_rem}
use mir.Syntax.{Width}
use mir.ValLaws.{sfits_le}
use borrow.Author.Differences.{ints}
use Rattle.std.specs.Int.{int_wrap}
use Rattle.std.proofs.lemmas.Int.{int_wrap_fits, quot-rem, rem_below}
use Rattle.java.specs.declared.types.Primitive.{Primitive}
use Rattle.java.specs.declared.types.Numeric.{Numeric}
use Rattle.java.specs.declared.types.Numeric.TheVariants as N
use Rattle.java.specs.declared.values.Value.{Value}
use Rattle.java.specs.declared.operators.Binary.TheVariants as B
use Rattle.java.specs.declared.operators.Arithmetic.TheVariants as A
use Rattle.java.specs.Types.{primitive}
use Rattle.java.specs.Subtypes.{subtype}
use Rattle.java.specs.Values.{value_type, number, InType, InRange, value_of}
use Rattle.java.specs.Typing.{promoted_pair}
use Rattle.java.specs.Results.{is_zero, binary_value}
use Rattle.java.specs.Laws.{DividedInto, Divided}
use Rattle.java.proofs.Division.{whole_wraps, remainder_up, remainder_down}
use Rattle.java.proofs.Ranges.{type_kept, wider}
use Rattle.java.proofs.Subtypes.{above_itself, found}

-- the signed width at which values of int and of long are kept
KeptAt : Numeric → Width → Type 0
KeptAt n w = ((z : ℤ) → number (value_of n z) ≡ int_wrap w z) × ((z : ℤ) → InType (primitive n) z → SFits w z)

kept_at : (n : Numeric) → (n ≡ N.Int) ⊎ (n ≡ N.Long) → (w : Width) × KeptAt n w
unfolding KeptAt
kept_at n (inl e) = (w32, rw e (λ z. refl, λ z h. omega (arith, ints)))
kept_at n (inr e) = (w64, rw e (λ z. refl, λ z h. omega (arith, ints)))

-- what is promoted is int or long, the left operand's type is below it, and to promote it again changes nothing
promoted_types : (a b : Primitive) (n : Numeric) → promoted_pair a b ≡ Some n → ((n ≡ N.Int) ⊎ (n ≡ N.Long)) × (subtype a (primitive n) ≡ true)
promoted_types a b n e = grind (arith, above_itself)

again_left : (a b : Primitive) (n : Numeric) → promoted_pair a b ≡ Some n → promoted_pair (primitive n) b ≡ Some n
again_left a b n e = grind arith

again_both : (a b : Primitive) (n : Numeric) → promoted_pair a b ≡ Some n → promoted_pair (primitive n) (primitive n) ≡ Some n
again_both a b n e = grind arith

-- at the promoted type n of l and r, kept at a width w
at : (l r : Value) (n : Numeric) (w : Width) → KeptAt n w → promoted_pair (primitive n) (value_type r) ≡ Some n → promoted_pair (primitive n) (primitive n) ≡ Some n
    → InType (primitive n) (number l) → (number r ≡ pos 0 → ⊥) → DividedInto l r (value_of n (quot_z (number l) (number r))) (value_of n (rem_z (number l) (number r)))
unfolding KeptAt
at l r n w kept left both range some =
    let a = number l in
    let b = number r in
    let q = value_of n (quot_z a b) in
    let m = value_of n (rem_z a b) in
    let p = value_of n (number q *ℤ b) in
    let s = value_of n (number p +ℤ number m) in
    let fits : SFits w a = kept.1 a range in
    let rest : number m ≡ rem_z a b = kept.0 (rem_z a b) ∙ int_wrap_fits w (rem_z a b) (sfits_le (mag_rem a b) fits) in
    let times : binary_value (B.Arithmetic A.Times) q r ≡ Ok p = rw (type_kept n (quot_z a b), left) in
    let plus : binary_value (B.Arithmetic A.Plus) p m ≡ Ok s = rw (type_kept n (number q *ℤ b), type_kept n (rem_z a b), both) in
    let dividend : number s ≡ a = simp kept.0 (whole_wraps w a b fits) in
    let exact : InType (value_type q) (quot_z a b) → number q ≡ quot_z a b = λ h. kept.0 (quot_z a b) ∙ int_wrap_fits w (quot_z a b) (kept.1 (quot_z a b) (rw type_kept at h)) in
    ((p, s, times, plus, dividend), (quot_z a b, rw rest (quot-rem a b), exact), rw rest (remainder_up a b), rw rest (remainder_down a b), rw rest (rem_below a b (omega (arith, ints))))

pub divided : (l r : Value) → InRange l → Divided l r
divided l r range q m quotient remainder = by (promoted_pair (value_type l) (value_type r)) (is_zero (number r)) refl refl
  where
    by : (x : Option Numeric) (zero : Bool) → promoted_pair (value_type l) (value_type r) ≡ x → is_zero (number r) ≡ zero → DividedInto l r q m
    by None zero e z = cc
    by (Some n) true e z = cc
    by (Some n) false e z =
        let is_q : q ≡ value_of n (quot_z (number l) (number r)) = cc in
        let is_m : m ≡ value_of n (rem_z (number l) (number r)) = cc in
        let p = promoted_types (value_type l) (value_type r) n e in
        let kept = kept_at n p.0 in
        rw (is_q, is_m) (at l r n kept.0 kept.1 (again_left (value_type l) (value_type r) n e) (again_both (value_type l) (value_type r) n e) (wider (found _ _ p.1) (number l) range) (λ f. grind arith))
