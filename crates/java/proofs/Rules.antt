-- The functions that type an operator's result and the rules say the same.
use Rattle.std.proofs.Common.{◌≡◌, Bool, true, false, cond, ◌&&◌, [], ◌∷◌, Some, None, Option, sym, refl, ap, subst, ◌∙◌, inl, inr, arith}
use Rattle.std.specs.Option.{option_map, option_zip}
use Rattle.std.proofs.lemmas.Option.{none-some, same_Some, cond_some}
use Rattle.std.proofs.lemmas.Bool.{and_parts, or_cases, or_left, or_right}
use Rattle.java.specs.declared.types.Primitive.{Primitive}
use Rattle.java.specs.declared.types.Primitive.TheVariants.{Boolean}
use Rattle.java.specs.declared.types.Numeric.{Numeric}
use Rattle.java.specs.declared.operators.Unary.{Unary}
use Rattle.java.specs.declared.operators.Unary.TheVariants as U
use Rattle.java.specs.declared.operators.Binary.{Binary}
use Rattle.java.specs.declared.operators.Binary.TheVariants as B
use Rattle.java.specs.Types.{primitive, numeric, widest}
use Rattle.java.specs.Subtypes.{LeastAbove, same_type, subtype}
use Rattle.java.specs.Typing.{IsNumeric, UnaryRule, plus, minus, complement, logical_complement, cast, BinaryRule, arithmetic, shift, comparison, equal_to_wider, equal_to_narrower, bit_by_bit, logical, promoted, promoted_pair, promoted_shift, cast_type, comparison_type, unary_type, binary_type}
use Rattle.java.proofs.Subtypes.{one_type, tested, found, least_above, least_unique}

-- a numeric type is that of a number
numbered : (a : Primitive) (n : Numeric) → numeric a ≡ Some n → IsNumeric a × (primitive n ≡ a)
numbered a n e = grind arith

-- what a promotion gives is the least type above its operands
one_holds : (a t : Primitive) → option_map primitive (promoted a) ≡ Some t → IsNumeric a × LeastAbove (a ∷ []) t
one_holds a t e = by (numeric a) refl e
  where
    by : (x : Option Numeric) → numeric a ≡ x → option_map primitive (option_map (λ m. widest (m ∷ [])) x) ≡ Some t → IsNumeric a × LeastAbove (a ∷ []) t
    by None k f = absurd (none-some _ f)
    by (Some n) k f =
        let p = numbered a n k in
        let least = subst (LeastAbove (primitive n ∷ [])) (same_Some _ _ f) (least_above (n ∷ [])) in
        (p.0, subst (λ (b : Primitive). LeastAbove (b ∷ []) t) p.1 least)

pair_holds : (a b t : Primitive) → option_map primitive (promoted_pair a b) ≡ Some t → IsNumeric a × IsNumeric b × LeastAbove (a ∷ b ∷ []) t
pair_holds a b t e = by (numeric a) (numeric b) refl refl e
  where
    by : (x y : Option Numeric) → numeric a ≡ x → numeric b ≡ y → option_map primitive (option_map (λ p. widest (p.0 ∷ p.1 ∷ [])) (option_zip x y)) ≡ Some t → IsNumeric a × IsNumeric b × LeastAbove (a ∷ b ∷ []) t
    by (Some n) (Some m) k l f =
        let p = numbered a n k in
        let q = numbered b m l in
        let least = subst (LeastAbove (primitive n ∷ primitive m ∷ [])) (same_Some _ _ f) (least_above (n ∷ m ∷ [])) in
        (p.0, q.0, subst (λ (c : Primitive). LeastAbove (c ∷ b ∷ []) t) p.1 (subst (λ (c : Primitive). LeastAbove (primitive n ∷ c ∷ []) t) q.1 least))
    by None y k l f = absurd (none-some _ f)
    by (Some n) None k l f = absurd (none-some _ f)

-- and is given to each numeric operand
one_promoted : (a : Primitive) → IsNumeric a → option_map primitive (promoted a) ≡ None → ⊥
one_promoted a h e = grind arith

one_given : (a t : Primitive) → IsNumeric a → LeastAbove (a ∷ []) t → option_map primitive (promoted a) ≡ Some t
one_given a t h least = by (option_map primitive (promoted a)) refl
  where
    by : (x : Option Primitive) → option_map primitive (promoted a) ≡ x → x ≡ Some t
    by None e = absurd (one_promoted a h e)
    by (Some s) e = ap Some (least_unique (a ∷ []) s t (one_holds a s e).1 least)

pair_promoted : (a b : Primitive) → IsNumeric a → IsNumeric b → option_map primitive (promoted_pair a b) ≡ None → ⊥
pair_promoted a b h k e = grind arith

pair_given : (a b t : Primitive) → IsNumeric a → IsNumeric b → LeastAbove (a ∷ b ∷ []) t → option_map primitive (promoted_pair a b) ≡ Some t
pair_given a b t h k least = by (option_map primitive (promoted_pair a b)) refl
  where
    by : (x : Option Primitive) → option_map primitive (promoted_pair a b) ≡ x → x ≡ Some t
    by None e = absurd (pair_promoted a b h k e)
    by (Some s) e = ap Some (least_unique (a ∷ b ∷ []) s t (pair_holds a b s e).2 least)

-- a cast gives its own type
cast_holds : (n : Numeric) (a t : Primitive) → cast_type n a ≡ Some t → IsNumeric a × (primitive n ≡ t)
cast_holds n a t e = grind arith

cast_given : (n : Numeric) (a : Primitive) → IsNumeric a → cast_type n a ≡ Some (primitive n)
cast_given n a h = grind arith

pub unary_holds : (o : Unary) (a t : Primitive) → unary_type o a ≡ Some t → UnaryRule o a t
unary_holds U.Plus a t e = let p = one_holds a t e in plus p.0 p.1
unary_holds U.Minus a t e = let p = one_holds a t e in minus p.0 p.1
unary_holds U.Complement a t e = let p = one_holds a t e in complement p.0 p.1
unary_holds U.Not a t e = let p = cond_some _ _ _ e in rw (one_type a Boolean p.0, ← p.1) logical_complement
unary_holds (U.Cast n) a t e = let p = cast_holds n a t e in rw (← p.1) (cast p.0)

pub unary_given : {o : Unary} {a t : Primitive} → UnaryRule o a t → unary_type o a ≡ Some t
unary_given (plus {a} {t} h l) = one_given a t h l
unary_given (minus {a} {t} h l) = one_given a t h l
unary_given (complement {a} {t} h l) = one_given a t h l
unary_given logical_complement = refl
unary_given (cast {n} {a} h) = cast_given n a h

pub comparison_holds : (a b t : Primitive) → comparison_type a b ≡ Some t → IsNumeric a × IsNumeric b × (Boolean ≡ t)
comparison_holds a b t e = grind arith

pub comparison_given : (a b : Primitive) → IsNumeric a → IsNumeric b → comparison_type a b ≡ Some Boolean
comparison_given a b h k = grind arith

-- a numeric count leaves the type of a shift to its left operand, and no other count does
pub counted : (a b : Primitive) → IsNumeric b → promoted_shift a b ≡ promoted a
counted a b h = grind arith

shift_holds : (a b t : Primitive) → option_map primitive (promoted_shift a b) ≡ Some t → IsNumeric b × (option_map primitive (promoted a) ≡ Some t)
shift_holds a b t e = grind arith

pub binary_holds : (o : Binary) (a b t : Primitive) → binary_type o a b ≡ Some t → BinaryRule o a b t
binary_holds (B.Arithmetic o) a b t e = let p = pair_holds a b t e in arithmetic p.0 p.1 p.2
binary_holds (B.Shift o) a b t e =
    let count = shift_holds a b t e in
    let p = one_holds a t count.1 in
    shift p.0 count.0 p.1
binary_holds (B.Comparison o) a b t e = let p = comparison_holds a b t e in rw (← p.2) (comparison p.0 p.1)
binary_holds (B.Equality o) a b t e =
    let p = cond_some _ _ _ e in
    rw (← p.1) (elim (or_cases (subtype a b) (subtype b a) p.0) [
      | inl up ↦ equal_to_wider (found a b up)
      | inr down ↦ equal_to_narrower (found b a down)
    ])
binary_holds (B.Bitwise o) a b t e = by (same_type a Boolean && same_type b Boolean) refl e
  where
    by : (yes : Bool) → (same_type a Boolean && same_type b Boolean) ≡ yes → cond yes (Some Boolean) (option_map primitive (promoted_pair a b)) ≡ Some t → BinaryRule (B.Bitwise o) a b t
    by true s f =
        let p = and_parts (same_type a Boolean) (same_type b Boolean) s in
        rw (one_type a Boolean p.0, one_type b Boolean p.1, ← same_Some Boolean t f) logical
    by false s f = let p = pair_holds a b t f in bit_by_bit p.0 p.1 p.2

not_boolean : (a : Primitive) → IsNumeric a → same_type a Boolean ≡ false
not_boolean a h = grind arith

pub binary_given : {o : Binary} {a b t : Primitive} → BinaryRule o a b t → binary_type o a b ≡ Some t
binary_given (arithmetic {o} {a} {b} {t} h k l) = pair_given a b t h k l
binary_given (shift {o} {a} {b} {t} h k l) = rw (counted a b k) (one_given a t h l)
binary_given (comparison {o} {a} {b} h k) = comparison_given a b h k
binary_given (equal_to_wider {o} {a} {b} up) = rw (or_left (subtype a b) (subtype b a) (tested up))
binary_given (equal_to_narrower {o} {a} {b} down) = rw (or_right (subtype a b) (subtype b a) (tested down))
binary_given (bit_by_bit {o} {a} {b} {t} h k l) = rw (not_boolean a h) (pair_given a b t h k l)
binary_given logical = refl

-- so where an answer is that of the function, it is that of the rules
pub unary_exactly : (o : Unary) (a : Primitive) (r : Option Primitive) → r ≡ unary_type o a → (t : Primitive) → (r ≡ Some t → UnaryRule o a t) × (UnaryRule o a t → r ≡ Some t)
unary_exactly o a r e t = (λ f. unary_holds o a t (sym e ∙ f), λ p. e ∙ unary_given p)

pub binary_exactly : (o : Binary) (a b : Primitive) (r : Option Primitive) → r ≡ binary_type o a b → (t : Primitive) → (r ≡ Some t → BinaryRule o a b t) × (BinaryRule o a b t → r ≡ Some t)
binary_exactly o a b r e t = (λ f. binary_holds o a b t (sym e ∙ f), λ p. e ∙ binary_given p)
