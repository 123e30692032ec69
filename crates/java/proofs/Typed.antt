-- An operator gives a value exactly where a rule gives a type, and of that type, but for a zero divisor.
use Rattle.std.proofs.Common.{◌≡◌, Bool, true, false, cond, not, ◌&&◌, ℤ, pos, ◌-ℤ◌, neg_ℤ, Some, None, Ok, Err, Option, refl, arith}
use borrow.Author.Differences.{ints}
use Rattle.std.specs.Option.{option_map, ok_or}
use Rattle.std.proofs.lemmas.Bool.Decides.{nat_tests}
use Rattle.std.proofs.lemmas.Option.{cond_some}
use Rattle.java.specs.declared.types.Primitive.{Primitive}
use Rattle.java.specs.declared.types.Primitive.TheVariants as P
use Rattle.java.specs.declared.types.Numeric.{Numeric}
use Rattle.java.specs.declared.values.Value.{Value}
use Rattle.java.specs.declared.values.Value.TheVariants as V
use Rattle.java.specs.declared.operators.Unary.{Unary}
use Rattle.java.specs.declared.operators.Unary.TheVariants as U
use Rattle.java.specs.declared.operators.Binary.{Binary}
use Rattle.java.specs.declared.operators.Binary.TheVariants as B
use Rattle.java.specs.declared.operators.Arithmetic.{Arithmetic}
use Rattle.java.specs.declared.operators.Bitwise.{Bitwise}
use Rattle.java.specs.declared.results.NoValue.TheVariants.{Untyped, ZeroDivisor}
use Rattle.java.specs.Types.{numeric, primitive}
use Rattle.java.specs.Subtypes.{same_type, subtype}
use Rattle.java.specs.Values.{value_type, number, InRange, residue, width, value_of}
use Rattle.java.specs.Typing.{BinaryRule, promoted, promoted_pair, promoted_shift, comparison_type, equality_type, unary_type, binary_type}
use Rattle.java.specs.Results.{truth, unary_value, arithmetic, zero_divisor, arithmetic_at, distance, shifted, compared, equal, bitwise, logical, binary_value}
use Rattle.java.specs.Laws.{CastUnique, UnaryTyped, Widened, Divides, BinaryTyped}
use Rattle.java.proofs.Ranges.{type_kept, kept_unique, range_kept, kept_whole, wider}
use Rattle.java.proofs.Subtypes.{tested}
use Rattle.java.proofs.Rules.{comparison_holds, unary_holds, unary_given, binary_holds, binary_given}

boolean_range : (b : Bool) → InRange (V.Boolean b)
boolean_range b = grind (arith, ints)

-- an operator whose type comes from that to which its operand is promoted, or is that of a cast
unary_number : (o : Unary) (v : Value) (to : Numeric → Numeric) (z : ℤ) (x : Option Numeric) → unary_type o (value_type v) ≡ option_map (λ n. primitive (to n)) x → UnaryTyped o v (option_map (λ n. value_of (to n) z) x)
unary_number o v to z None e = λ t p. cc (unary_given p)
unary_number o v to z (Some n) e = (rw type_kept (unary_holds o (value_type v) (primitive (to n)) e), range_kept (to n) z)

unary_truth : (v : Value) (b yes : Bool) → same_type (value_type v) P.Boolean ≡ yes → UnaryTyped U.Not v (option_map (λ _. V.Boolean b) (cond yes (Some P.Boolean) None))
unary_truth v b true e = (unary_holds U.Not (value_type v) P.Boolean (rw e), boolean_range b)
unary_truth v b false e = λ t p. cc (unary_given p)

pub unary_typed : (o : Unary) (v : Value) → UnaryTyped o v (unary_value o v)
unary_typed U.Plus v = unary_number U.Plus v (λ n. n) (number v) (promoted (value_type v)) refl
unary_typed U.Minus v = unary_number U.Minus v (λ n. n) (neg_ℤ (number v)) (promoted (value_type v)) refl
unary_typed U.Complement v = unary_number U.Complement v (λ n. n) (neg_ℤ (number v) -ℤ pos 1) (promoted (value_type v)) refl
unary_typed U.Not v = unary_truth v (not (truth v)) (same_type (value_type v) P.Boolean) refl
unary_typed (U.Cast n) v = unary_number (U.Cast n) v (λ _. n) (number v) (numeric (value_type v)) refl

-- the same for two operands; no rule gives a type where the function gives none
no_rule : (o : Binary) (l r : Value) → binary_type o (value_type l) (value_type r) ≡ None → (t : Primitive) → BinaryRule o (value_type l) (value_type r) t → ⊥
no_rule o l r e t p = cc (binary_given p)

binary_number : (o : Binary) (l r : Value) (z : Numeric → ℤ) (x : Option Numeric) → (Divides o → number r ≡ pos 0 → ⊥) → binary_type o (value_type l) (value_type r) ≡ option_map primitive x → BinaryTyped o l r (ok_or (option_map (λ n. value_of n (z n)) x) Untyped)
binary_number o l r z None d e = no_rule o l r e
binary_number o l r z (Some n) d e = (rw type_kept (binary_holds o (value_type l) (value_type r) (primitive n) e), range_kept n (z n), d)

binary_truth : (o : Binary) (l r : Value) (b : Bool) (x : Option Primitive) → (Divides o → number r ≡ pos 0 → ⊥) → ((t : Primitive) → x ≡ Some t → P.Boolean ≡ t) → binary_type o (value_type l) (value_type r) ≡ x → BinaryTyped o l r (ok_or (option_map (λ _. V.Boolean b) x) Untyped)
binary_truth o l r b None d only e = no_rule o l r e
binary_truth o l r b (Some t) d only e = (rw (only t refl) (binary_holds o (value_type l) (value_type r) t e), boolean_range b, d)

zero_divides : (o : Arithmetic) (b : ℤ) → zero_divisor o b ≡ true → Divides (B.Arithmetic o) × (b ≡ pos 0)
zero_divides o b e = grind (arith, ints, nat_tests)

nonzero_divides : (o : Arithmetic) (b : ℤ) → zero_divisor o b ≡ false → Divides (B.Arithmetic o) → b ≡ pos 0 → ⊥
nonzero_divides o b e d z = grind arith

arithmetic_typed : (o : Arithmetic) (l r : Value) (x : Option Numeric) → binary_type (B.Arithmetic o) (value_type l) (value_type r) ≡ option_map primitive x → BinaryTyped (B.Arithmetic o) l r (arithmetic_at o (number l) (number r) x)
arithmetic_typed o l r None e = no_rule (B.Arithmetic o) l r e
arithmetic_typed o l r (Some n) e = by (zero_divisor o (number r)) refl
  where
    rule : BinaryRule (B.Arithmetic o) (value_type l) (value_type r) (primitive n)
    rule = binary_holds (B.Arithmetic o) (value_type l) (value_type r) (primitive n) e

    by : (yes : Bool) → zero_divisor o (number r) ≡ yes → BinaryTyped (B.Arithmetic o) l r (cond yes (Err ZeroDivisor) (Ok (value_of n (arithmetic o (number l) (number r)))))
    by true h = let d = zero_divides o (number r) h in (d.0, d.1, (primitive n, rule))
    by false h = (rw type_kept rule, range_kept n (arithmetic o (number l) (number r)), nonzero_divides o (number r) h)

bitwise_typed : (o : Bitwise) (l r : Value) (b yes : Bool) (z : Numeric → ℤ) → binary_type (B.Bitwise o) (value_type l) (value_type r) ≡ cond yes (Some P.Boolean) (option_map primitive (promoted_pair (value_type l) (value_type r))) → BinaryTyped (B.Bitwise o) l r (cond yes (Ok (V.Boolean b)) (ok_or (option_map (λ n. value_of n (z n)) (promoted_pair (value_type l) (value_type r))) Untyped))
bitwise_typed o l r b true z e = (binary_holds (B.Bitwise o) (value_type l) (value_type r) P.Boolean e, boolean_range b, λ h. grind arith)
bitwise_typed o l r b false z e = binary_number (B.Bitwise o) l r z (promoted_pair (value_type l) (value_type r)) (λ h. grind arith) e

pub binary_typed : (o : Binary) (l r : Value) → BinaryTyped o l r (binary_value o l r)
binary_typed (B.Arithmetic o) l r = arithmetic_typed o l r (promoted_pair (value_type l) (value_type r)) refl
binary_typed (B.Shift o) l r = binary_number (B.Shift o) l r (λ n. shifted o n (number l) (distance n (number r))) (promoted_shift (value_type l) (value_type r)) (λ h. grind arith) refl
binary_typed (B.Comparison o) l r = binary_truth (B.Comparison o) l r (compared o (number l) (number r)) (comparison_type (value_type l) (value_type r)) (λ h. grind arith) (λ t e. (comparison_holds (value_type l) (value_type r) t e).2) refl
binary_typed (B.Equality o) l r = binary_truth (B.Equality o) l r (equal o (number l) (number r)) (equality_type (value_type l) (value_type r)) (λ h. grind arith) (λ t e. (cond_some _ _ _ e).1) refl
binary_typed (B.Bitwise o) l r = bitwise_typed o l r (logical o (truth l) (truth r)) (same_type (value_type l) P.Boolean && same_type (value_type r) P.Boolean) (λ n. pos (bitwise o (residue (width n) (number l)) (residue (width n) (number r)))) refl

-- boolean is below no numeric type
no_number : (a : Primitive) (n : Numeric) → numeric a ≡ None → subtype a (primitive n) ≡ true → ⊥
no_number a n e p = grind arith

pub widened : (o : Unary) (v : Value) → InRange v → Widened o v (unary_value o v)
widened o v range n e p = by (numeric (value_type v)) refl
  where
    by : (x : Option Numeric) → numeric (value_type v) ≡ x → (w : Value) × (unary_value o v ≡ Some w) × (number w ≡ number v)
    by None f = absurd (no_number (value_type v) n f (tested p))
    by (Some m) f = (value_of n (number v), rw (e, f), kept_whole n (number v) (wider p (number v) range))

pub cast_unique : (o : Unary) (v : Value) → CastUnique o v (unary_value o v)
cast_unique o v n e w is = rw (← same (numeric (value_type v)) (rw e at is)) (kept_unique n (number v))
  where
    same : (x : Option Numeric) → option_map (λ _. value_of n (number v)) x ≡ Some w → value_of n (number v) ≡ w
    same x h = grind arith
