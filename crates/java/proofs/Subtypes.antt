-- The test of a subtype answers yes exactly where the relation holds.
use Rattle.std.proofs.Common.{◌≡◌, Bool, true, cond, List, [], ◌∷◌, map, sym, refl, ◌∙◌, arith}
use Rattle.std.specs.List.{AllByRecursion}
use Rattle.java.specs.declared.types.Primitive.{Primitive}
use Rattle.java.specs.declared.types.Primitive.TheVariants.{Int}
use Rattle.java.specs.declared.types.Numeric.{Numeric}
use Rattle.java.specs.declared.types.Numeric.TheVariants as N
use Rattle.java.specs.Types.{primitive, is_long, widest}
use Rattle.java.specs.Subtypes.{LeastAbove, ◌≼◌, byte_short, short_int, char_int, int_long, itself, chained, same_type, subtype}

-- the test goes up along a chain
passed_on : (a b c : Primitive) → subtype a b ≡ true → subtype b c ≡ true → subtype a c ≡ true
passed_on a b c p q = grind arith

pub above_itself : (t : Primitive) → subtype t t ≡ true
above_itself t = grind arith

pub tested : {a b : Primitive} → a ≼ b → subtype a b ≡ true
tested (itself {t}) = above_itself t
tested (chained {a} {b} {c} p q) = passed_on a b c (tested p) (tested q)
tested _ = refl

-- a code is that of one type alone
pub one_type : (a b : Primitive) → same_type a b ≡ true → a ≡ b
one_type a b e = grind arith

-- where the test says yes, steps lead from the one type to the other
pub found : (a b : Primitive) → subtype a b ≡ true → a ≼ b
found a b e =
    let byte_int = chained byte_short short_int in
    let byte_long = chained byte_int int_long in
    let short_long = chained short_int int_long in
    let char_long = chained char_int int_long in
    grind (arith, byte_short, short_int, char_int, int_long, itself)

-- the answer to the test and the relation say the same
pub exactly : (a b : Primitive) (r : Bool) → r ≡ subtype a b → (r ≡ true → a ≼ b) × (a ≼ b → r ≡ true)
exactly a b r e = (λ yes. found a b (sym e ∙ yes), λ p. e ∙ tested p)

-- two types that lie below one another are one, so there is one least type above some
no_two_ways : (a b : Primitive) → subtype a b ≡ true → subtype b a ≡ true → a ≡ b
no_two_ways a b p q = grind arith

pub least_unique : (ts : List Primitive) (a b : Primitive) → LeastAbove ts a → LeastAbove ts b → a ≡ b
least_unique ts a b (over_a, under_a) (over_b, under_b) = no_two_ways a b (tested (under_a b over_b)) (tested (under_b a over_a))

-- one type more: what was the widest before and the type itself lie below the widest now, which lies below what is above both
grown : (n w : Numeric) → subtype (primitive w) (primitive (cond (is_long n) N.Long w)) ≡ true
grown n w = grind arith

covered : (n w : Numeric) → subtype Int (primitive w) ≡ true → subtype (primitive n) (primitive (cond (is_long n) N.Long w)) ≡ true
covered N.Long w i = refl
covered n w i = passed_on (primitive n) Int (primitive w) refl i

no_higher : (n w : Numeric) (u : Primitive) → subtype (primitive n) u ≡ true → subtype (primitive w) u ≡ true → subtype (primitive (cond (is_long n) N.Long w)) u ≡ true
no_higher n w u p q = grind arith

all_up : {a b : Primitive} (ts : List Primitive) → a ≼ b → AllByRecursion (λ t. t ≼ a) ts → AllByRecursion (λ t. t ≼ b) ts
all_up [] p h = tt
all_up (t ∷ ts) p h = (chained h.0 p, all_up ts p h.1)

above_each : (ns : List Numeric) → AllByRecursion (λ t. t ≼ primitive (widest ns)) (Int ∷ map primitive ns)
above_each [] = (itself, tt)
above_each (n ∷ ns) =
    let h = above_each ns in
    let up : primitive (widest ns) ≼ primitive (widest (n ∷ ns)) = found _ _ (grown n (widest ns)) in
    (chained h.0 up, (found _ _ (covered n (widest ns) (tested h.0)), all_up (map primitive ns) up h.1))

below_others : (ns : List Numeric) (u : Primitive) → AllByRecursion (λ t. t ≼ u) (Int ∷ map primitive ns) → primitive (widest ns) ≼ u
below_others [] u h = h.0
below_others (n ∷ ns) u h = found _ _ (no_higher n (widest ns) u (tested h.1.0) (tested (below_others ns u (h.0, h.1.1))))

-- the widest of some numeric types is the least type at or above int and each of them; by `least_unique` no other type is
pub least_above : (ns : List Numeric) → LeastAbove (map primitive ns) (primitive (widest ns))
least_above ns = (above_each ns, below_others ns)
