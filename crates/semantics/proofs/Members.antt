-- Membership in a set of locals, local by local.
use Rattle.std.proofs.Common.{◌≡◌, ℕ, zero, suc, ◌-◌, ◌*◌, ◌^◌, ◌<◌, ◌≤◌, true, false, cond, not, ◌&&◌, ◌||◌, eqb, nat_lt, bit_and, bit_or, min, max, w64, refl, ap, ◌∙◌, ⊎_elim, arith, mod-eq_of_lt}
use Rattle.std.proofs.lemmas.Bool.{cases_lt, le-ltb, lt-ltb, ne_eqb}
use Rattle.std.proofs.lemmas.Grind.{common_steps}
use Rattle.std.proofs.lemmas.Nat.{and_mask, pow_below, pow_pos}
use Rattle.std.proofs.lemmas.Nat.Bits.{and_pow, bit_at-lt, bit_at-pow_other, bit_at-pow_same, bit_at_above, bit_at_and, bit_at_not, bit_at_or}
use Rattle.std.specs.Int.{bit_at}
use Rattle.std.specs.Int.Bits.{and_zero_r, or_zero_r}
use Rattle.semantics.specs.declared.sets.LocalSet.{LocalSet}
use Rattle.semantics.specs.Sets.{full, has, shared, with, without}

-- what one of two bits has, and what the first has and the second has not
of_either : (p q : ℕ) → p < 2 → q < 2 → eqb (max p q) 1 ≡ (eqb q 1 || eqb p 1)
of_either p q h k = grind (arith, common_steps)

of_first : (p q : ℕ) → p < 2 → q < 2 → eqb (min p (1 - q)) 1 ≡ (not (eqb q 1) && eqb p 1)
of_first p q h k = grind (arith, common_steps)

-- one bit alone
pow_bit : (k x : ℕ) → eqb (bit_at (2 ^ k) x) 1 ≡ eqb x k
pow_bit k x = grind (arith, common_steps, bit_at-pow_same, bit_at-pow_other)

pub has_shared : (x : ℕ) (a b : LocalSet) → has x (shared a b) ≡ (has x a && has x b)
unfolding has shared
has_shared x a b =
    let left = bit_at-lt a.0 x in
    let right = bit_at-lt b.0 x in
    ap (λ n. eqb n 1) (bit_at_and a.0 b.0 x) ∙ grind (arith, common_steps)

-- the bits of one local more, and without one
pub has_with : (x y : ℕ) (m : LocalSet) → y < 64 → has x (with y m) ≡ (eqb x y || has x m)
unfolding has with
has_with x y m h =
    rw (lt-ltb y 64 h)
    (ap (λ n. eqb n 1) (bit_at_or m.0 (2 ^ y) x) ∙ of_either _ _ (bit_at-lt m.0 x) (bit_at-lt (2 ^ y) x)
    ∙ ap (λ b. b || eqb (bit_at m.0 x) 1) (pow_bit y x))

pub has_without : (x y : ℕ) (m : LocalSet) → x < 64 → has x (without y m) ≡ (not (eqb x y) && has x m)
unfolding has without
has_without x y m k = ⊎_elim
    (λ (h : y < 64).
    rw (lt-ltb y 64 h)
    (ap (λ n. eqb n 1) (bit_at_and m.0 (18446744073709551615 - 2 ^ y) x ∙ ap (min (bit_at m.0 x)) (bit_at_not w64 (2 ^ y) x (pow_below y 64 h) k))
    ∙ of_first _ _ (bit_at-lt m.0 x) (bit_at-lt (2 ^ y) x) ∙ ap (λ b. not b && eqb (bit_at m.0 x) 1) (pow_bit y x)))
    (λ (h : 64 ≤ y). rw (le-ltb y 64 h, ne_eqb x y (λ e. omega arith)) refl)
    (cases_lt y 64)

-- the set of all locals has each below the limit
pub has_full : (x : ℕ) → x < 64 → has x full ≡ true
unfolding has
has_full x h = ap (λ n. eqb n 1) (bit_at_not w64 0 x (pow_pos 64) h) ∙ grind (arith, common_steps)

-- no set has a local past the limit
pub has_past : (x : ℕ) (m : LocalSet) → 64 ≤ x → m.0 < 2 ^ 64 → has x m ≡ false
unfolding has
has_past x m h l = ap (λ n. eqb n 1) (bit_at_above m.0 64 x l h)

-- the bit of a local, and none past the limit, is in a set, is put in, and is taken out
abbrev bit : ℕ → ℕ
bit x = cond (nat_lt x 64) (2 ^ x) 0

is_one : (b n : ℕ) → b < 2 → 0 < n → not (eqb (b * n) 0) ≡ eqb b 1
is_one zero n h k = grind (arith, common_steps)
is_one (suc b) n h k = let z : b ≡ 0 = omega arith in rw z (grind (arith, common_steps))

pub bit_in : (x : ℕ) (m : LocalSet) → m.0 < 2 ^ 64 → not (eqb (bit_and m.0 (bit x)) 0) ≡ has x m
unfolding has
bit_in x m l = ⊎_elim
    (λ (h : x < 64). rw (lt-ltb x 64 h, and_pow m.0 x) (is_one (bit_at m.0 x) (2 ^ x) (bit_at-lt m.0 x) (pow_pos x)))
    (λ (h : 64 ≤ x). rw (le-ltb x 64 h, and_zero_r m.0, has_past x m h l) refl)
    (cases_lt x 64)

pub bit_with : (x : ℕ) (m : LocalSet) → record { 0 = bit_or m.0 (bit x) } ≡ with x m
unfolding with
bit_with x m = grind (arith, common_steps, or_zero_r)

pub bit_without : (x : ℕ) (m : LocalSet) → m.0 < 2 ^ 64 → record { 0 = bit_and m.0 (18446744073709551615 - bit x) } ≡ without x m
unfolding without
bit_without x m l =
    let all : bit_and m.0 18446744073709551615 ≡ m.0 = and_mask m.0 64 ∙ mod-eq_of_lt l in
    grind (arith, common_steps)
