-- What is left of a number modulo a power of two: it is a residue of that number alone, and any bits of the number give it.
use Rattle.std.proofs.Common.{◌≡◌, ℕ, ◌+◌, ◌-◌, ◌*◌, ◌/◌, ◌%◌, ◌^◌, ◌<◌, ◌≤◌, ℤ, pos, negsuc, ◌+ℤ◌, nat_abs, sym, refl, ap, ◌∙◌, mod-lt, mul-le-mul_left, div-add-mod', arith, pow_pos}
use borrow.Author.Differences.{up, down, ints}
use Rattle.std.proofs.lemmas.Int.{int_rem_euclid_is}
use Rattle.java.specs.Values.{residue}
use Rattle.java.specs.Laws.{Congruent}

-- numbers that differ by a multiple of 2 ^ k have one residue
pub residue_same : (k : ℕ) (a b : ℤ) → Congruent (2 ^ k) a b → residue k a ≡ residue k b
unfolding residue
residue_same k a b (i, j, e) =
    let m = 2 ^ k in
    let some = pow_pos k in
    let t = down a + down b in
    let far : t * 1 ≤ t * m = mul-le-mul_left t some in
    let n = up a + (i + t) * m - down a in
    let from : (z : ℤ) (h : ℕ) → z +ℤ pos ((h + t) * m) ≡ pos n → residue k z ≡ n % m = λ z h f. ap nat_abs (int_rem_euclid_is z (pos m) m (h + t) n some refl f) in
    from a i (omega (arith, ints)) ∙ sym (from b j (omega (arith, ints)))

pub residue_below : (k : ℕ) (z : ℤ) → residue k z < 2 ^ k
unfolding residue
residue_below k z = grind (arith, pow_pos, mod-lt)

pub residue_congruent : (k : ℕ) (z : ℤ) → Congruent (2 ^ k) (pos (residue k z)) z
unfolding residue
residue_congruent k (pos a) = let split = div-add-mod' a (2 ^ k) in (a / 2 ^ k, 0, omega (arith, ints))
residue_congruent k (negsuc a) =
    let split = div-add-mod' a (2 ^ k) in
    let small = mod-lt a (pow_pos k) in
    (0, a / 2 ^ k + 1, omega (arith, ints))
