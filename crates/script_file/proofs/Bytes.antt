-- Numbers as bytes, and parts of a file.
use Rattle.std.proofs.Common.{◌≡◌, ℕ, zero, suc, ◌+◌, ◌*◌, ◌/◌, ◌%◌, ◌^◌, ◌<◌, ◌≤◌, List, [], ◌∷◌, ◌++◌, length, get_or, take, drop, sym, refl, ap, ◌∙◌, ap₂, arith, take-add, w8, Fits}
use native.Mathlib.Nat.{pow-succ'}
use Rattle.std.proofs.ByRecursion.{All-from_get_or}
use Rattle.std.proofs.lemmas.List.{take_at, drop_at, drop-drop, length-take, length-drop}
use Rattle.std.specs.List.{AllByRecursion}
use Rattle.script_file.specs.Format.{bytes_of, number_of, part}

-- each is a byte
abbrev pub Octets : List ℕ → Type 0
Octets bs = AllByRecursion (λ b. b < 256) bs

-- the bytes of a slice are bytes
pub octets : (bs : List ℕ) → ((i : ℕ) → Fits w8 (get_or bs i 0)) → Octets bs
octets bs fits = All-from_get_or (λ b. b < 256) bs 0 (λ i _. (fits i).fits)

pub length-bytes_of : (k n : ℕ) → length (bytes_of k n) ≡ k
length-bytes_of zero n = refl
length-bytes_of (suc k) n = ap suc (length-bytes_of k (n / 256))

-- a number comes back from its bytes
pub number_of-bytes_of : (k n : ℕ) → n < 256 ^ k → number_of (bytes_of k n) ≡ n
number_of-bytes_of zero n h = omega arith
number_of-bytes_of (suc k) n h =
    let p : 256 ^ suc k ≡ 256 * 256 ^ k = pow-succ' 256 k in
    let ih = number_of-bytes_of k (n / 256) (omega arith) in
    omega arith

-- bytes come back from their number
pub bytes_of-number_of : (bs : List ℕ) → Octets bs → bytes_of (length bs) (number_of bs) ≡ bs
bytes_of-number_of [] all = refl
bytes_of-number_of (b ∷ bs) all =
    let low : (b + 256 * number_of bs) % 256 ≡ b = omega (arith, all.0) in
    let high : (b + 256 * number_of bs) / 256 ≡ number_of bs = omega (arith, all.0) in
    ap₂ (λ (x : ℕ) (xs : List ℕ). x ∷ xs) low (ap (bytes_of (length bs)) high ∙ bytes_of-number_of bs all.1)

pub number_of-small : (bs : List ℕ) → Octets bs → number_of bs < 256 ^ length bs
number_of-small [] all = omega arith
number_of-small (b ∷ bs) all =
    let p : 256 ^ suc (length bs) ≡ 256 * 256 ^ length bs = pow-succ' 256 (length bs) in
    let ih = number_of-small bs all.1 in
    omega (arith, all.0)

module _ (o : ℕ) (bs : List ℕ) where
  pub length_part : (k : ℕ) → o + k ≤ length bs → length (part o k bs) ≡ k
  length_part k h = length-take k (drop o bs) ∙ omega (arith, length-drop o bs)

  -- two parts that follow each other
  pub part_part : (a b : ℕ) → part o a bs ++ part (o + a) b bs ≡ part o (a + b) bs
  part_part a b = ap (λ (t : List ℕ). part o a bs ++ take b t) (sym (drop-drop a o bs)) ∙ sym (take-add a b (drop o bs))

-- a part with bytes before and behind it
pub part_between : (before xs behind : List ℕ) (o k : ℕ) → length before ≡ o → length xs ≡ k → part o k (before ++ (xs ++ behind)) ≡ xs
part_between before xs behind o k e f = ap (take k) (drop_at before (xs ++ behind) o e) ∙ take_at xs behind k f
