-- Entries that follow each other, taken one at a time from the front.
use Rattle.std.proofs.Common.{◌≡◌, ℕ, suc, ◌+◌, ◌-◌, ◌*◌, ◌<◌, ◌≤◌, List, [], ◌∷◌, ◌++◌, Ok, Err, Result, sym, refl, ap, ◌∙◌, append_assoc, suc-mul, zero-mul, arith}
use Rattle.script_file.specs.declared.fault.FileFault.{FileFault}
use Rattle.script_file.specs.Reading.{and_then, entries}
use Rattle.script_file.specs.Steps.{tested}
use Rattle.script_file.proofs.Then.{then_err, then_ok, then_parts}

-- how entries that follow each other are read: the first, and then those behind it
module _ {X : Type 0} (at : ℕ → Result X FileFault) (size o n : ℕ) where
  abbrev then_others : X → Result (List X) FileFault
  then_others x = and_then (entries at size (o + size) n) (λ xs. Ok (x ∷ xs))

  pub record Parted (xs : List X) : Type 0 where
    pub first : X
    pub others : List X
    pub here : at o ≡ Ok first
    pub behind : entries at size (o + size) n ≡ Ok others
    pub all : first ∷ others ≡ xs

  pub parted : {xs : List X} → entries at size o (suc n) ≡ Ok xs → Parted xs
  parted {xs} h =
      let p = then_parts (at o) then_others h in
      let q = then_parts (entries at size (o + size) n) (λ ys. Ok (p.0 ∷ ys)) p.2 in
      let all : p.0 ∷ q.0 ≡ xs = let k = q.2 in cc in
      record { first = p.0; others = q.0; here = p.1; behind = q.1; all = all }

  pub joined : {x : X} {xs : List X} → at o ≡ Ok x → entries at size (o + size) n ≡ Ok xs → entries at size o (suc n) ≡ Ok (x ∷ xs)
  joined {x} here behind = then_ok then_others here ∙ then_ok (λ xs. Ok (x ∷ xs)) behind

  pub first_stops : {f : FileFault} → at o ≡ Err f → entries at size o (suc n) ≡ Err f
  first_stops wrong = then_err then_others wrong

  pub other_stops : {x : X} {f : FileFault} → at o ≡ Ok x → entries at size (o + size) n ≡ Err f → entries at size o (suc n) ≡ Err f
  other_stops {x} here wrong = then_ok then_others here ∙ then_err (λ xs. Ok (x ∷ xs)) wrong

-- where the first entry begins, and one behind it
pub first_offset : (o size : ℕ) → o + 0 * size ≡ o
first_offset o size = omega (arith, zero-mul size)

pub later_offset : (o size i : ℕ) → o + suc i * size ≡ o + size + i * size
later_offset o size i = omega (arith, suc-mul i size)

-- entries read so far, before those that are left
abbrev pub after : {X : Type 0} → List X → Result (List X) FileFault → Result (List X) FileFault
after xs r = and_then r (λ ys. Ok (xs ++ ys))

pub after_none : {X : Type 0} (r : Result (List X) FileFault) → after [] r ≡ r
after_none (Ok ys) = refl
after_none (Err e) = refl

tested_cons : {X : Type 0} (x : X) (r : Result (List X) FileFault) → tested (and_then r (λ xs. Ok (x ∷ xs))) ≡ tested r
tested_cons x (Ok xs) = refl
tested_cons x (Err e) = refl

after_cons : {X : Type 0} (xs : List X) (x : X) (r : Result (List X) FileFault) → after xs (and_then r (λ ys. Ok (x ∷ ys))) ≡ after (xs ++ x ∷ []) r
after_cons {X = X} xs x (Ok ys) = ap (λ (zs : List X). Ok zs) (sym (append_assoc xs (x ∷ []) ys))
after_cons {X = X} xs x (Err e) = refl

-- i of n entries are behind, and the next begins at o
module _ {X : Type 0} (at : ℕ → Result X FileFault) (size o n i : ℕ) where
  abbrev left : Result (List X) FileFault
  left = entries at size o (n - i)

  abbrev left_then : Result (List X) FileFault
  left_then = entries at size (o + size) (n - (i + 1))

  one_left : i < n → left ≡ and_then (at o) (λ x. and_then left_then (λ xs. Ok (x ∷ xs)))
  one_left h = let e : n - i ≡ suc (n - (i + 1)) = omega arith in ap (entries at size o) e

  left_right : {x : X} → i < n → at o ≡ Ok x → left ≡ and_then left_then (λ xs. Ok (x ∷ xs))
  left_right h e = one_left h ∙ ap (λ (r : Result X FileFault). and_then r (λ y. and_then left_then (λ xs. Ok (y ∷ xs)))) e

  pub left_none : n ≤ i → entries at size o (n - i) ≡ Ok []
  left_none h = let e : n - i ≡ 0 = omega arith in ap (entries at size o) e

  pub tested_more : {x : X} → i < n → at o ≡ Ok x
      → tested (entries at size o (n - i)) ≡ tested (entries at size (o + size) (n - (i + 1)))
  tested_more {x} h e = ap tested (left_right h e) ∙ tested_cons x left_then

  pub after_more : (xs : List X) {x : X} → i < n → at o ≡ Ok x
      → after xs (entries at size o (n - i)) ≡ after (xs ++ x ∷ []) (entries at size (o + size) (n - (i + 1)))
  after_more xs {x} h e = ap (after xs) (left_right h e) ∙ after_cons xs x left_then
