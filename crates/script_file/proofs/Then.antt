-- One part read after another.
use Rattle.std.proofs.Common.{◌≡◌, Bool, true, false, cond, ◌⊎◌, IsErrAnd, Ok, Err, Result, refl, ap, inl, inr}
use Rattle.script_file.specs.declared.fault.FileFault.{FileFault}
use Rattle.script_file.specs.Reading.{and_then, mapped}

module _ {A B : Type 0} where
  pub then_ok : {r : Result A FileFault} (next : A → Result B FileFault) {x : A} → r ≡ Ok x → and_then r next ≡ next x
  then_ok next e = ap (λ (r : Result A FileFault). and_then r next) e

  pub then_err : {r : Result A FileFault} (next : A → Result B FileFault) {e : FileFault} → r ≡ Err e → and_then r next ≡ Err e
  then_err next e = ap (λ (r : Result A FileFault). and_then r next) e

  -- what was read to the end was read in each part
  pub then_parts : (r : Result A FileFault) (next : A → Result B FileFault) {y : B} → and_then r next ≡ Ok y → (x : A) × (r ≡ Ok x) × (next x ≡ Ok y)
  then_parts (Ok x) next h = (x, refl, h)
  then_parts (Err e) next h = absurd (cc)

  -- what follows needs to be the same only for what was read
  pub then_same : (r : Result A FileFault) (next next' : A → Result B FileFault) → ((x : A) → r ≡ Ok x → next x ≡ next' x) → and_then r next ≡ and_then r next'
  then_same (Ok x) next next' h = h x refl
  then_same (Err e) next next' h = refl

  -- a fault arose in the first part or in what followed
  pub then_fault : (r : Result A FileFault) (next : A → Result B FileFault) {f : FileFault} → and_then r next ≡ Err f → (r ≡ Err f) ⊎ ((x : A) × (r ≡ Ok x) × (next x ≡ Err f))
  then_fault (Ok x) next h = inr (x, refl, h)
  then_fault (Err e) next h = inl (cc)

  pub mapped_parts : (f : A → B) (r : Result A FileFault) {y : B} → mapped f r ≡ Ok y → (x : A) × (r ≡ Ok x) × (f x ≡ y)
  mapped_parts f (Ok x) h = (x, refl, cc)
  mapped_parts f (Err e) h = absurd (cc)

  pub mapped_fault : (f : A → B) (r : Result A FileFault) {e : FileFault} → mapped f r ≡ Err e → r ≡ Err e
  mapped_fault f (Ok x) h = absurd (cc)
  mapped_fault f (Err e) h = cc

-- a test that was passed
pub passed : {X : Type 0} (b : Bool) (e : FileFault) (x : X) {y : X} → cond b (Err e) (Ok x) ≡ Ok y → (b ≡ false) × (x ≡ y)
passed true e x h = absurd (cc)
passed false e x h = (refl, cc)

-- a test that was not passed
pub stopped : {X : Type 0} (b : Bool) (e : FileFault) (x : X) {f : FileFault} → cond b (Err e) (Ok x) ≡ Err f → (b ≡ true) × (e ≡ f)
stopped true e x h = (refl, cc)
stopped false e x h = absurd (cc)

-- what is read is no fault
pub not_both : {X : Type 0} {r : Result X FileFault} {x : X} {f : FileFault} → r ≡ Ok x → r ≡ Err f → ⊥
not_both p q = cc

-- the fault that a `?` hands on
pub handed_on : {B : Type 0} (r : Result B FileFault) (e : FileFault) → IsErrAnd r (λ y. y ≡ e) → r ≡ Err e
handed_on (Ok x) e h = absurd h
handed_on (Err y) e h = cc
