-- Codes: what is answered to a byte that stands for a type, an operator or a kind, or for nothing.
use Rattle.std.specs.Prelude.{◌≡◌, ◌↔◌, ℕ, List, ◌++◌, Ok, Option, Result, codes, decimal}
use Rattle.std.specs.Option.{ok_or}
use Rattle.java.specs.declared.codes.UnknownCode.{UnknownCode}

abbrev pub unknown_code : ℕ → UnknownCode
unknown_code c = record { 0 = c }

abbrev pub unknown_text : UnknownCode → List ℕ
unknown_text e = codes "code " ++ (decimal e.0 ++ codes " stands for nothing")

-- r answers the code c, where a table says what a code stands for and what the code of each thing is: the two agree, so a
-- thing is answered exactly to its own code, and any other code is refused
pub record Decodes {T : Type 0} (meaning : ℕ → Option T) (code_of : T → ℕ) (c : ℕ) (r : Result T UnknownCode) : Type 0 where
  pub value : r ≡ ok_or (meaning c) (unknown_code c)
  pub named : (t : T) → (r ≡ Ok t) ↔ (c ≡ code_of t)
