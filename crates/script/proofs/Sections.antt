-- A construct that a node stands for names only what its script has.
use Rattle.std.proofs.Common.{◌≡◌, ℕ, ◌<◌, Bool, true, false, cond, ◌&&◌, eqb, ltb, length, ℤ, pos, negsuc, Some, None, Option, unwrap_or, refl, subst, arith}
use Rattle.std.specs.Option.{option_map}
use Rattle.std.proofs.lemmas.Bool.{ltb-true}
use Rattle.java.specs.declared.types.Primitive.{Primitive}
use Rattle.java.specs.Operators.{binary_of, unary_of}
use Rattle.java.specs.Results.{is_zero}
use Rattle.java.specs.Types.{type_of}
use Rattle.java.specs.Values.{new_value}
use Rattle.script.specs.declared.kind.Kind.{Kind}
use Rattle.script.specs.declared.kind.Kind.TheVariants as K
use Rattle.script.specs.declared.construct.Construct.{Construct}
use Rattle.script.specs.declared.construct.Construct.TheVariants.{Empty, Literal, Local, Unary, Binary, Conditional, Assignment, Reading, Expression, Labelled, Break, Continue, If, While, Block, Declaration}
use Rattle.script.specs.Constructs.{InSection, bare, has_literals, index_below, index_of, literal_at, of_kind, unnumbered}
use Rattle.script.specs.Kinds.{kind_of}
use Rattle.script.specs.Scripts.{Script}
use Rattle.script.specs.Tables.{construct, meaning, node}

given : {A : Type 0} (b : Bool) (o : Option A) (x : A) → cond b o None ≡ Some x → o ≡ Some x
given true o x e = e
given false o x e = cc

-- what was made of a value keeps what holds of all that is made so
made : {A : Type 0} (P : Construct → Type 0) (f : A → Construct) (o : Option A) (c : Construct)
    → ((x : A) → o ≡ Some x → P (f x)) → option_map f o ≡ Some c → P c
made P f None c each e = cc
made P f (Some x) c each e = let z : f x ≡ c = cc in subst P z (each x refl)

below : (limit : ℕ) (n : ℤ) (x : ℕ) → index_below limit n ≡ Some x → x < limit
below limit (pos n) x e = whether (ltb n limit) refl e
  where
    whether : (b : Bool) → ltb n limit ≡ b → cond b (Some n) None ≡ Some x → x < limit
    whether true t z = let w : n ≡ x = cc in subst (λ (k : ℕ). k < limit) w (ltb-true n limit t)
    whether false t z = absurd (let w : ◌≡◌ {A = ℕ} 0 1 = cc in omega arith)
below limit (negsuc n) x e = cc

indexed : (limit d : ℕ) (n : ℤ) (x : ℕ) → index_of limit d n ≡ Some x → x < limit
indexed limit d n x e = below limit n x (given (eqb d 0) (index_below limit n) x e)

module _ (locals labels : ℕ) where
  abbrev P : Construct → Type 0
  P = InSection locals labels

  plain : (k c : Construct) (d : ℕ) (n : ℤ) → P k → bare k d n ≡ Some c → P c
  plain k c d n p e = let z : Some k ≡ Some c = given (eqb d 0 && is_zero n) (Some k) c e in let w : k ≡ c = cc in subst P w p

  literal : (o : Option Primitive) (n : ℤ) (c : Construct) → literal_at o n ≡ Some c → P c
  literal None n c e = cc
  literal (Some t) n c e = made P Literal (new_value t n) c (λ x _. tt) (given (has_literals t) _ c e)

  in_section : (k : Option Kind) (d : ℕ) (n : ℤ) (c : Construct) → of_kind locals labels k d n ≡ Some c → P c
  in_section None d n c e = cc
  in_section (Some K.Literal) d n c e = literal (type_of d) n c e
  in_section (Some K.Local) d n c e = made P (λ x. Local (record { 0 = x })) (index_of locals d n) c (indexed locals d n) e
  in_section (Some K.Unary) d n c e = made P Unary (unnumbered (unary_of d) n) c (λ x _. tt) e
  in_section (Some K.Binary) d n c e = made P Binary (unnumbered (binary_of d) n) c (λ x _. tt) e
  in_section (Some K.Conditional) d n c e = plain Conditional c d n tt e
  in_section (Some K.Assignment) d n c e = made P (λ x. Assignment (record { 0 = x })) (index_of locals d n) c (indexed locals d n) e
  in_section (Some K.Reading) d n c e = made P (λ x. Reading (record { 0 = x })) (index_of 8 d n) c (indexed 8 d n) e
  in_section (Some K.Empty) d n c e = plain Empty c d n tt e
  in_section (Some K.Expression) d n c e = plain Expression c d n tt e
  in_section (Some K.Labelled) d n c e = made P (λ x. Labelled (record { 0 = x })) (index_of labels d n) c (indexed labels d n) e
  in_section (Some K.Break) d n c e = made P (λ x. Break (record { 0 = x })) (index_of labels d n) c (indexed labels d n) e
  in_section (Some K.Continue) d n c e = made P (λ x. Continue (record { 0 = x })) (index_of labels d n) c (indexed labels d n) e
  in_section (Some K.If) d n c e = plain If c d n tt e
  in_section (Some K.While) d n c e = plain While c d n tt e
  in_section (Some K.Block) d n c e = plain Block c d n tt e
  in_section (Some K.Declaration) d n c e = made P (λ x. Declaration (record { 0 = x })) (index_of locals d n) c (indexed locals d n) e

-- at every place
pub sections : (s : Script) (p : ℕ) → InSection (length s.locals) s.labels (construct s p)
unfolding construct meaning
sections s p = either (meaning s p) refl
  where
    either : (o : Option Construct) → meaning s p ≡ o → InSection (length s.locals) s.labels (unwrap_or o Empty)
    either None e = tt
    either (Some c) e = in_section (length s.locals) s.labels (kind_of (node s p).kind) (node s p).detail (node s p).number c e
