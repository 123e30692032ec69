-- == is an equivalence, that of equal numbers, and < a strict order.
use Rattle.std.proofs.Common.{◌≡◌, Bool, true, not, ◌||◌, Some, None, Ok, Option, refl, inl, inr, arith}
use lib.Signed.{lt_z}
use borrow.Author.Differences.{ints}
use Rattle.std.specs.Option.{option_map, ok_or}
use Rattle.std.proofs.lemmas.Int.{by_lt_z}
use Rattle.std.proofs.lemmas.Option.{cond_some}
use Rattle.std.proofs.lemmas.Bool.Decides.{nat_tests}
use Rattle.std.proofs.lemmas.Bool.{or_left}
use Rattle.java.specs.declared.types.Primitive.{Primitive}
use Rattle.java.specs.declared.values.Value.{Value}
use Rattle.java.specs.declared.values.Value.TheVariants as V
use Rattle.java.specs.declared.operators.Binary.TheVariants as B
use Rattle.java.specs.declared.operators.Comparison.{Comparison}
use Rattle.java.specs.declared.operators.Comparison.TheVariants as C
use Rattle.java.specs.declared.operators.Equality.{Equality}
use Rattle.java.specs.declared.operators.Equality.TheVariants as E
use Rattle.java.specs.declared.results.NoValue.TheVariants.{Untyped}
use Rattle.java.specs.Subtypes.{subtype}
use Rattle.java.specs.Values.{value_type, number}
use Rattle.java.specs.Typing.{IsNumeric, comparison_type, equality_type}
use Rattle.java.specs.Results.{compared, same_number, equal}
use Rattle.java.specs.Laws.{Gives, Equivalence, StrictOrder}
use Rattle.java.proofs.Rules.{comparison_holds, comparison_given}
use Rattle.java.proofs.Subtypes.{above_itself}

-- what a test gives where it is given a type, and that it was given one
told : (b c : Bool) (x : Option Primitive) → ok_or (option_map (λ _. V.Boolean c) x) Untyped ≡ Ok (V.Boolean b) → ((t : Primitive) × (x ≡ Some t)) × (c ≡ b)
told b c None e = cc
told b c (Some t) e = ((t, refl), (cc))

-- two values may be compared by == either way round, or neither
abbrev Related : Value → Value → Bool
Related v w = subtype (value_type v) (value_type w) || subtype (value_type w) (value_type v)

equal_told : (o : Equality) (v w : Value) (b : Bool) → Gives (B.Equality o) v w b → (Related v w ≡ true) × (equal o (number v) (number w) ≡ b)
equal_told o v w b g =
    let t = told b (equal o (number v) (number w)) (equality_type (value_type v) (value_type w)) g in
    ((cond_some _ _ _ t.0.1).0, t.1)

equal_given : (v w : Value) (b : Bool) → Related v w ≡ true → same_number (number v) (number w) ≡ b → Gives (B.Equality E.Equal) v w b
equal_given v w b r e = rw (r, e)

turned : (v w : Value) → Related v w ≡ true → Related w v ≡ true
turned v w r = grind arith

pub equivalence : Equivalence
equivalence = record {
  numbers = λ v w b g. let t = equal_told E.Equal v w b g in (λ yes. grind (arith, ints, nat_tests), λ e. grind (arith, ints, nat_tests));
  reflexive = λ v. equal_given v v true (or_left _ _ (above_itself (value_type v))) (grind (arith, ints));
  symmetric = λ v w b g. let t = equal_told E.Equal v w b g in equal_given w v b (turned v w t.0) (grind (arith, ints, nat_tests));
  transitive = λ u v w b f g h.
      let first = equal_told E.Equal u v true f in
      let second = equal_told E.Equal v w true g in
      let both = equal_told E.Equal u w b h in
      grind (arith, ints, nat_tests);
  unequal = λ v w b g. let t = equal_told E.NotEqual v w b g in equal_given v w (not b) t.0 (grind arith);
}

compared_told : (o : Comparison) (v w : Value) (b : Bool) → Gives (B.Comparison o) v w b → IsNumeric (value_type v) × IsNumeric (value_type w) × (compared o (number v) (number w) ≡ b)
compared_told o v w b g =
    let t = told b (compared o (number v) (number w)) (comparison_type (value_type v) (value_type w)) g in
    let n = comparison_holds (value_type v) (value_type w) t.0.0 t.0.1 in
    (n.0, n.1, t.1)

less_given : (v w : Value) (b : Bool) → IsNumeric (value_type v) → IsNumeric (value_type w) → lt_z (number v) (number w) ≡ b → Gives (B.Comparison C.Less) v w b
less_given v w b h k e = rw (comparison_given (value_type v) (value_type w) h k, e)

pub strict_order : StrictOrder
strict_order = record {
  numbers = λ v w b g. let t = compared_told C.Less v w b g in (λ yes. grind (arith, ints), λ less. grind (arith, ints));
  irreflexive = λ v g. let t = compared_told C.Less v v true g in grind (arith, ints);
  transitive = λ u v w f g.
      let e = compared_told C.Less u v true f in
      let h = compared_told C.Less v w true g in
      less_given u w true e.0 h.1 (grind (arith, ints));
  total = λ v w h k. by_lt_z (number v) (number w)
      (λ less. inl (less_given v w true h k (grind (arith, ints))))
      (λ most. by_lt_z (number w) (number v)
      (λ less. inr (inr (less_given w v true k h (grind (arith, ints)))))
      (λ least. inr (inl (omega (arith, ints)))));
  greater = λ v w b g. let t = compared_told C.Greater v w b g in less_given w v b t.1 t.0 t.2;
  at_most = λ v w b g. let t = compared_told C.LessOrEqual v w b g in less_given w v (not b) t.1 t.0 (grind (arith, ints));
  at_least = λ v w b g. let t = compared_told C.GreaterOrEqual v w b g in less_given v w (not b) t.0 t.1 (grind (arith, ints));
}
