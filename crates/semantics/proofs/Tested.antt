-- What the tests of a list of rules, one after the other, say of a script.
use Rattle.std.proofs.Common.{◌≡◌, ℕ, suc, ◌<◌, ◌≤◌, true, false, cond, eqb, List, [], ◌∷◌, Some, None, Ok, Err, Option, Result, sym, refl, ap, ◌∙◌, subst, ⊎_elim, arith, MatchOption}
use Rattle.std.specs.Option.{option_map}
use Rattle.std.proofs.lemmas.Bool.{cases_Bool, cases_eq}
use Rattle.std.proofs.lemmas.Bool.Decides.{not_from_Decides}
use Rattle.script.specs.declared.sorts.Pos.{Pos}
use Rattle.script.specs.Scripts.{Script}
use Rattle.script.specs.Tables.{size}
use Rattle.semantics.specs.declared.fault.Rule.{Rule}
use Rattle.semantics.specs.declared.fault.Rule.TheVariants as R
use Rattle.semantics.specs.declared.fault.AdmissionFault.{AdmissionFault}
use Rattle.semantics.specs.Faults.{rule_number}
use Rattle.semantics.specs.Rules.{Admitted, AllKeep, Keeps, Refused, answer, broken_at, first_broken, form, in_order, keeps, or_else, tested}
use Rattle.semantics.proofs.Decided.{kept}
use Rattle.semantics.proofs.Lowest.{Lowest, lowest, lowest_is}

-- every rule of a list is kept
abbrev pub AllKept : Script → List Rule → Type 0
AllKept s [] = Unit {0}
AllKept s (r ∷ rules) = AllKeep r s × AllKept s rules

-- where a rule is broken first
breaks : (r : Rule) (s : Script) → Lowest (keeps r s) (size s) (broken_at r s)
unfolding broken_at
breaks r s = lowest (keeps r s) (size s)

-- what is found to be the lowest place is the answer
pub broken_is : (r : Rule) (s : Script) (o : Option ℕ) → Lowest (keeps r s) (size s) o → o ≡ broken_at r s
unfolding broken_at
broken_is r s o found = lowest_is (keeps r s) (size s) o found

-- a search by rising place has found the answer, or has come to the end without one
module _ (r : Rule) (s : Script) where
  pub breaks_here : (p : ℕ) → p < size s → keeps r s p ≡ false → ((q : ℕ) → q < p → keeps r s q ≡ true) → Some (record { 0 = p }) ≡ first_broken r s
  breaks_here p h e below = ap (option_map (λ (n : ℕ). let place : Pos = record { 0 = n } in place)) (broken_is r s (Some p) (h, e, below))

  pub breaks_nowhere : (n : ℕ) → size s ≤ n → ((q : ℕ) → q < n → keeps r s q ≡ true) → None ≡ first_broken r s
  breaks_nowhere n h below =
      ap (option_map (λ (n : ℕ). let place : Pos = record { 0 = n } in place)) (broken_is r s None (λ q l. below q (omega arith)))

-- so has a search through all places
pub found_first : (r : Rule) (s : Script) (o : Option ℕ) (n : ℕ) → n ≡ size s
    → MatchOption o ((q : ℕ) → 0 ≤ q → q < n → keeps r s q ≡ true) (λ p. (0 ≤ p) × (p < n) × (keeps r s p ≡ false) × ((q : ℕ) → 0 ≤ q → q < p → keeps r s q ≡ true))
    → o ≡ broken_at r s
found_first r s None n e all = broken_is r s None (λ q h. all q (omega arith) (omega arith))
found_first r s (Some p) n e found = broken_is r s (Some p) (omega (arith, found.1), found.2, λ q h. found.3 q (omega arith) h)

module _ (s : Script) where
  all_keep : (r : Rule) → ((q : ℕ) → q < size s → keeps r s q ≡ true) → AllKeep r s
  all_keep r all q h = (kept r s q).0 (all q h)

  unbroken : (r : Rule) → AllKeep r s → broken_at r s ≡ None
  unbroken r all = sym (broken_is r s None (λ q h. (kept r s q).1 (all q h)))

  -- the first rule is kept, and the tests after it decide; or it is broken, and they do not matter
  first_kept : (r : Rule) (o : Option ℕ) (later : Result (Unit {0}) AdmissionFault) → Lowest (keeps r s) (size s) o
      → or_else r o later ≡ Ok tt → AllKeep r s × (later ≡ Ok tt)
  first_kept r None later all e = (all_keep r all, e)
  first_kept r (Some p) later found e = absurd cc

  pub kept_all : (rules : List Rule) → tested s rules ≡ Ok tt → AllKept s rules
  kept_all [] e = tt
  kept_all (r ∷ rules) e =
      let f = first_kept r (broken_at r s) (tested s rules) (breaks r s) e in
      (f.0, kept_all rules f.1)

  -- a rule whose test found no place is kept
  pub kept_rule : (r : Rule) → broken_at r s ≡ None → AllKeep r s
  kept_rule r e = all_keep r (subst (Lowest (keeps r s) (size s)) e (breaks r s))

  pub all_tested : (rules : List Rule) → AllKept s rules → tested s rules ≡ Ok tt
  all_tested [] a = refl
  all_tested (r ∷ rules) a =
      ap (λ (o : Option ℕ). or_else r o (tested s rules)) (unbroken r a.0) ∙ all_tested rules a.1

  pub admitted : answer s ≡ Ok tt → Admitted s
  admitted e R.Construct = (kept_all in_order e).0
  admitted e R.Tree = (kept_all in_order e).1.0
  admitted e R.Children = (kept_all in_order e).1.1.0
  admitted e R.Label = (kept_all in_order e).1.1.1.0
  admitted e R.Scope = (kept_all in_order e).1.1.1.1.0
  admitted e R.Type = (kept_all in_order e).1.1.1.1.1.0
  admitted e R.Assignment = (kept_all in_order e).1.1.1.1.1.1.0

  pub accepted : Admitted s → answer s ≡ Ok tt
  accepted a =
      all_tested in_order
      (a R.Construct, (a R.Tree, (a R.Children, (a R.Label, (a R.Scope, (a R.Type, (a R.Assignment, tt)))))))

-- the rule of a number
rule_of : ℕ → Option Rule
rule_of n =
    cond (eqb n 10) (Some R.Construct)
    (cond (eqb n 11) (Some R.Tree)
    (cond (eqb n 12) (Some R.Children)
    (cond (eqb n 13) (Some R.Label)
    (cond (eqb n 14) (Some R.Scope)
    (cond (eqb n 15) (Some R.Type) (Some R.Assignment))))))

numbered : (r : Rule) → rule_of (rule_number r) ≡ Some r
unfolding rule_of
numbered R.Construct = refl
numbered _ = refl

same_rule : (a b : Rule) → rule_number a ≡ rule_number b → a ≡ b
same_rule a b e =
    let x = numbered a in
    let y = numbered b in
    let z = ap rule_of e in
    cc

last_number : (r : Rule) → rule_number r ≤ 16
last_number R.Construct = omega arith
last_number _ = omega arith

first_number : (r : Rule) → 10 ≤ rule_number r
first_number R.Construct = omega arith
first_number _ = omega arith

-- rules whose numbers go up one by one from n, as far as `last`, which is none of them
abbrev Consecutive : ℕ → ℕ → List Rule → Type 0
Consecutive last n [] = n ≡ last
Consecutive last n (r ∷ rules) = (rule_number r ≡ n) × Consecutive last (suc n) rules

reaches : (last n : ℕ) (rules : List Rule) → Consecutive last n rules → n ≤ last
reaches last n [] c = omega (arith, c)
reaches last n (r ∷ rules) c = omega (arith, reaches last (suc n) rules c.1)

module _ (s : Script) where
  -- every rule with a lower number is kept
  abbrev Earlier : ℕ → Type 0
  Earlier n = (r : Rule) → rule_number r < n → AllKeep r s

  one_later : (n : ℕ) (r : Rule) → rule_number r ≡ n → AllKeep r s → Earlier n → Earlier (suc n)
  one_later n r e all earlier q h = ⊎_elim
      (λ (z : rule_number q ≡ n). let w : r ≡ q = same_rule r q (e ∙ sym z) in subst (λ (k : Rule). AllKeep k s) w all)
      (λ z. earlier q (omega arith))
      (cases_eq (rule_number q) n)

  module _ (e : AdmissionFault) where
    at_first : (n : ℕ) (r : Rule) (o : Option ℕ) (later : Result (Unit {0}) AdmissionFault) → rule_number r ≡ n → Earlier n
        → Lowest (keeps r s) (size s) o → (Earlier (suc n) → later ≡ Err e → Refused s e) → or_else r o later ≡ Err e → Refused s e
    at_first n r None later i earlier all next z = next (one_later n r i (all_keep s r all) earlier) z
    at_first n r (Some p) later i earlier found next z =
        let w : record { rule = r; place = record { 0 = p } } ≡ e = cc in
        subst (Refused s) w
        (record {
          within = found.0;
          broken = not_from_Decides (keeps r s p) (kept r s p) found.1;
          lowest = λ q h. (kept r s q).0 (found.2 q h);
          earlier = λ q h. earlier q (omega arith);
        })

    truly_refused : (last n : ℕ) (rules : List Rule) → Consecutive last n rules → Earlier n → tested s rules ≡ Err e → Refused s e
    truly_refused last n [] c earlier z = absurd cc
    truly_refused last n (r ∷ rules) c earlier z =
        at_first n r (broken_at r s) (tested s rules) c.0 earlier (breaks r s) (truly_refused last (suc n) rules c.1) z

    -- what refuses is one of the rules that are tested
    first_below : (last : ℕ) (r : Rule) (o : Option ℕ) (later : Result (Unit {0}) AdmissionFault) → rule_number r < last
        → (later ≡ Err e → rule_number e.rule < last) → or_else r o later ≡ Err e → rule_number e.rule < last
    first_below last r None later h next z = next z
    first_below last r (Some p) later h next z =
        let w : record { rule = r; place = record { 0 = p } } ≡ e = cc in
        subst (λ (f : AdmissionFault). rule_number f.rule < last) w h

    refused_below : (last n : ℕ) (rules : List Rule) → Consecutive last n rules → tested s rules ≡ Err e → rule_number e.rule < last
    refused_below last n [] c z = absurd cc
    refused_below last n (r ∷ rules) c z =
        first_below last r (broken_at r s) (tested s rules) (omega (arith, c.0, reaches last (suc n) rules c.1))
        (refused_below last (suc n) rules c.1) z

    -- a fault of which a refusal is true is the one that is found
    refuses : (last n : ℕ) (rules : List Rule) → Consecutive last n rules → n ≤ rule_number e.rule → rule_number e.rule < last
        → Refused s e → tested s rules ≡ Err e
    refuses last n [] c h b f = absurd (omega (arith, c))
    refuses last n (r ∷ rules) c h b f = ⊎_elim
        (λ (z : rule_number e.rule ≡ n).
        let w : e.rule ≡ r = same_rule e.rule r (z ∙ sym c.0) in
        let fails : keeps e.rule s e.place.0 ≡ false = false_since e.rule e.place.0 f.broken in
        let b : Some e.place.0 ≡ broken_at e.rule s =
        broken_is e.rule s (Some e.place.0) (f.within, fails, λ q j. (kept e.rule s q).1 (f.lowest q j)) in
        subst (λ (k : Rule). or_else k (broken_at k s) (tested s rules) ≡ Err e) w
        (ap (λ (o : Option ℕ). or_else e.rule o (tested s rules)) (sym b)))
        (λ z.
        ap (λ (o : Option ℕ). or_else r o (tested s rules)) (unbroken s r (f.earlier r (omega (arith, c.0))))
        ∙ refuses last (suc n) rules c.1 (omega arith) b f)
        (cases_eq (rule_number e.rule) n)
      where
        false_since : (r : Rule) (p : ℕ) → (Keeps r s p → ⊥) → keeps r s p ≡ false
        false_since r p broken = ⊎_elim (λ (y : keeps r s p ≡ true). absurd (broken ((kept r s p).0 y))) (λ y. y) (cases_Bool (keeps r s p))

    -- the first rules are tested, as far as `last`: a refusal by one of them is given exactly where what it says is so
    refused_by : (last : ℕ) (rules : List Rule) → Consecutive last 10 rules
        → (tested s rules ≡ Err e → Refused s e × (rule_number e.rule < last)) × (Refused s e → rule_number e.rule < last → tested s rules ≡ Err e)
    refused_by last rules c = (
      λ z. (truly_refused last 10 rules c (λ r h. absurd (omega (arith, first_number r))) z, refused_below last 10 rules c z),
      λ f b. refuses last 10 rules c (first_number e.rule) b f,
    )

    pub refused : (answer s ≡ Err e → Refused s e) × (Refused s e → answer s ≡ Err e)
    refused =
        let by = refused_by 17 in_order (refl, (refl, (refl, (refl, (refl, (refl, (refl, refl))))))) in
        ((λ z. (by.0 z).0), (λ f. by.1 f (omega (arith, last_number e.rule))))

    pub refused_by_form : (tested s form ≡ Err e → Refused s e × (rule_number e.rule < 13)) × (Refused s e → rule_number e.rule < 13 → tested s form ≡ Err e)
    refused_by_form = refused_by 13 form (refl, (refl, (refl, refl)))
