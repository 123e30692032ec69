-- The children of a node of a tree, one after the other.
use Rattle.std.proofs.Common.{◌≡◌, ℕ, zero, suc, ◌+◌, ◌-◌, ◌<◌, ◌≤◌, Bool, true, false, cond, ◌&&◌, ◌||◌, eqb, List, [], ◌∷◌, filter, map, Some, None, Option, sym, refl, ap, ◌∙◌, subst, ⊎_elim, arith}
use Rattle.std.specs.List.{list_any, range_with_len}
use Rattle.std.proofs.lemmas.Bool.{and_left, and_right, cases_eq, cases_lt, eq-eqb, le-ltb, lt-ltb, ne_eqb, not-true, not_from_false, or_from, or_parts}
use Rattle.std.proofs.lemmas.Bool.Decides.{same_from_decides}
use Rattle.script.specs.declared.children.Sort.{Sort}
use Rattle.script.specs.declared.construct.Construct.{Construct}
use Rattle.script.specs.Children.{is_expression, is_of_sort}
use Rattle.script.specs.Scripts.{Script}
use Rattle.script.specs.Tables.{construct, end, script_of, size, up}
use Rattle.semantics.specs.declared.fault.Rule.TheVariants as R
use Rattle.semantics.specs.Searches.{all_below}
use Rattle.semantics.specs.Shapes.{NoExpression, child_fits, children, in_turn}
use Rattle.semantics.specs.Trees.{Tree}
use Rattle.semantics.proofs.Decided.{no_expression_decided}
use Rattle.semantics.proofs.Tested.{kept_rule}
use Rattle.semantics.proofs.Trees.{ends, first_up, next_up, tree_of}
use Rattle.structure.specs.declared.trees.Tree as Struct
use Rattle.structure.specs.Children.{are_due, are_no_expressions, are_of_sorts, children_from}

-- what is known of a tree
pub known : (tree : Struct.Tree) → Tree (script_of tree.table)
known tree = tree_of (script_of tree.table) tree.table.some_node (kept_rule (script_of tree.table) R.Tree tree.placed)

-- places that do not pass are left out
skip : (test : ℕ → Bool) (a k m : ℕ) → ((x : ℕ) → a ≤ x → x < a + k → test x ≡ false) → filter test (range_with_len a (k + m)) ≡ filter test (range_with_len (a + k) m)
skip test a zero m none = let z : a ≡ a + 0 = omega arith in let y : 0 + m ≡ m = omega arith in rw (y, ← z) refl
skip test a (suc k) m none =
    let more : suc k + m ≡ suc (k + m) = omega arith in
    let on : a + suc k ≡ a + 1 + k = omega arith in
    rw (more, on)
    (ap (λ b. cond b (a ∷ filter test (range_with_len (a + 1) (k + m))) (filter test (range_with_len (a + 1) (k + m)))) (none a (omega arith) (omega arith))
    ∙ skip test (a + 1) k m (λ x h l. none x (omega arith) (omega arith)))

module _ (s : Script) (tree : Tree s) (p q : ℕ) where
  pub none_left : end s p ≤ q → children_from s p q ≡ []
  unfolding children_from
  none_left h = let z : end s p - q ≡ 0 = omega arith in rw z refl

  -- the next child begins where q ends
  module _ (inside : p < size s) (behind : p < q) (within : q < end s p) (child : up s q ≡ p) where
    below : q < size s
    below = omega (arith, ends s tree p inside)

    pub moved : (p < end s q) × (end s q ≤ end s p) × (end s q < end s p → up s (end s q) ≡ p)
    moved = (
      omega (arith, tree.after q below),
      tree.nested p q below (omega arith) within,
      λ h. next_up s tree q (omega arith) below (subst (λ (u : ℕ). end s q < end s u) (sym child) h) ∙ child,
    )

    abbrev is_child : ℕ → Bool
    is_child x = eqb (up s x) p

    -- what stands below q has a parent there
    lower : (x : ℕ) → q + 1 ≤ x → x < end s q → is_child x ≡ false
    lower x h l = ne_eqb (up s x) p (λ (e : up s x ≡ p). omega (arith, tree.nearest q x (omega (arith, ends s tree q below)) (omega arith) l))

    pub one_more : children_from s p q ≡ construct s q ∷ children_from s p (end s q)
    unfolding children_from
    one_more =
        let n = end s q - (q + 1) in
        let r = end s p - end s q in
        let a = tree.after q below in
        let m = moved.1 in
        let all : end s p - q ≡ suc (n + r) = omega arith in
        let on : q + 1 + n ≡ end s q = omega arith in
        let others = filter is_child (range_with_len (q + 1) (n + r)) in
        ap (λ k. map (construct s) (filter is_child (range_with_len q k))) all
        ∙ ap (λ b. map (construct s) (cond b (q ∷ others) others)) (eq-eqb (up s q) p child)
        ∙ ap (λ (xs : List ℕ). construct s q ∷ map (construct s) xs)
        (skip is_child (q + 1) n r (λ x h l. lower x h (omega arith)) ∙ ap (λ k. filter is_child (range_with_len k r)) on)

-- no number of a range that passes a test stands for what passes another
module _ (f : Construct → Bool) (at : ℕ → Construct) (g : ℕ → Bool) where
  abbrev some_of : List ℕ → Bool
  some_of xs = list_any f (map at (filter g xs))

  first_or_later : (x : ℕ) (xs : List ℕ) → some_of (x ∷ xs) ≡ ((g x && f (at x)) || some_of xs)
  first_or_later x xs = by (g x)
    where
      by : (b : Bool) → list_any f (map at (cond b (x ∷ filter g xs) (filter g xs))) ≡ ((b && f (at x)) || some_of xs)
      by true = refl
      by false = refl

  none_holds : (n a : ℕ) → some_of (range_with_len a n) ≡ false → (x : ℕ) → a ≤ x → x < a + n → (g x && f (at x)) ≡ false
  none_holds zero a e x h l = absurd (omega arith)
  none_holds (suc n) a e x h l =
      let both = or_parts (g a && f (at a)) _ (sym (first_or_later a (range_with_len (a + 1) n)) ∙ e) in
      ⊎_elim
      (λ (z : x ≡ a). subst (λ (k : ℕ). (g k && f (at k)) ≡ false) (sym z) both.0)
      (λ z. none_holds n (a + 1) both.1 x (omega arith) (omega arith))
      (cases_eq x a)

  none_found : (n a : ℕ) → ((x : ℕ) → a ≤ x → x < a + n → (g x && f (at x)) ≡ false) → some_of (range_with_len a n) ≡ false
  none_found zero a all = refl
  none_found (suc n) a all =
      first_or_later a (range_with_len (a + 1) n)
      ∙ or_from _ _ (all a (omega arith) (omega arith)) (none_found n (a + 1) (λ x h l. all x (omega arith) (omega arith)))

-- what the rule of children says of a node says the same of the list of its children
module _ (s : Script) (tree : Tree s) (p : ℕ) (inside : p < size s) where
  in_turn_from : (sorts : List Sort) (q : ℕ) → p < q → q ≤ end s p → (q < end s p → up s q ≡ p) → are_of_sorts (children_from s p q) sorts ≡ in_turn s q (end s p) sorts
  in_turn_from [] q behind within child = ⊎_elim
      (λ (h : q < end s p).
      ap (λ children. are_of_sorts children []) (one_more s tree p q inside behind h (child h)) ∙ sym (ne_eqb q (end s p) (λ e. omega arith)))
      (λ (h : end s p ≤ q).
      ap (λ children. are_of_sorts children []) (none_left s tree p q h) ∙ sym (eq-eqb q (end s p) (omega arith)))
      (cases_lt q (end s p))
  in_turn_from (sort ∷ sorts) q behind within child = ⊎_elim
      (λ (h : q < end s p).
      let m = moved s tree p q inside behind h (child h) in
      ap (λ children. are_of_sorts children (sort ∷ sorts)) (one_more s tree p q inside behind h (child h))
      ∙ ap (λ b. is_of_sort sort (construct s q) && b) (in_turn_from sorts (end s q) m.0 m.1 m.2)
      ∙ ap (λ b. b && (is_of_sort sort (construct s q) && in_turn s (end s q) (end s p) sorts)) (sym (lt-ltb q (end s p) h)))
      (λ (h : end s p ≤ q).
      ap (λ children. are_of_sorts children (sort ∷ sorts)) (none_left s tree p q h) ∙ sym (and_left _ _ (le-ltb q (end s p) h)))
      (cases_lt q (end s p))

  same_in_turn : (sorts : List Sort) → are_of_sorts (children_from s p (p + 1)) sorts ≡ in_turn s (p + 1) (end s p) sorts
  same_in_turn sorts = in_turn_from sorts (p + 1) (omega arith) (omega (arith, tree.after p inside)) (first_up s tree p inside)

  same_expressions : are_no_expressions (children_from s p (p + 1)) ≡ all_below (child_fits s p) (end s p)
  unfolding children_from
  same_expressions =
      let child : ℕ → Bool = λ q. eqb (up s q) p in
      let a = tree.after p inside in
      same_from_decides (are_no_expressions (children_from s p (p + 1))) _ (
        λ none q h l e.
            ap (λ b. b && is_expression (construct s q)) (sym (eq-eqb (up s q) p e))
            ∙ none_holds is_expression (construct s) child (end s p - (p + 1)) (p + 1) (not-true _ none) q (omega arith) (omega arith),
        λ (all : NoExpression s p). not_from_false _ (none_found is_expression (construct s) child (end s p - (p + 1)) (p + 1)
            (λ q h l. ⊎_elim
            (λ (e : up s q ≡ p). and_right _ _ (all q (omega arith) (omega arith) e))
            (λ e. and_left _ _ (ne_eqb (up s q) p e))
            (cases_eq (up s q) p))),
      )
      (no_expression_decided s p)

pub same_children : (tree : Struct.Tree) (p : ℕ) (due : Option (List Sort)) → p < size (script_of tree.table)
    → are_due (children_from (script_of tree.table) p (p + 1)) due ≡ children (script_of tree.table) p due
same_children tree p None inside = same_expressions (script_of tree.table) (known tree) p inside
same_children tree p (Some sorts) inside = same_in_turn (script_of tree.table) (known tree) p inside sorts
