-- What a walk from the root finds to be a tree keeps the rule of the tree.
use Rattle.std.proofs.Common.{◌≡◌, ℕ, zero, suc, ◌+◌, ◌<◌, ◌≤◌, ◌⊎◌, refl, sym, ◌∙◌, subst, inl, inr, ⊎_elim, arith}
use Rattle.std.proofs.lemmas.Bool.{cases_eq, cases_lt}
use Rattle.script.specs.Scripts.{Script}
use Rattle.script.specs.Tables.{size, up, end}
use Rattle.semantics.specs.Trees.{Child, EndsBefore, Placed, Walk, Walked}

module _ (s : Script) where
  -- a walk goes on
  rises : {u q e : ℕ} → Walk s u q e → q ≤ e
  rises Walk.done = omega arith
  rises (Walk.visit a inner rest) = omega (arith, rises inner, rises rest)

  -- q is where u's first child begins, or where an earlier child of u ends
  abbrev Next : ℕ → ℕ → Type 0
  Next u q = (q ≡ u + 1) ⊎ ((r : ℕ) × (r < q) × ((0 < r) × (up s r ≡ u) × (end s r ≡ q)))

  after_child : (u q : ℕ) → u < q → up s q ≡ u → q < end s q → Next u (end s q)
  after_child u q l a h = inr (q, h, (omega (arith, l), a, refl))

  follows : (u q : ℕ) → up s q ≡ u → Next u q → (q ≡ up s q + 1) ⊎ ((r : ℕ) × (r < q) × EndsBefore s q r)
  follows u q a next = ⊎_elim
      (λ (z : q ≡ u + 1). inl (omega (arith, a, z)))
      (λ z. inr (z.0, z.1, (z.2.0, z.2.1 ∙ sym a, z.2.2)))
      next

  in_place : (u q : ℕ) → up s q ≡ u → u < q → q < end s q → end s q ≤ end s u → Next u q → Child s q
  in_place u q a l g w next = record {
    before = omega (arith, a, l);
    after = g;
    within = subst (λ (x : ℕ). end s q ≤ end s x) (sym a) w;
    follows = follows u q a next;
  }

  -- each place that a walk meets is in its place
  met : {u q e : ℕ} → Walk s u q e → u < q → e ≤ end s u → Next u q → (p : ℕ) → q ≤ p → p < e → Child s p
  met Walk.done l h next p b c = absurd (omega (arith, b, c))
  met {u} {q} {e} (Walk.visit a inner rest) l h next p b c =
      let i : q + 1 ≤ end s q = rises inner in
      let j : end s q ≤ e = rises rest in
      ⊎_elim
      (λ (z : p ≡ q). subst (Child s) (sym z) (in_place u q a l (omega arith) (omega arith) next))
      (λ z. ⊎_elim
      (λ (x : p < end s q). met inner (omega arith) (omega arith) (inl refl) p (omega arith) x)
      (λ (x : end s q ≤ p). met rest (omega arith) h (after_child u q l a (omega arith)) p x c)
      (cases_lt p (end s q)))
      (cases_eq p q)

  pub kept_by_walk : Walked s → (p : ℕ) → p < size s → Placed s p
  kept_by_walk w zero h = (w.root, w.whole)
  kept_by_walk w (suc p) h = met w.below (omega arith) (omega (arith, w.whole)) (inl (omega arith)) (suc p) (omega arith) h
