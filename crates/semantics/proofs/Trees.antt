-- A table whose every node is in its place is a tree, and what follows from that by arithmetic on places.
use Rattle.std.proofs.Common.{◌≡◌, ℕ, zero, suc, ◌+◌, ◌<◌, ◌≤◌, ◌⊎◌, sym, ap, ◌∙◌, subst, inl, inr, ⊎_elim, arith}
use Rattle.std.proofs.lemmas.Bool.{cases_lt, cases_order}
use Rattle.script.specs.Scripts.{Script}
use Rattle.script.specs.Tables.{size, up, end}
use Rattle.semantics.specs.Trees.{Child, Placed, EndsBefore, Tree, Walk, Walked}

module _ (s : Script) (tree : Tree s) where
  pub ends : (p : ℕ) → p < size s → end s p ≤ size s
  ends p h = omega (arith, tree.whole, tree.nested 0 p h (omega arith) (omega (arith, tree.whole)))

  -- the place after a node that has children is its first child
  pub first_up : (p : ℕ) → p < size s → p + 1 < end s p → up s (p + 1) ≡ p
  first_up p h g =
      let e : p + 1 < size s = omega (arith, ends p h) in
      omega (arith, tree.nearest p (p + 1) e (omega arith) g, tree.up_before (p + 1) (omega arith) e)

  -- where a child ends before its parent does, the next child begins
  pub next_up : (q : ℕ) → 0 < q → q < size s → end s q < end s (up s q) → up s (end s q) ≡ up s q
  next_up q z h g =
      let u : up s q < q = tree.up_before q z h in
      let a : q < end s q = tree.after q h in
      let e : end s q < size s = omega (arith, ends (up s q) (omega arith)) in
      let n : up s q ≤ up s (end s q) = tree.nearest (up s q) (end s q) e (omega arith) g in
      let b : up s (end s q) < end s q = tree.up_before (end s q) (omega arith) e in
      let w : end s q < end s (up s (end s q)) = tree.up_holds (end s q) (omega arith) e in
      ⊎_elim
      (λ (l : up s (end s q) < q). omega (arith, tree.nearest (up s (end s q)) q h l (omega arith)))
      (λ (l : q ≤ up s (end s q)). omega (arith, tree.nested q (up s (end s q)) (omega arith) l b))
      (cases_lt (up s (end s q)) q)

  -- a place at or after c, whose parent stands before c, is c or after all of c
  pub skip : (c p : ℕ) → p < size s → up s p < c → c ≤ p → (p ≡ c) ⊎ (end s c ≤ p)
  skip c p h u l =
      ⊎_elim
      (λ (e : p < end s c). ⊎_elim
      (λ (x : c < p). absurd (omega (arith, tree.nearest c p h x e)))
      (λ (x : p ≤ c). inl (omega arith))
      (cases_lt c p))
      inr
      (cases_lt p (end s c))

  -- from a child of u, or from the end of u, a walk goes on to the end of u
  walk_on : (k u q : ℕ) → u < size s → end s u ≤ q + k → q ≤ end s u → (q < end s u → (u < q) × (up s q ≡ u)) → Walk s u q (end s u)
  walk_on zero u q h b w c = subst (λ (x : ℕ). Walk s u x (end s u)) (omega arith) Walk.done
  walk_on (suc k) u q h b w c = ⊎_elim
      (λ (l : q < end s u).
      let n = ends u h in
      let e = (c l).1 in
      let m : q < size s = omega arith in
      let a = tree.after q m in
      let i : end s q ≤ end s u = tree.nested u q m (omega (arith, (c l).0)) l in
      let inner : Walk s q (q + 1) (end s q) = walk_on k q (q + 1) m (omega arith) (omega arith) (λ g. (omega arith, first_up q m g)) in
      let next : end s q < end s u → up s (end s q) ≡ u =
      λ (g : end s q < end s u). next_up q (omega (arith, (c l).0)) m (subst (λ (x : ℕ). end s q < end s x) (sym e) g) ∙ e in
      Walk.visit e inner (walk_on k u (end s q) h (omega arith) i (λ g. (omega (arith, (c l).0), next g))))
      (λ (l : end s u ≤ q). subst (λ (x : ℕ). Walk s u x (end s u)) (omega arith) Walk.done)
      (cases_lt q (end s u))

  pub walked : Walked s
  walked = record {
    root = tree.root;
    whole = tree.whole;
    below = subst (λ (x : ℕ). Walk s 0 1 x) tree.whole
        (walk_on (size s) 0 1 tree.some (omega (arith, tree.whole)) (omega (arith, tree.after 0 tree.some))
        (λ g. (omega arith, first_up 0 tree.some g)));
  }

-- the nodes below n are in their places
module _ (s : Script) (n : ℕ) (within : n ≤ size s) (all : (p : ℕ) → p < n → Placed s p) where
  pub child_at : (p : ℕ) → 0 < p → p < n → Child s p
  child_at zero z h = absurd (omega arith)
  child_at (suc p) z h = all (suc p) h

  ends_after : (p : ℕ) → p < n → p < end s p
  ends_after zero h = let e = (all 0 h).1 in omega arith
  ends_after (suc p) h = (all (suc p) h).after

  -- the last two facts of a tree, of all places up to one
  record Upto (m : ℕ) : Type 0 where
    nested : (x p : ℕ) → p < m → p < n → x ≤ p → p < end s x → end s p ≤ end s x
    nearest : (x p : ℕ) → p < m → p < n → x < p → p < end s x → x ≤ up s p

  nearest_next : (m x : ℕ) → Upto m → m < n → x < m → m < end s x → x ≤ up s m
  nearest_next m x U h l e =
      let c = child_at m (omega arith) h in
      ⊎_elim
      (λ (f : m ≡ up s m + 1). omega arith)
      (λ (f : (q : ℕ) × (q < m) × EndsBefore s m q).
      let q = f.0 in
      let ql = f.1 in
      let uq = f.2.1 in
      let eq = f.2.2 in
      ⊎_elim
      (λ (i : x ≡ q). let z = ap (end s) i in absurd (omega arith))
      (⊎_elim
      (λ (i : x < q). omega (arith, U.nearest x q ql (omega arith) i (omega arith)))
      (λ (i : q < x). omega (arith, U.nested q x l (omega arith) (omega arith) (omega arith))))
      (cases_order x q))
      c.follows

  nested_next : (m x : ℕ) → Upto m → m < n → x ≤ m → m < end s x → end s m ≤ end s x
  nested_next m x U h l e = ⊎_elim
      (λ (i : x ≡ m). let z = ap (end s) i in omega arith)
      (⊎_elim
      (λ (i : x < m).
      let c = child_at m (omega arith) h in
      let k = nearest_next m x U h i e in
      let b = c.before in
      let w = c.within in
      ⊎_elim
      (λ (j : x ≡ up s m). let z = ap (end s) j in omega arith)
      (⊎_elim
      (λ (j : x < up s m). omega (arith, U.nested x (up s m) b (omega arith) (omega arith) (omega arith)))
      (λ (j : up s m < x). absurd (omega arith)))
      (cases_order x (up s m)))
      (λ (i : m < x). absurd (omega arith)))
      (cases_order x m)

  upto : (m : ℕ) → Upto m
  upto zero = record {
    nested = λ x p h l g e. absurd (omega arith);
    nearest = λ x p h l g e. absurd (omega arith);
  }
  upto (suc m) =
      let U = upto m in
      record {
        nested = λ x p h l g e. ⊎_elim
            (λ (i : p < m). U.nested x p i l g e)
            (λ (i : m ≤ p).
            let z : m ≡ p = omega arith in
            subst (λ (k : ℕ). k < n → x ≤ k → k < end s x → end s k ≤ end s x) z (nested_next m x U) l g e)
            (cases_lt p m);
        nearest = λ x p h l g e. ⊎_elim
            (λ (i : p < m). U.nearest x p i l g e)
            (λ (i : m ≤ p).
            let z : m ≡ p = omega arith in
            subst (λ (k : ℕ). k < n → x < k → k < end s x → x ≤ up s k) z (nearest_next m x U) l g e)
            (cases_lt p m);
      }

  pub nested_below : (x p : ℕ) → p < n → x ≤ p → p < end s x → end s p ≤ end s x
  nested_below x p h = (upto (suc p)).nested x p (omega arith) h

  pub nearest_below : (x p : ℕ) → p < n → x < p → p < end s x → x ≤ up s p
  nearest_below x p h = (upto (suc p)).nearest x p (omega arith) h

pub tree_of : (s : Script) → 0 < size s → ((p : ℕ) → p < size s → Placed s p) → Tree s
tree_of s some all =
    let here : size s ≤ size s = omega arith in
    record {
      some = some;
      root = (all 0 some).0;
      whole = (all 0 some).1;
      after = ends_after s (size s) here all;
      up_before = λ p z h. (child_at s (size s) here all p z h).before;
      up_holds = λ p z h. let c = child_at s (size s) here all p z h in omega (arith, c.after, c.within);
      nested = nested_below s (size s) here all;
      nearest = nearest_below s (size s) here all;
    }
