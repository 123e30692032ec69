-- Where the next child of each node has to begin, while the nodes are passed one after the other.
use Rattle.std.proofs.Common.{◌≡◌, ℕ, zero, suc, ◌+◌, ◌<◌, ◌≤◌, true, eqb, ◌⊎◌, List, length, set, sym, refl, ap, ◌∙◌, subst, inl, inr, ⊎_elim, arith, length-set, get_or-set_other, get_or-set_same}
use Rattle.std.proofs.lemmas.Bool.{cases_eq, cases_lt, cases_order, cond-false, le-leb, leb-true, ne_eqb}
use Rattle.std.proofs.lemmas.Bool.Decides.{Decides-and, Decides-at, Decides-eqb, Decides-like, Decides-ltb, same_from_decides}
use Rattle.script.specs.declared.sorts.Pos.{Pos}
use Rattle.script.specs.Scripts.{Script}
use Rattle.script.specs.Tables.{end, size, up}
use Rattle.semantics.specs.Trees.{Child, EndsBefore, Placed, placed}
use Rattle.semantics.proofs.Decided.{placed_decided}
use Rattle.semantics.proofs.Trees.{child_at, nearest_below}
use Rattle.structure.specs.Places.{in_place, next_place}

-- q is a child of u below p that ends at e
abbrev EndsAt : Script → ℕ → ℕ → ℕ → ℕ → Type 0
EndsAt s p u e q = (q < p) × (0 < q) × (up s q ≡ u) × (end s q ≡ e)

-- every node below p is in its place, and its next child has to begin right behind it, where it has none yet, or else
-- where its last one ends
pub record Awaits (s : Script) (next : List Pos) (p : ℕ) : Type 0 where
  pub long : length next ≡ 1024
  pub kept : (q : ℕ) → q < p → placed s q ≡ true
  pub begins : (u : ℕ) → u < p → (next_place next u ≡ u + 1) ⊎ ((q : ℕ) × EndsAt s p u (next_place next u) q)
  pub covers : (u q : ℕ) → u < p → 0 < q → q < p → up s q ≡ u → end s q ≤ next_place next u

module _ (s : Script) (next : List Pos) (p : ℕ) (A : Awaits s next p) (h : p ≤ size s) where
  all : (q : ℕ) → q < p → Placed s q
  all q l = (placed_decided s q).0 (A.kept q l)

  -- the next child begins at p exactly if p follows its parent or an earlier child
  follows : up s p < p → next_place next (up s p) ≡ p → (p ≡ up s p + 1) ⊎ ((q : ℕ) × (q < p) × EndsBefore s p q)
  follows b e = ⊎_elim
      (λ (f : next_place next (up s p) ≡ up s p + 1). inl (omega arith))
      (λ (f : (q : ℕ) × EndsAt s p (up s p) (next_place next (up s p)) q). inr (f.0, f.1.0, (f.1.1, f.1.2, f.1.3 ∙ e)))
      (A.begins (up s p) b)

  -- of two children that end at p or later the one that ends at p is the last
  ends_no_later : (q r : ℕ) → 0 < q → q < p → 0 < r → r < p → up s q ≡ up s r → end s q ≡ p → end s r ≤ p
  ends_no_later q r z l y k e g =
      let cq = child_at s p h all q z l in
      let cr = child_at s p h all r y k in
      let bq = cq.before in
      let br = cr.before in
      ⊎_elim
      (λ (i : q ≡ r). let w = ap (end s) i in omega arith)
      (⊎_elim
      (λ (i : q < r). absurd (omega (arith, nearest_below s p h all q r k i (omega arith))))
      (λ (i : r < q). ⊎_elim
      (λ (j : p < end s r). absurd (omega (arith, nearest_below s p h all r q l i (omega arith))))
      (λ (j : end s r ≤ p). j)
      (cases_lt p (end s r))))
      (cases_order q r)

  awaited : up s p < p → (p ≡ up s p + 1) ⊎ ((q : ℕ) × (q < p) × EndsBefore s p q) → next_place next (up s p) ≡ p
  awaited b f = ⊎_elim
      (λ (first : next_place next (up s p) ≡ up s p + 1). ⊎_elim
      (λ (i : p ≡ up s p + 1). omega arith)
      (λ (i : (q : ℕ) × (q < p) × EndsBefore s p q).
      let c = child_at s p h all i.0 i.2.0 i.1 in
      let l = c.before in
      let k = A.covers (up s p) i.0 b i.2.0 i.1 i.2.1 in
      let e = i.2.2 in
      let u = i.2.1 in
      let w = i.1 in
      absurd (omega arith))
      f)
      (λ (later : (r : ℕ) × EndsAt s p (up s p) (next_place next (up s p)) r).
      let c = child_at s p h all later.0 later.1.1 later.1.0 in
      let l = c.before in
      let er = later.1.3 in
      let ur = later.1.2 in
      let lr = later.1.0 in
      ⊎_elim
      (λ (i : p ≡ up s p + 1). absurd (omega arith))
      (λ (i : (q : ℕ) × (q < p) × EndsBefore s p q).
      let k = A.covers (up s p) i.0 b i.2.0 i.1 i.2.1 in
      let e = i.2.2 in
      let n = ends_no_later i.0 later.0 i.2.0 i.1 later.1.1 lr (i.2.1 ∙ sym ur) e in
      omega arith)
      f)
      (A.begins (up s p) b)

-- so the test by what is awaited is the rule
pub agrees : (s : Script) (next : List Pos) (p : ℕ) → Awaits s next p → p ≤ size s → in_place s next p ≡ placed s p
agrees s next zero A h = refl
agrees s next (suc k) A h =
    let p = suc k in
    same_from_decides (in_place s next p) (placed s p)
    (Decides-at (in_place s next p) _ (cond-false (eqb p 0) _ _ (ne_eqb p 0 (λ (e : p ≡ 0). omega arith)))
    (Decides-like _
    (λ x. record { before = x.0; after = x.1.0; within = x.1.1.0; follows = follows s next p A h x.0 x.1.1.1 })
    (λ (c : Child s p). (c.before, (c.after, (c.within, awaited s next p A h c.before c.follows))))
    (Decides-and _ _ (Decides-ltb (up s p) p) (Decides-and _ _ (Decides-ltb p (end s p))
    (Decides-and _ _ (leb-true (end s p) (end s (up s p)), le-leb (end s p) (end s (up s p))) (Decides-eqb (next_place next (up s p)) p))))))
    (placed_decided s p)

-- a node that is in its place takes its turn among its parent's children, and awaits its own
module _ (s : Script) (next : List Pos) (p : ℕ) (A : Awaits s next p) (h : p < size s) (small : size s ≤ 1024) (here : placed s p ≡ true) where
  abbrev ended : List Pos
  ended = set next (up s p) (record { 0 = end s p })

  abbrev after : List Pos
  after = set ended p (record { 0 = p + 1 })

  now_kept : (q : ℕ) → q < p + 1 → placed s q ≡ true
  now_kept q l = ⊎_elim
      (λ (i : q ≡ p). subst (λ (k : ℕ). placed s k ≡ true) (sym i) here)
      (λ i. A.kept q (omega arith))
      (cases_eq q p)

  child : (q : ℕ) → 0 < q → q < p + 1 → Child s q
  child = child_at s (p + 1) (omega arith) (λ q l. (placed_decided s q).0 (now_kept q l))

  ended_long : length ended ≡ length next
  ended_long = length-set next (up s p) (record { 0 = end s p })

  at_p : next_place after p ≡ p + 1
  at_p = grind (arith, get_or-set_same, ended_long, A.long)

  at_up : (up s p ≡ p → ⊥) → up s p < p → next_place after (up s p) ≡ end s p
  at_up n l = grind (arith, get_or-set_other, get_or-set_same, A.long)

  elsewhere : (u : ℕ) → (u ≡ p → ⊥) → (u ≡ up s p → ⊥) → next_place after u ≡ next_place next u
  elsewhere u n m = grind (arith, get_or-set_other)

  now_begins : (u : ℕ) → u < p + 1 → (next_place after u ≡ u + 1) ⊎ ((q : ℕ) × EndsAt s (p + 1) u (next_place after u) q)
  now_begins u l = ⊎_elim
      (λ (i : u ≡ p). inl (subst (λ (k : ℕ). next_place after k ≡ k + 1) (sym i) at_p))
      (λ i.
      let c = child p (omega arith) (omega arith) in
      let b = c.before in
      ⊎_elim
      (λ (j : u ≡ up s p).
      let e : next_place after u ≡ end s p = ap (λ (k : ℕ). next_place after k) j ∙ at_up (λ w. omega arith) b in
      inr (p, (omega arith, omega arith, sym j, sym e)))
      (λ j.
      let e = elsewhere u i j in
      ⊎_elim
      (λ (f : next_place next u ≡ u + 1). inl (e ∙ f))
      (λ (f : (q : ℕ) × EndsAt s p u (next_place next u) q). let g = f.1.0 in inr (f.0, (omega arith, f.1.1, f.1.2, f.1.3 ∙ sym e)))
      (A.begins u (omega arith)))
      (cases_eq u (up s p)))
      (cases_eq u p)

  now_covers : (u q : ℕ) → u < p + 1 → 0 < q → q < p + 1 → up s q ≡ u → end s q ≤ next_place after u
  now_covers u q l z k e =
      let c = child q z k in
      let b = c.before in
      ⊎_elim
      (λ (i : u ≡ p). absurd (omega arith))
      (λ i.
      let cp = child p (omega arith) (omega arith) in
      let bp = cp.before in
      let ap_after = cp.after in
      ⊎_elim
      (λ (j : u ≡ up s p).
      let at : next_place after u ≡ end s p = ap (λ (k : ℕ). next_place after k) j ∙ at_up (λ w. omega arith) bp in
      ⊎_elim
      (λ (w : q ≡ p). let v = ap (end s) w in omega arith)
      (λ w.
      let m = A.covers u q (omega arith) z (omega arith) e in
      let f = awaited s next p A (omega arith) bp cp.follows in
      let g = ap (λ (k : ℕ). next_place next k) j in
      omega arith)
      (cases_eq q p))
      (λ j.
      let at = elsewhere u i j in
      ⊎_elim
      (λ (w : q ≡ p). absurd (j (sym e ∙ ap (up s) w)))
      (λ w. let m = A.covers u q (omega arith) z (omega arith) e in omega arith)
      (cases_eq q p))
      (cases_eq u (up s p)))
      (cases_eq u p)

  pub one_passed : Awaits s after (p + 1)
  one_passed = record {
    long = length-set ended p (record { 0 = p + 1 }) ∙ ended_long ∙ A.long;
    kept = now_kept;
    begins = now_begins;
    covers = now_covers;
  }
