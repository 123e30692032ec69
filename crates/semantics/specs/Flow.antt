-- Definite assignment: the locals that have been assigned on every way to a place, and on every way through it.
use Rattle.std.specs.Prelude.{◌≡◌, ℕ, zero, suc, ◌+◌, ◌<◌, Bool, true, false, cond, ◌&&◌, ◌==◌, nat_le}
use Rattle.java.specs.declared.operators.Unary as Operator
use Rattle.java.specs.declared.operators.Unary.TheVariants as U
use Rattle.java.specs.declared.values.Value.{Value}
use Rattle.java.specs.declared.values.Value.TheVariants as V
use Rattle.script.specs.declared.sorts.Lab.{Lab}
use Rattle.script.specs.declared.construct.Construct.{Construct}
use Rattle.script.specs.declared.construct.Construct.TheVariants.{Empty, Literal, Local, Unary, Binary, Conditional, Assignment, Reading, Expression, Labelled, Break, Continue, If, While, Block, Declaration}
use Rattle.script.specs.Scripts.{Script}
use Rattle.script.specs.Tables.{size, up, end, construct}
use Rattle.semantics.specs.declared.sets.LocalSet.{LocalSet}
use Rattle.semantics.specs.declared.sets.Assigned.{Assigned}
use Rattle.semantics.specs.Sets.{full, has, none, shared, with, without}

-- for each place what is assigned before it, and what after it: at its end, if it came out true, if it came out false
pub record Facts : Type 0 where
  pub before : ℕ → LocalSet
  pub assigned : ℕ → Assigned

-- the same however an expression comes out, and for every statement
abbrev pub always : LocalSet → Assigned
always m = record { after = m; when_true = m; when_false = m }

-- where an expression cannot come out, everything counts as assigned
abbrev pub after_literal : LocalSet → Value → Assigned
after_literal m (V.Boolean true) = record { after = m; when_true = m; when_false = full }
after_literal m (V.Boolean false) = record { after = m; when_true = full; when_false = m }
after_literal m _ = always m

-- ! swaps the two ways
abbrev pub after_unary : Operator.Unary → Assigned → Assigned
after_unary U.Not a = record { after = shared a.when_false a.when_true; when_true = a.when_false; when_false = a.when_true }
after_unary _ a = always a.after

-- what two ways share
abbrev pub both : Assigned → Assigned → Assigned
both a b = record {
  after = shared a.after b.after;
  when_true = shared a.when_true b.when_true;
  when_false = shared a.when_false b.when_false;
}

-- what is assigned after a construct, by what is assigned before it, after its first, second and third child, after its
-- last child (before it, where it has none), and before every break to it
abbrev pub after_rule : LocalSet → Assigned → Assigned → Assigned → LocalSet → LocalSet → Construct → Assigned
after_rule m a b c last breaks Empty = always m
after_rule m a b c last breaks (Literal v) = after_literal m v
after_rule m a b c last breaks (Local x) = always m
after_rule m a b c last breaks (Unary o) = after_unary o a
after_rule m a b c last breaks (Binary o) = always b.after
after_rule m a b c last breaks Conditional = both b c
after_rule m a b c last breaks (Assignment x) = always (with x.0 a.after)
after_rule m a b c last breaks (Reading k) = always m
after_rule m a b c last breaks Expression = always a.after
after_rule m a b c last breaks (Labelled l) = always (shared a.after breaks)
after_rule m a b c last breaks (Break l) = always full
after_rule m a b c last breaks (Continue l) = always full
after_rule m a b c last breaks If = always (shared b.after c.after)
after_rule m a b c last breaks While = always a.when_false
after_rule m a b c last breaks Block = always last
after_rule m a b c last breaks (Declaration x) = always (without x.0 m)

-- what is assigned before a child that is not the first, by the parent's construct: whether it is the second, what is
-- assigned after the first child, and after the child before it
abbrev pub before_later : Bool → Assigned → LocalSet → Construct → LocalSet
before_later second a previous Conditional = cond second a.when_true a.when_false
before_later second a previous If = cond second a.when_true a.when_false
before_later second a previous While = a.when_true
before_later second a previous _ = previous

abbrev pub is_break : Lab → Construct → Bool
is_break m (Break l) = l.0 == m.0
is_break m _ = false

abbrev pub label_of : Construct → Lab
label_of (Labelled l) = l
label_of _ = record { 0 = 0 }

-- what is assigned before every break to a label, of the places from i on and below e
unfoldable pub before_breaks : Script → (ℕ → LocalSet) → Lab → ℕ → ℕ → LocalSet
before_breaks s before l i zero = full
before_breaks s before l i (suc e) =
    cond (nat_le i e && is_break l (construct s e)) (shared (before_breaks s before l i e) (before e)) (before_breaks s before l i e)

module _ (s : Script) (f : Facts) (p : ℕ) where
  -- what is assigned after p, where `last` is assigned after its last child
  unfoldable pub after_step : LocalSet → Assigned
  after_step last =
      after_rule (f.before p) (f.assigned (p + 1)) (f.assigned (end s (p + 1))) (f.assigned (end s (end s (p + 1)))) last
      (before_breaks s f.before (label_of (construct s p)) (p + 1) (end s p)) (construct s p)

  -- what is assigned before p, where `previous` is assigned after the child before it: before a first child, as much as
  -- before its parent
  unfoldable pub before_step : LocalSet → LocalSet
  before_step previous =
      cond (p == up s p + 1) (f.before (up s p))
      (before_later (p == end s (up s p + 1)) (f.assigned (up s p + 1)) previous (construct s (up s p)))

  -- m is assigned after the last child of p, or before p where it has none
  pub record Last (m : LocalSet) : Type 0 where
    pub without_children : end s p ≡ p + 1 → m ≡ f.before p
    pub with_children : (q : ℕ) → p < q → q < end s p → up s q ≡ p → end s q ≡ end s p → m ≡ (f.assigned q).after

  -- m is assigned after the child before p
  abbrev pub Previous : LocalSet → Type 0
  Previous m = (q : ℕ) → up s p < q → q < p → up s q ≡ up s p → end s q ≡ p → m ≡ (f.assigned q).after

  abbrev pub AfterLaw : Type 0
  AfterLaw = (m : LocalSet) × Last m × (f.assigned p ≡ after_step m)

  abbrev pub BeforeLaw : Type 0
  BeforeLaw = (m : LocalSet) × Previous m × (f.before p ≡ before_step m)

-- the facts of all places are those that the rules give; nothing is assigned before node 0
pub record FlowLaws (s : Script) (f : Facts) : Type 0 where
  pub opens : f.before 0 ≡ none
  pub before : (p : ℕ) → 0 < p → p < size s → BeforeLaw s f p
  pub after : (p : ℕ) → p < size s → AfterLaw s f p

-- They can be computed from the first place to the last.
abbrev pub put : {A : Type 0} → ℕ → A → (ℕ → A) → ℕ → A
put i x f q = cond (q == i) x (f q)

abbrev pub with_assigned : ℕ → Assigned → Facts → Facts
with_assigned i a f = record { before = f.before; assigned = put i a f.assigned }

abbrev pub with_before : ℕ → LocalSet → Facts → Facts
with_before i m f = record { before = put i m f.before; assigned = f.assigned }

-- after the place p every node below i that ends there is closed, the innermost first; `last` is assigned after the node
-- closed last
unfoldable pub closed : Script → ℕ → ℕ → Facts → LocalSet → Facts × LocalSet
closed s p zero f last = (f, last)
closed s p (suc i) f last =
    cond (end s i == p + 1)
    (closed s p i (with_assigned i (after_step s f i last) f) (after_step s f i last).after)
    (closed s p i f last)

-- and then the next place is entered
abbrev pub entered : Script → ℕ → Facts × LocalSet → Facts
entered s p (f, last) = with_before p (before_step s f p last) f

unfoldable pub facts_below : Script → ℕ → Facts
facts_below s zero = record { before = λ _. none; assigned = λ _. always none }
facts_below s (suc p) = entered s (p + 1) (closed s p (p + 1) (facts_below s p) ((facts_below s p).before p))

unfoldable pub facts : Script → Facts
facts s = facts_below s (size s)

-- by the construct at p: a local that is read is assigned before
abbrev pub AssignedBefore : Script → ℕ → Construct → Type 0
AssignedBefore s p (Local x) = has x.0 ((facts s).before p) ≡ true
AssignedBefore s p _ = Unit {0}

abbrev pub assigned_before : Script → ℕ → Construct → Bool
assigned_before s p (Local x) = has x.0 ((facts s).before p)
assigned_before s p _ = true
