-- The rules as tests say what the rules as relations say.
use Rattle.std.proofs.Common.{◌≡◌, ℕ, zero, suc, ◌+◌, ◌<◌, ◌≤◌, Bool, true, false, not, ◌||◌, eqb, leb, List, [], ◌∷◌, is_some, Some, None, Ok, Err, Decides, Option, sym, refl, ap}
use Rattle.std.proofs.lemmas.Bool.{both_ways, le-leb, leb-true}
use Rattle.std.proofs.lemmas.Bool.Decides.{Decides-and, Decides-below_and, Decides-below_or, Decides-eqb, Decides-like, Decides-ltb, Decides-not, Decides-or}
use Rattle.script.specs.declared.children.Sort.{Sort}
use Rattle.script.specs.declared.sorts.Lab.{Lab}
use Rattle.script.specs.declared.sorts.Loc.{Loc}
use Rattle.script.specs.declared.construct.Construct.{Construct}
use Rattle.script.specs.declared.construct.Construct.TheVariants.{Local, Assignment, Labelled, Break, Continue, While, Block, Declaration}
use Rattle.script.specs.Children.{children_of, is_expression, is_of_sort}
use Rattle.script.specs.Scripts.{Script}
use Rattle.script.specs.Tables.{size, up, end, construct, meaning}
use Rattle.semantics.specs.declared.fault.Rule.{Rule}
use Rattle.semantics.specs.declared.fault.Rule.TheVariants as R
use Rattle.semantics.specs.declared.typing.TypingFault.TheVariants.{Misfit, Unknown}
use Rattle.semantics.specs.Searches.{all_below, some_below}
use Rattle.semantics.specs.Trees.{Child, EndsBefore, Placed, child, ends_before, placed}
use Rattle.semantics.specs.Shapes.{Children, InTurn, NoExpression, Shaped, child_fits, children, in_turn, is_block, shaped}
use Rattle.semantics.specs.Labels.{Encloses, EnclosesAsLoop, LabelKept, encloses, encloses_as_loop, is_labelled, is_while, label_kept}
use Rattle.semantics.specs.Scopes.{InScope, ScopeKept, declared, declares, in_scope, scope_kept}
use Rattle.semantics.specs.Types.{Typing, is_misfit, type_at, typing}
use Rattle.semantics.specs.Flow.{AssignedBefore, assigned_before}
use Rattle.semantics.specs.Rules.{Keeps, keeps}

-- tests in general
itself : (b : Bool) → Decides b (b ≡ true)
itself b = (λ e. e, λ e. e)

never : {P : Type 0} → (P → ⊥) → Decides false P
never none = (λ e. absurd (both_ways false refl e), λ p. absurd (none p))

decides_leb : (a b : ℕ) → Decides (leb a b) (a ≤ b)
decides_leb a b = (leb-true a b, le-leb a b)

implied : {P Q : Type 0} (a b : Bool) → Decides a P → Decides b Q → Decides (not a || b) (P → Q)
implied true b x y = (λ e _. y.0 e, λ f. y.1 (f (x.0 refl)))
implied false b x y = (λ _ p. absurd (both_ways false refl (x.1 p)), λ _. refl)

is_false : (b : Bool) → Decides (not b) (b ≡ false)
is_false true = (λ e. sym e, λ e. sym e)
is_false false = (λ _. refl, λ _. refl)

pub some_decided : (test : ℕ → Bool) (P : ℕ → Type 0) → ((k : ℕ) → Decides (test k) (P k)) → (n : ℕ) → Decides (some_below test n) ((k : ℕ) × (k < n) × P k)
unfolding some_below
some_decided test P each = Decides-below_or test P (some_below test) each refl (λ _. refl)

pub all_decided : (test : ℕ → Bool) (P : ℕ → Type 0) → ((k : ℕ) → Decides (test k) (P k)) → (n : ℕ) → Decides (all_below test n) ((k : ℕ) → k < n → P k)
unfolding all_below
all_decided test P each = Decides-below_and test P (all_below test) each refl (λ _. refl)

-- no number below n, as a search and one by one
none_decided : (test : ℕ → Bool) (P : ℕ → Type 0) → ((k : ℕ) → Decides (test k) (P k)) → (n : ℕ) → Decides (not (some_below test n)) ((k : ℕ) → k < n → P k → ⊥)
none_decided test P each n =
    Decides-like (not (some_below test n)) (λ none k h x. none (k, h, x)) (λ none found. none found.0 found.1 found.2)
    (Decides-not (some_below test n) (some_decided test P each n))

-- which construct it is
labelled_decided : (m : Lab) (c : Construct) → Decides (is_labelled m c) (c ≡ Labelled m)
labelled_decided m (Labelled l) = Decides-like (eqb l.0 m.0) (λ e. ap (λ (n : ℕ). Labelled (record { 0 = n })) e) (λ e. let z : l ≡ m = cc in ap (λ (k : Lab). k.0) z) (Decides-eqb l.0 m.0)
labelled_decided m _ = never (λ e. cc)

pub while_decided : (c : Construct) → Decides (is_while c) (c ≡ While)
while_decided While = (λ _. refl, λ _. refl)
while_decided _ = never (λ e. cc)

block_decided : (c : Construct) → Decides (is_block c) (c ≡ Block)
block_decided Block = (λ _. refl, λ _. refl)
block_decided _ = never (λ e. cc)

pub declares_decided : (y : Loc) (c : Construct) → Decides (declares y c) (c ≡ Declaration y)
declares_decided y (Declaration x) = Decides-like (eqb x.0 y.0) (λ e. ap (λ (n : ℕ). Declaration (record { 0 = n })) e) (λ e. let z : x ≡ y = cc in ap (λ (k : Loc). k.0) z) (Decides-eqb x.0 y.0)
declares_decided y _ = never (λ e. cc)

-- the rule of constructs
meaning_decided : (o : Option Construct) → Decides (is_some o) ((c : Construct) × (o ≡ Some c))
meaning_decided None = never (λ found. let z : None ≡ Some found.0 = found.1 in cc)
meaning_decided (Some c) = (λ _. (c, refl), λ _. refl)

-- the rule of the tree
ends_before_decided : (s : Script) (p q : ℕ) → Decides (ends_before s p q) (EndsBefore s p q)
ends_before_decided s p q =
    Decides-like (ends_before s p q) (λ x. (x.0, x.1.0, x.1.1)) (λ x. (x.0, (x.1, x.2)))
    (Decides-and _ _ (Decides-ltb 0 q) (Decides-and _ _ (Decides-eqb (up s q) (up s p)) (Decides-eqb (end s q) p)))

child_decided : (s : Script) (p : ℕ) → Decides (child s p) (Child s p)
child_decided s p =
    Decides-like (child s p)
    (λ x. record { before = x.0; after = x.1.0; within = x.1.1.0; follows = x.1.1.1 })
    (λ c. (c.before, (c.after, (c.within, c.follows))))
    (Decides-and _ _ (Decides-ltb (up s p) p) (Decides-and _ _ (Decides-ltb p (end s p)) (Decides-and _ _ (decides_leb (end s p) (end s (up s p)))
    (Decides-or _ _ (Decides-eqb p (up s p + 1)) (some_decided (ends_before s p) (EndsBefore s p) (ends_before_decided s p) p)))))

pub placed_decided : (s : Script) (p : ℕ) → Decides (placed s p) (Placed s p)
placed_decided s zero = Decides-and _ _ (Decides-eqb (up s 0) 0) (Decides-eqb (end s 0) (size s))
placed_decided s (suc p) = child_decided s (suc p)

-- the rule of children
in_turn_decided : (s : Script) (q e : ℕ) (sorts : List Sort) → Decides (in_turn s q e sorts) (InTurn s q e sorts)
in_turn_decided s q e [] = Decides-eqb q e
in_turn_decided s q e (sort ∷ sorts) =
    Decides-like (in_turn s q e (sort ∷ sorts)) (λ x. (x.0, x.1.0, x.1.1)) (λ x. (x.0, (x.1, x.2)))
    (Decides-and _ _ (Decides-ltb q e) (Decides-and _ _ (itself (is_of_sort sort (construct s q))) (in_turn_decided s (end s q) e sorts)))

child_fits_decided : (s : Script) (p q : ℕ) → Decides (child_fits s p q) (p < q → up s q ≡ p → is_expression (construct s q) ≡ false)
child_fits_decided s p q =
    Decides-like (child_fits s p q) (λ f h e. f (h, e)) (λ f x. f x.0 x.1)
    (implied _ _ (Decides-and _ _ (Decides-ltb p q) (Decides-eqb (up s q) p)) (is_false (is_expression (construct s q))))

pub no_expression_decided : (s : Script) (p : ℕ) → Decides (all_below (child_fits s p) (end s p)) (NoExpression s p)
no_expression_decided s p =
    all_decided (child_fits s p) (λ q. p < q → up s q ≡ p → is_expression (construct s q) ≡ false) (child_fits_decided s p) (end s p)

children_decided : (s : Script) (p : ℕ) (o : Option (List Sort)) → Decides (children s p o) (Children s p o)
children_decided s p None = no_expression_decided s p
children_decided s p (Some sorts) = in_turn_decided s (p + 1) (end s p) sorts

pub shaped_decided : (s : Script) (p : ℕ) → Decides (shaped s p) (Shaped s p)
shaped_decided s p =
    Decides-and _ _ (children_decided s p (children_of (construct s p)))
    (implied _ _ (Decides-eqb p 0) (block_decided (construct s p)))

-- the rule of labels
pub encloses_decided : (s : Script) (m : Lab) (p x : ℕ) → Decides (encloses s m p x) (Encloses s m p x)
encloses_decided s m p x = Decides-and _ _ (Decides-ltb p (end s x)) (labelled_decided m (construct s x))

pub loop_decided : (s : Script) (m : Lab) (p x : ℕ) → Decides (encloses_as_loop s m p x) (EnclosesAsLoop s m p x)
loop_decided s m p x = Decides-and _ _ (encloses_decided s m p x) (while_decided (construct s (x + 1)))

label_decided : (s : Script) (p : ℕ) (c : Construct) → Decides (label_kept s p c) (LabelKept s p c)
label_decided s p (Labelled l) = none_decided (encloses s l p) (Encloses s l p) (encloses_decided s l p) p
label_decided s p (Break l) = some_decided (encloses s l p) (Encloses s l p) (encloses_decided s l p) p
label_decided s p (Continue l) = some_decided (encloses_as_loop s l p) (EnclosesAsLoop s l p) (loop_decided s l p) p
label_decided s p _ = (λ _. tt, λ _. refl)

-- the rule of scopes
pub in_scope_decided : (s : Script) (y : Loc) (p d : ℕ) → Decides (in_scope s y p d) (InScope s y p d)
in_scope_decided s y p d = Decides-and _ _ (Decides-ltb p (end s (up s d))) (declares_decided y (construct s d))

scope_decided : (s : Script) (p : ℕ) (c : Construct) → Decides (scope_kept s p c) (ScopeKept s p c)
scope_decided s p (Local x) = some_decided (in_scope s x p) (InScope s x p) (in_scope_decided s x p) p
scope_decided s p (Assignment x) = some_decided (in_scope s x p) (InScope s x p) (in_scope_decided s x p) p
scope_decided s p (Declaration x) = none_decided (declared s x) (λ d. construct s d ≡ Declaration x) (λ d. declares_decided x (construct s d)) p
scope_decided s p _ = (λ _. tt, λ _. refl)

-- the rule of types
misfit_decided : (t : Typing) → Decides (is_misfit t) (t ≡ Err Misfit)
misfit_decided (Ok type) = never (λ e. cc)
misfit_decided (Err Misfit) = (λ _. refl, λ _. refl)
misfit_decided (Err Unknown) = never (λ e. cc)

-- the rule of assignment
assigned_decided : (s : Script) (p : ℕ) (c : Construct) → Decides (assigned_before s p c) (AssignedBefore s p c)
assigned_decided s p (Local x) = itself _
assigned_decided s p _ = (λ _. tt, λ _. refl)

pub kept : (r : Rule) (s : Script) (p : ℕ) → Decides (keeps r s p) (Keeps r s p)
kept R.Construct s p = meaning_decided (meaning s p)
kept R.Tree s p = placed_decided s p
kept R.Children s p = shaped_decided s p
kept R.Label s p = label_decided s p (construct s p)
kept R.Scope s p = scope_decided s p (construct s p)
kept R.Type s p = Decides-not _ (misfit_decided (typing s (type_at s) p))
kept R.Assignment s p = assigned_decided s p (construct s p)
