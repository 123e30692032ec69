-- Labels: where a label may stand, and where a break and a continue may.
use Rattle.std.specs.Prelude.{◌≡◌, ℕ, ◌+◌, ◌<◌, Bool, true, false, not, ◌&&◌, ◌==◌, nat_lt}
use Rattle.script.specs.declared.sorts.Lab.{Lab}
use Rattle.script.specs.declared.construct.Construct.{Construct}
use Rattle.script.specs.declared.construct.Construct.TheVariants.{Labelled, Break, Continue, While}
use Rattle.script.specs.Scripts.{Script}
use Rattle.script.specs.Tables.{end, construct}
use Rattle.semantics.specs.Searches.{some_below}

-- x is a statement of the label l that p stands inside
abbrev pub Encloses : Script → Lab → ℕ → ℕ → Type 0
Encloses s l p x = (p < end s x) × (construct s x ≡ Labelled l)

-- the same, where the label stands directly on a while
abbrev pub EnclosesAsLoop : Script → Lab → ℕ → ℕ → Type 0
EnclosesAsLoop s l p x = Encloses s l p x × (construct s (x + 1) ≡ While)

-- by the construct at p: a label is not inside a statement of the same label; a break is inside one, and a continue inside
-- one that is a loop
abbrev pub LabelKept : Script → ℕ → Construct → Type 0
LabelKept s p (Labelled l) = (x : ℕ) → x < p → Encloses s l p x → ⊥
LabelKept s p (Break l) = (x : ℕ) × (x < p) × Encloses s l p x
LabelKept s p (Continue l) = (x : ℕ) × (x < p) × EnclosesAsLoop s l p x
LabelKept s p _ = Unit {0}

-- the same as a test
abbrev pub is_labelled : Lab → Construct → Bool
is_labelled m (Labelled l) = l.0 == m.0
is_labelled m _ = false

abbrev pub is_while : Construct → Bool
is_while While = true
is_while _ = false

abbrev pub encloses : Script → Lab → ℕ → ℕ → Bool
encloses s l p x = nat_lt p (end s x) && is_labelled l (construct s x)

abbrev pub encloses_as_loop : Script → Lab → ℕ → ℕ → Bool
encloses_as_loop s l p x = encloses s l p x && is_while (construct s (x + 1))

abbrev pub label_kept : Script → ℕ → Construct → Bool
label_kept s p (Labelled l) = not (some_below (encloses s l p) p)
label_kept s p (Break l) = some_below (encloses s l p) p
label_kept s p (Continue l) = some_below (encloses_as_loop s l p) p
label_kept s p _ = true
