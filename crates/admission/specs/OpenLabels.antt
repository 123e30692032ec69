-- The last statement of a label is the only one that can be open, so the test by where it was seen is the rule of labels.
use Rattle.std.proofs.Common.{◌≡◌, ℕ, ◌+◌, ◌<◌, ◌≤◌, Bool, true, false, cond, not, ◌&&◌, ltb, length, is_some, Some, None, Option, refl, ap, ◌∙◌, subst, arith}
use Rattle.std.proofs.lemmas.Bool.{and_from, and_parts, lt-ltb, ltb-true}
use Rattle.script.specs.declared.sorts.Lab.{Lab}
use Rattle.script.specs.declared.sorts.Pos.{Pos}
use Rattle.script.specs.declared.construct.Construct.{Construct}
use Rattle.script.specs.declared.construct.Construct.TheVariants.{Labelled, Break, Continue}
use Rattle.script.specs.Constructs.{InSection}
use Rattle.script.specs.Scripts.{Script}
use Rattle.script.specs.Tables.{construct, end, script_of}
use Rattle.script.proofs.Sections.{sections}
use Rattle.semantics.specs.declared.fault.Rule.TheVariants as R
use Rattle.semantics.specs.Labels.{Encloses, EnclosesAsLoop, LabelKept, encloses, encloses_as_loop, is_while, label_kept}
use Rattle.semantics.specs.Searches.{some_below}
use Rattle.semantics.proofs.Decided.{encloses_decided, kept, loop_decided, while_decided}
use Rattle.admission.specs.declared.spot.Spot.{Spot}
use Rattle.admission.specs.Names.{in_loop_at, label_in, label_test, last_at, open_at, still_open}
use Rattle.admission.specs.Seen.{Passed, TestsRule, seen_and, seen_finds}

labelled : (c : Construct) (n : ℕ) → label_in c ≡ Some n → c ≡ Labelled (record { 0 = n })
labelled c n e = grind arith

abbrev label_at : Script → ℕ → Option ℕ
label_at s q = label_in (construct s q)

module _ (spot : Spot) where
  abbrev s : Script
  s = script_of spot.table

  abbrev p : ℕ
  p = spot.place.0

  -- the place stands inside the statement at x
  abbrev inside : ℕ → Bool
  inside x = ltb x p && ltb p (end s x)

  abbrev inside_loop : ℕ → Bool
  inside_loop x = inside x && is_while (construct s (x + 1))

  whether_open : (o : Option Pos) → is_some (still_open s p o) ≡ seen_and inside o
  whether_open o = grind arith

  whether_loop : (o : Option Pos) → seen_and (λ x. is_while (construct s (x + 1))) (still_open s p o) ≡ seen_and inside_loop o
  whether_loop None = refl
  whether_loop (Some x) = whichever (inside x.0)
    where
      whichever : (b : Bool) → seen_and (λ x. is_while (construct s (x + 1))) (cond b (Some x) None) ≡ (b && is_while (construct s (x.0 + 1)))
      whichever true = refl
      whichever false = refl

  module _ (passed : Passed R.Label label_in s spot.latest.now.places p) where
    alone : (l : Lab) (x y : ℕ) → x < y → y < p → label_at s y ≡ Some l.0 → Encloses s l p x → ⊥
    alone l x y i j named e =
        let apart = subst (LabelKept s y) (labelled (construct s y) l.0 named) ((kept R.Label s y).0 (passed.kept y j)) in
        apart x i (omega (arith, e.0), e.1)

    open_as : (l : Lab) → l.0 < 64 → is_some (open_at spot l.0) ≡ some_below (encloses s l p) p
    open_as l small =
        whether_open (last_at spot l.0)
        ∙ seen_finds (label_at s) l.0 p inside (encloses s l p) (Encloses s l p) (encloses_decided s l p)
        (λ x named t. (ltb-true p (end s x) (and_parts _ _ t).1, labelled (construct s x) l.0 named))
        (λ x h e. (ap label_in e.1, and_from _ _ (lt-ltb x p h) (lt-ltb p (end s x) e.0)))
        (alone l)
        (last_at spot l.0) (passed.seen l.0 small)

    in_loop_as : (l : Lab) → l.0 < 64 → in_loop_at spot l.0 ≡ some_below (encloses_as_loop s l p) p
    in_loop_as l small =
        whether_loop (last_at spot l.0)
        ∙ seen_finds (label_at s) l.0 p inside_loop (encloses_as_loop s l p) (EnclosesAsLoop s l p) (loop_decided s l p)
        (λ x named t.
        let parts = and_parts _ _ t in
        ((ltb-true p (end s x) (and_parts _ _ parts.0).1, labelled (construct s x) l.0 named), (while_decided (construct s (x + 1))).0 parts.1))
        (λ x h e. (ap label_in e.0.1, and_from _ _ (and_from _ _ (lt-ltb x p h) (lt-ltb p (end s x) e.0.0)) ((while_decided (construct s (x + 1))).1 e.1)))
        (λ x y i j named e. alone l x y i j named e.0)
        (last_at spot l.0) (passed.seen l.0 small)

    test_of : (c : Construct) → InSection (length s.locals) s.labels c → s.labels ≤ 32 → label_test spot c ≡ label_kept s p c
    test_of (Labelled l) h few = ap not (open_as l (omega arith))
    test_of (Break l) h few = open_as l (omega arith)
    test_of (Continue l) h few = in_loop_as l (omega arith)
    test_of _ h few = refl

pub label_decides : TestsRule R.Label label_in label_test
label_decides spot passed =
    test_of spot passed (construct (script_of spot.table) spot.place.0) (sections (script_of spot.table) spot.place.0) spot.table.few_labels
