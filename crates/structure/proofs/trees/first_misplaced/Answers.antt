use Rattle.std.proofs.Common.{ℕ, ◌+◌, ◌<◌, ◌≤◌, List, set, sym, ap, ◌∙◌, subst, arith, rules}
use Rattle.script.specs.declared.sorts.Pos.{Pos}
use Rattle.script.specs.Tables.{end, script_of, size}
use Rattle.semantics.specs.declared.fault.Rule.TheVariants as R
use Rattle.semantics.proofs.Tested.{breaks_here, breaks_nowhere}
use Rattle.structure.proofs.Awaited.{Awaits, agrees, one_passed}
use Rattle.structure.proofs.trees.first_misplaced.Goals as goal

pub returns-then-not-is_in_place : goal.returns-then-not-is_in_place
returns-then-not-is_in_place c =
    let s = script_of c.args.table.now in
    let h : c.loop-p.p < size s = omega arith in
    breaks_here R.Tree s c.loop-p.p h
    (sym (agrees s c.loop-p.next c.loop-p.p c.loop-p.invariant (omega arith)) ∙ sym c.is_in_place.ensures ∙ c.if-not-is_in_place.true) c.loop-p.invariant.kept

pub loop-p-preserved : goal.loop-p-preserved
loop-p-preserved c =
    let s = script_of c.args.table.now in
    let p = c.loop-p.p in
    let next = c.loop-p.next in
    let h : p < size s = omega arith in
    let small : size s ≤ 1024 = search rules in
    let here = sym (agrees s next p c.loop-p.invariant (omega arith)) ∙ sym c.is_in_place.ensures ∙ c.if-not-is_in_place.false in
    subst (λ (l : List Pos). Awaits s (set l p (record { 0 = p + 1 })) (p + 1))
    (ap (λ (u : ℕ). set next u (record { 0 = end s p })) (sym c.up.ensures) ∙ ap (λ (e : ℕ). set next c.up.result.0 (record { 0 = e })) (sym c.end.ensures))
    (one_passed s next p c.loop-p.invariant h small here)

pub returns : goal.returns
returns c = breaks_nowhere R.Tree (script_of c.args.table.now) c.loop-p.p (omega arith) c.loop-p.invariant.kept
