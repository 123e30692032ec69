use Rattle.std.proofs.Common.{◌≡◌, ◌<◌, ◌≤◌, ◌∷◌, length, sym, ap, ◌∙◌, rules, arith}
use Rattle.std.proofs.lemmas.Bool.Decides.{nat_tests}
use Rattle.script.specs.declared.construct.Construct.{Construct}
use Rattle.script.specs.Tables.{end, script_of, up}
use Rattle.structure.specs.Children.{children_from}
use Rattle.structure.proofs.Siblings.{known, moved, none_left, one_more}
use Rattle.structure.proofs.children.ChildrenIterator.next.Goals as goal

pub invariant_of-self : goal.invariant_of-self
invariant_of-self c =
    let old = c.args.self.now in
    let s = script_of old.tree.table in
    let within : old.at.0 < end s old.parent.0 = grind (arith, nat_tests) in
    let m = moved s (known old.tree) old.parent.0 old.at.0 old.inside old.behind within (old.next_child within) in
    let here : c.end-self.result.0 ≡ end s old.at.0 = c.end-self.ensures in
    record { inside = old.inside; behind = omega (arith, m.0); within = omega (arith, m.1); next_child = λ h. ap (up s) here ∙ m.2 (omega (arith, h)) }

pub returns-then-ge-clause-steps : goal.returns-then-ge-clause-steps
returns-then-ge-clause-steps c =
    let old = c.args.self.now in
    let past : end (script_of old.tree.table) old.parent.0 ≤ old.at.0 = grind (arith, nat_tests) in
    let none = none_left (script_of old.tree.table) (known old.tree) old.parent.0 old.at.0 past in
    (none, none)

pub returns-clause-steps : goal.returns-clause-steps
returns-clause-steps c =
    let old = c.args.self.now in
    let s = script_of old.tree.table in
    let within : old.at.0 < end s old.parent.0 = grind (arith, nat_tests) in
    one_more s (known old.tree) old.parent.0 old.at.0 old.inside old.behind within (old.next_child within)
    ∙ ap (λ (child : Construct). child ∷ children_from s old.parent.0 (end s old.at.0)) (sym c.construct.ensures)
    ∙ ap (λ q. c.construct.result ∷ children_from s old.parent.0 q) (sym c.end-self.ensures)

pub returns-clause-goes : goal.returns-clause-goes
returns-clause-goes c =
    let old = c.args.self.now in
    let s = script_of old.tree.table in
    let fewer : length (children_from s old.parent.0 c.end-self.result.0) < length (children_from s old.parent.0 old.at.0) =
    omega (arith, ap length (returns-clause-steps c)) in
    search rules
