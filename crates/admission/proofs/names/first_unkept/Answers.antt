use Rattle.std.proofs.Common.{ap, ◌∙◌, arith}
use Rattle.semantics.specs.Rules.{first_broken}
use Rattle.semantics.proofs.Tested.{breaks_here, breaks_nowhere}
use Rattle.admission.proofs.Passing.{none_passed, one_passed, tested_here}
use Rattle.admission.proofs.names.first_unkept.Goals as goal

pub loop-p-init : goal.loop-p-init
loop-p-init g c = none_passed _ _ _ _ c.new-latest.ensures

pub returns-then-not-is_kept : goal.returns-then-not-is_kept
returns-then-not-is_kept g c =
    let here = tested_here _ _ g.R.NameRule.is_kept g.met.R.NameRule.decides _ _ _ c.loop-p.invariant c.construct-construct.ensures c.is_kept.ensures in
    breaks_here _ _ _ (omega arith) (here ∙ c.if-not-is_kept.true) c.loop-p.invariant.kept
    ∙ ap (first_broken g.R.NameRule.rule) c.table-table.ensures

pub loop-p-preserved : goal.loop-p-preserved
loop-p-preserved g c =
    let here = tested_here _ _ g.R.NameRule.is_kept g.met.R.NameRule.decides _ _ _ c.loop-p.invariant c.construct-construct.ensures c.is_kept.ensures in
    let name = c.introduced.ensures ∙ ap g.R.NameRule.introduced c.construct-construct.ensures in
    rw c.see.ensures (one_passed _ _ _ _ _ c.loop-p.invariant _ name (here ∙ c.if-not-is_kept.false))

pub returns : goal.returns
returns g c =
    breaks_nowhere _ _ c.loop-p.p (omega arith) c.loop-p.invariant.kept
    ∙ ap (first_broken g.R.NameRule.rule) c.table-table.ensures
