use Rattle.std.proofs.Common.{length, sym, ap, ◌∙◌}
use Rattle.script_file.specs.Reading.{mapped}
use Rattle.script_file.proofs.Sections.{section_miscounted, section_wrong, section_right}
use Rattle.script_file.proofs.Then.{handed_on}
use Rattle.script_file.proofs.reader.Reader.section.Goals as goal

pub returns-in_err-n-clause-value : goal.returns-in_err-n-clause-value
returns-in_err-n-clause-value g c =
    let a = c.args in
    let none = section_miscounted a.self.now.bytes.now g.E.Entry.found g.E.Entry.width a.self.now.at a.limits.least a.limits.most (sym c.in_err-n.ensures.value) in
    handed_on c.from_residual.result _ c.from_residual.ensures.1 ∙ sym (ap (mapped length) none)

pub returns-in_err-test-clause-value : goal.returns-in_err-test-clause-value
returns-in_err-test-clause-value g c =
    let a = c.args in
    let exit = c.from_residual-in_err-test in
    let counted = c.in_ok-n.ensures in
    let wrong = rw (counted.moved.bytes, counted.moved.at) at (sym c.in_err-test.ensures.value) in
    let none = section_wrong a.self.now.bytes.now g.E.Entry.found g.E.Entry.width a.self.now.at a.limits.least a.limits.most (sym counted.value) wrong in
    handed_on exit.result _ exit.ensures.1 ∙ sym (ap (mapped length) none)

pub returns-clause-value : goal.returns-clause-value
returns-clause-value g c =
    let a = c.args in
    let counted = c.in_ok-n.ensures in
    let right = rw (counted.moved.bytes, counted.moved.at) at (sym c.in_ok-test.ensures.value) in
    sym (section_right a.self.now.bytes.now g.E.Entry.found g.E.Entry.width a.self.now.at a.limits.least a.limits.most (sym counted.value) right)
