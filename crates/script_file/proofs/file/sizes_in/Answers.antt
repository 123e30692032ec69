use Rattle.std.proofs.Common.{◌≡◌, ◌+◌, ◌*◌, length, sym, ◌∙◌, arith}
use Rattle.script_file.specs.Reading.{end_at, labels_in, locals_in, mapped, nodes_in}
use Rattle.script_file.proofs.Sections.{locals_wrong, labels_wrong, nodes_wrong, end_wrong, all_right}
use Rattle.script_file.proofs.Then.{handed_on}
use Rattle.script_file.proofs.file.sizes_in.Goals as goal
use Rattle.script_file.proofs.file.sizes_in.Goals.{After-section, After-count, After-section-2, After-end}

-- what each call found, said of the file
locals_read : (c : After-section) → mapped length (locals_in c.args.bytes.now) ≡ c.section.result
locals_read c = rw (c.new-reader.ensures.bytes, c.new-reader.ensures.at) at (sym c.section.ensures.value)

labels_read : (c : After-count) → labels_in c.args.bytes.now c.in_ok-locals.locals ≡ c.count.result
labels_read c =
    let moved = c.in_ok-locals.ensures.moved in
    let at : c.section.new.self.at ≡ 2 + c.in_ok-locals.locals = omega arith in
    rw (moved.bytes, c.new-reader.ensures.bytes, at) at (sym c.count.ensures.value)

nodes_read : (c : After-section-2) → mapped length (nodes_in c.args.bytes.now c.in_ok-locals.locals) ≡ c.section-2.result
nodes_read c =
    let moved = c.in_ok-locals.ensures.moved in
    let again = c.in_ok-labels.ensures.moved in
    let at : c.count.new.self.at ≡ 4 + c.in_ok-locals.locals = omega arith in
    rw (again.bytes, moved.bytes, c.new-reader.ensures.bytes, at) at (sym c.section-2.ensures.value)

end_read : (c : After-end) → end_at c.args.bytes.now (6 + c.in_ok-locals.locals + c.in_ok-nodes.nodes * 14) ≡ c.end.result
end_read c =
    let moved = c.in_ok-locals.ensures.moved in
    let again = c.in_ok-labels.ensures.moved in
    let last = c.in_ok-nodes.ensures.moved in
    let at : c.section-2.new.self.at ≡ 6 + c.in_ok-locals.locals + c.in_ok-nodes.nodes * 14 = omega arith in
    rw (last.bytes, again.bytes, moved.bytes, c.new-reader.ensures.bytes, at) at (sym c.end.ensures)

pub returns-in_err-locals : goal.returns-in_err-locals
returns-in_err-locals c =
    let wrong = locals_read (goal.at.returns-in_err-locals c).After-section ∙ c.in_err-locals.was in
    handed_on c.from_residual.result _ c.from_residual.ensures.1 ∙ sym (locals_wrong c.args.bytes.now wrong)

pub returns-in_err-labels : goal.returns-in_err-labels
returns-in_err-labels c =
    let exit = c.from_residual-in_err-labels in
    let at = goal.at.returns-in_err-labels c in
    let locals = locals_read at.After-section ∙ c.in_ok-locals.was in
    let wrong = labels_read at.After-count ∙ c.in_err-labels.was in
    handed_on exit.result _ exit.ensures.1 ∙ sym (labels_wrong c.args.bytes.now locals wrong)

pub returns-in_err-nodes : goal.returns-in_err-nodes
returns-in_err-nodes c =
    let exit = c.from_residual-in_err-nodes in
    let at = goal.at.returns-in_err-nodes c in
    let locals = locals_read at.After-section ∙ c.in_ok-locals.was in
    let labels = labels_read at.After-count ∙ c.in_ok-labels.was in
    let wrong = nodes_read at.After-section-2 ∙ c.in_err-nodes.was in
    handed_on exit.result _ exit.ensures.1 ∙ sym (nodes_wrong c.args.bytes.now locals labels wrong)

pub returns-in_err-end : goal.returns-in_err-end
returns-in_err-end c =
    let exit = c.from_residual-in_err-end in
    let at = goal.at.returns-in_err-end c in
    let locals = locals_read at.After-section ∙ c.in_ok-locals.was in
    let labels = labels_read at.After-count ∙ c.in_ok-labels.was in
    let nodes = nodes_read at.After-section-2 ∙ c.in_ok-nodes.was in
    let wrong = end_read at.After-end ∙ c.in_err-end.was in
    handed_on exit.result _ exit.ensures.1 ∙ sym (end_wrong c.args.bytes.now locals labels nodes wrong)

pub returns : goal.returns
returns c =
    let at = goal.at.returns c in
    let locals = locals_read at.After-section ∙ c.in_ok-locals.was in
    let labels = labels_read at.After-count ∙ c.in_ok-labels.was in
    let nodes = nodes_read at.After-section-2 ∙ c.in_ok-nodes.was in
    let right = end_read at.After-end ∙ c.in_ok-end.was in
    sym (all_right c.args.bytes.now locals labels nodes right)
