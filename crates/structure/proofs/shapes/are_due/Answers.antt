use Rattle.std.proofs.Common.{not, sym, refl, ap, ◌∙◌, rules}
use Rattle.std.proofs.lemmas.Iterator.Consumers.{YieldsList-from_first}
use Rattle.std.proofs.lemmas.Iterator.Search.{any_from_yields_List}
use borrow.Author.Tests.{tests}
use Rattle.script.specs.declared.construct.Construct.{Construct}
use Rattle.script.specs.Children.{is_expression}
use Rattle.structure.specs.Children.{are_due, children_left}
use Rattle.structure.proofs.shapes.are_due.Goals as goal

pub returns-in-None : goal.returns-in-None
returns-in-None c =
    let left = children_left c.args.children in
    ap not
    (any_from_yields_List is_expression c.any.new.self _ c.any.result c.any.ensures.ran
    (YieldsList-from_first (λ (child : Construct). child) children_left left refl)
    (λ x b q k. search (rules, tests)))
    ∙ ap (are_due left) (sym c.in-None.ensures)
