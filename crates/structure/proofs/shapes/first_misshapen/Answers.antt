use Rattle.std.proofs.Common.{◌≡◌, rules}
use Rattle.std.proofs.lemmas.Iterator.{first_from_Range}
use borrow.Author.Tests.{tests}
use Rattle.script.specs.Tables.{script_of}
use Rattle.semantics.specs.declared.fault.Rule.TheVariants as R
use Rattle.semantics.specs.Rules.{broken_at}
use Rattle.semantics.proofs.Tested.{found_first}
use Rattle.structure.proofs.shapes.first_misshapen.Goals as goal

pub returns : goal.returns
returns c =
    let s = script_of c.args.tree.table in
    let first : c.find.result ≡ broken_at R.Children s =
    found_first R.Children s c.find.result _ c.size.ensures
    (first_from_Range _ _ _ c.find.result _ _ c.find.ensures.ran (λ x q k. search (rules, tests)) (λ x q k. search (rules, tests))) in
    search rules
