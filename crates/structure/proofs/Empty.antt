-- `{ }` is of good form.
use Rattle.std.proofs.Common.{◌≡◌, true, refl}
use Rattle.script.specs.Tables.{construct, empty_script, end, meaning, node, up}
use Rattle.semantics.specs.Rules.{broken_at, formed}
use Rattle.semantics.specs.Searches.{all_below, lowest_failing, some_below}

pub empty_formed : formed empty_script ≡ true
unfolding broken_at lowest_failing all_below some_below meaning construct node up end
empty_formed = refl
