-- What is left to test decides.
use Rattle.std.proofs.Common.{◌≡◌, ◌-◌, ◌*◌}
use Rattle.script_file.specs.Reading.{entries}
use Rattle.script_file.specs.Steps.{Moves, tested}
use Rattle.script_file.proofs.reader.Reader.test.Given as goal

abbrev pub invariant-loop : goal.invariant-loop
invariant-loop g l =
    let at = g.E.Entry.found l.fn.self.bytes.now in
    let width = g.E.Entry.width in
    record {
      moved : Moves l.fn.self l.self (l.counter * width);
      left : tested (entries at width l.fn.self.at l.n) ≡ tested (entries at width l.self.at (l.n - l.counter));
    }
