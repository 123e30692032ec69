-- The entries written so far, with those that are left, are all entries.
use Rattle.std.proofs.Common.{◌≡◌, ◌-◌, ◌*◌, length, take}
use Rattle.script_file.specs.Reading.{entries}
use Rattle.script_file.specs.Steps.{Moves}
use Rattle.script_file.proofs.Entries.{after}
use Rattle.script_file.proofs.reader.Reader.fill.Given as goal

abbrev pub invariant-loop-place : goal.invariant-loop-place
invariant-loop-place g l =
    let at = g.E.Entry.found l.fn.self.bytes.now in
    let width = g.E.Entry.width in
    let n = length l.initial.table in
    record {
      moved : Moves l.fn.self l.self (l.place-index * width);
      left : entries at width l.fn.self.at n ≡ after (take l.place-index l.table) (entries at width l.self.at (n - l.place-index));
    }
