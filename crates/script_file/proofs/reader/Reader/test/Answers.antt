use Rattle.std.proofs.Common.{sym, ◌∙◌, add-mul, one-mul, arith}
use Rattle.script_file.proofs.Entries.{tested_more}
use Rattle.script_file.proofs.reader.Reader.test.Goals as goal

pub loop-preserved : goal.loop-preserved
loop-preserved g c =
    let at = g.E.Entry.found c.args.self.now.bytes.now in
    let width = g.E.Entry.width in
    let so_far = c.loop.invariant in
    let read = c.in_ok-read.ensures in
    let right = rw so_far.moved.bytes at (sym read.value) in
    let next = tested_more at width c.loop.self.at c.args.n c.loop.counter c.loop-test.true right in
    record {
      moved = record { bytes = read.moved.bytes ∙ so_far.moved.bytes; at = omega (arith, add-mul c.loop.counter 1 width, one-mul width) };
      left = cc;
    }
