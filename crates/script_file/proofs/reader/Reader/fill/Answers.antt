use Rattle.std.proofs.Common.{length, take, sym, ◌∙◌, add-mul, one-mul, arith}
use Rattle.std.proofs.lemmas.List.{take_more_set}
use Rattle.script_file.proofs.Entries.{after_more}
use Rattle.script_file.proofs.reader.Reader.fill.Goals as goal

pub loop-place-preserved : goal.loop-place-preserved
loop-place-preserved g c =
    let at = g.E.Entry.found c.args.self.now.bytes.now in
    let width = g.E.Entry.width in
    let i = c.loop-place.place-index in
    let table = c.loop-place.table in
    let so_far = c.loop-place.invariant in
    let read = c.in-Ok.ensures in
    let right = rw so_far.moved.bytes at (sym read.value) in
    let next = after_more at width c.loop-place.self.at (length c.args.table.now) i (take i table) (omega arith) right in
    let written = take_more_set table i c.in-Ok.entry (omega arith) in
    record {
      moved = record { bytes = read.moved.bytes ∙ so_far.moved.bytes; at = omega (arith, add-mul i 1 width, one-mul width) };
      left = cc;
    }
