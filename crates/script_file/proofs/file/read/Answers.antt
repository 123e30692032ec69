use Rattle.std.proofs.Common.{◌≡◌, ◌+◌, length, take, drop, is_ok, ap, sym, ◌∙◌, subst, arith}
use Rattle.std.proofs.lemmas.List.{drop_at, length-take-le, take_at}
use Rattle.script_file.specs.Laws.{Lawful}
use Rattle.script_file.specs.Reading.{entries, node_at, type_at}
use Rattle.script_file.proofs.file.read.Goals as goal
use Rattle.script_file.proofs.file.read.Goals.{After-skip, After-skip-2}

-- the entries from where the reader stands, as many as the front of the table has, are those that were tested
types_there : (c : After-skip) → let z = c.in_ok-sizes.sizes in
    entries (type_at c.skip.new.self.bytes.now) 1 c.skip.new.self.at (length (take z.locals c.args.types.now))
    ≡ entries (type_at c.args.bytes.now) 1 2 z.locals
types_there c =
    let at : c.skip.new.self.at ≡ 2 = omega arith in
    let long = length-take-le c.in_ok-sizes.sizes.locals c.args.types.now c.in_ok-sizes.ensures.readable.types_fit in
    rw (c.skip.ensures.bytes, c.new-reader.ensures.bytes, at, long)

nodes_there : (c : After-skip-2) → let z = c.in_ok-sizes.sizes in
    entries (node_at c.skip-2.new.self.bytes.now) 14 c.skip-2.new.self.at (length (take z.nodes c.args.nodes.now))
    ≡ entries (node_at c.args.bytes.now) 14 (6 + z.locals) z.nodes
nodes_there c =
    let z = c.in_ok-sizes.sizes in
    let ready = c.in_ok-sizes.ensures.readable in
    let before = length-take-le z.locals c.args.types.now ready.types_fit in
    let at : c.skip-2.new.self.at ≡ 6 + z.locals = omega arith in
    let long = length-take-le z.nodes c.args.nodes.now ready.nodes_fit in
    rw (c.skip-2.ensures.bytes, c.fill.ensures.moved.bytes, c.skip.ensures.bytes, c.new-reader.ensures.bytes, at, long)

pub fill-requires-clause-right : goal.fill-requires-clause-right
fill-requires-clause-right c =
    ap is_ok (types_there (goal.at.fill-requires-clause-right c).After-skip) ∙ c.in_ok-sizes.ensures.readable.types_right

pub fill-requires-2-clause-right : goal.fill-requires-2-clause-right
fill-requires-2-clause-right c =
    ap is_ok (nodes_there (goal.at.fill-requires-2-clause-right c).After-skip-2) ∙ c.in_ok-sizes.ensures.readable.nodes_right

pub returns : goal.returns
returns c =
    let at = goal.at.returns c in
    let z = c.in_ok-sizes.sizes in
    let tested = c.in_ok-sizes.ensures in
    let types = c.args.types.now in
    let nodes = c.args.nodes.now in
    let written = sym (types_there at.After-skip) ∙ c.fill.ensures.written in
    let put = sym (nodes_there at.After-skip-2) ∙ c.fill-2.ensures.written in
    let long = c.fill.auto.table ∙ length-take-le z.locals types tested.readable.types_fit in
    let long-2 = c.fill-2.auto.table ∙ length-take-le z.nodes nodes tested.readable.nodes_fit in
    let whole = rw (
      ← take_at c.fill.new.table (drop z.locals types) z.locals long,
      ← take_at c.fill-2.new.table (drop z.nodes nodes) z.nodes long-2,
    ) at (tested.readable.whole c.fill.new.table c.fill-2.new.table written put) in
    record {
      value = tested.value;
      tables = (whole, drop_at c.fill.new.table _ z.locals long, drop_at c.fill-2.new.table _ z.nodes long-2);
      lawful = subst (Lawful (length types) (length nodes) c.args.bytes.now) whole tested.lawful;
    }
