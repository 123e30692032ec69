use Rattle.std.proofs.Common.{sym}
use Rattle.script_file.proofs.Answer.{answer_readable, lawful}
use Rattle.script_file.proofs.Bytes.{octets}
use Rattle.script_file.proofs.file.tested_sizes.Goals as goal

pub returns-in_err-sizes-clause-lawful : goal.returns-in_err-sizes-clause-lawful
returns-in_err-sizes-clause-lawful c = lawful c.args.types c.args.nodes c.args.bytes.now (octets _ c.type_inv.bytes)

pub returns-then-types-sizes-clause-lawful : goal.returns-then-types-sizes-clause-lawful
returns-then-types-sizes-clause-lawful c = lawful c.args.types c.args.nodes c.args.bytes.now (octets _ c.type_inv.bytes)

pub returns-clause-readable : goal.returns-clause-readable
returns-clause-readable c =
    let bs = c.args.bytes.now in
    answer_readable c.args.types c.args.nodes bs (octets bs c.type_inv.bytes) c.in_ok-sizes.sizes (sym c.in_ok-sizes.ensures) c.if-types-sizes.false c.if-nodes-sizes.false

pub returns-clause-lawful : goal.returns-clause-lawful
returns-clause-lawful c = lawful c.args.types c.args.nodes c.args.bytes.now (octets _ c.type_inv.bytes)
