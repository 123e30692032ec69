use Rattle.std.proofs.Common.{◌≡◌, neg_ℤ, arith, rules, w64, SFits}
use Rattle.std.proofs.lemmas.Int.{to_z-of_z, wrapping_neg_is}
use Rattle.std.specs.Int.{int_wrap}
use Rattle.java.specs.Values.{number}
use Rattle.java.specs.Results.{unary_value}
use Rattle.java.proofs.Lawful.{unary_lawful}
use Rattle.java.proofs.Wrapping.{value_of_wrapped}
use Rattle.java.proofs.operators.Unary.apply.Goals as goal

pub returns-in-Plus-clause-lawful : goal.returns-in-Plus-clause-lawful
returns-in-Plus-clause-lawful c = unary_lawful _ _ _ (search rules) (search rules)

pub returns-in-Complement-clause-lawful : goal.returns-in-Complement-clause-lawful
returns-in-Complement-clause-lawful c = unary_lawful _ _ _ (search rules) (search rules)

pub returns-in-Not-clause-lawful : goal.returns-in-Not-clause-lawful
returns-in-Not-clause-lawful c = unary_lawful _ _ _ (search rules) (search rules)

pub returns-in-Cast-clause-lawful : goal.returns-in-Cast-clause-lawful
returns-in-Cast-clause-lawful c = unary_lawful _ _ _ (search rules) (search rules)

pub returns-in-Minus : goal.returns-in-Minus
returns-in-Minus c =
    let fits : SFits w64 c.wrapping_neg.result = search rules in
    let negated : c.wrapping_neg.result ≡ int_wrap w64 (neg_ℤ (number c.args.operand)) = grind (arith, to_z-of_z, wrapping_neg_is) in
    let given = simp to_z-of_z at c.at_promoted-in-Minus.ensures in
    let value : c.at_promoted-in-Minus.result ≡ unary_value c.args.self c.args.operand = rw c.in-Minus.is (simp (negated, value_of_wrapped) at given) in
    record { value = value; lawful = unary_lawful _ _ _ (search rules) value }
