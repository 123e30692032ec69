-- The lines that are printed: an expression as Java writes it, and what our definitions give for it.
use Rattle.std.specs.Prelude.{ℕ, List, [], ◌++◌, Ok, Err, codes, Result}
use Rattle.std.specs.Option.{ok_or}
use Rattle.java.specs.declared.types.Primitive.{Primitive}
use Rattle.java.specs.declared.types.Primitive.TheVariants as P
use Rattle.java.specs.declared.values.Value.{Value}
use Rattle.java.specs.declared.operators.Unary.{Unary}
use Rattle.java.specs.declared.operators.Binary.{Binary}
use Rattle.java.specs.declared.results.NoValue.{NoValue}
use Rattle.java.specs.declared.results.NoValue.TheVariants.{Untyped}
use Rattle.java.specs.Types.{type_name}
use Rattle.java.specs.Values.{value_type, value_text}
use Rattle.java.specs.Operators.{unary_symbol, binary_symbol}
use Rattle.java.specs.Results.{unary_value, binary_value, no_value_text}

-- what follows a number of this type in Java
abbrev pub suffix : Primitive → List ℕ
suffix P.Long = codes "L"
suffix _ = []

abbrev pub operand_text : Value → List ℕ
operand_text v = codes "(" ++ (type_name (value_type v) ++ (codes ") " ++ (value_text v ++ suffix (value_type v))))

abbrev pub outcome : Result Value NoValue → List ℕ
outcome (Ok v) = operand_text v
outcome (Err e) = no_value_text e

-- a unary operator has no value for one reason only
abbrev pub unary_line : Unary → Value → List ℕ
unary_line o v = unary_symbol o ++ (operand_text v ++ (codes " = " ++ outcome (ok_or (unary_value o v) Untyped)))

abbrev pub binary_line : Binary → Value → Value → List ℕ
binary_line o l r = operand_text l ++ (codes " " ++ (binary_symbol o ++ (codes " " ++ (operand_text r ++ (codes " = " ++ outcome (binary_value o l r))))))
