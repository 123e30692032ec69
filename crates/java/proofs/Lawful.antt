-- What the operators give keeps to all the laws.
use Rattle.std.proofs.Common.{◌≡◌, Option, Result}
use Rattle.java.specs.declared.values.Value.{Value}
use Rattle.java.specs.declared.operators.Unary.{Unary}
use Rattle.java.specs.declared.operators.Binary.{Binary}
use Rattle.java.specs.declared.results.NoValue.{NoValue}
use Rattle.java.specs.Values.{InRange}
use Rattle.java.specs.Results.{unary_value, binary_value}
use Rattle.java.specs.Laws.{UnaryLawful, BinaryLawful}
use Rattle.java.proofs.Bits.{low_count, bit_by_bit}
use Rattle.java.proofs.Comparing.{equivalence, strict_order}
use Rattle.java.proofs.DivisionLaw.{divided}
use Rattle.java.proofs.Ranges.{wrapped_unique}
use Rattle.java.proofs.Typed.{unary_typed, cast_unique, widened, binary_typed}

pub unary_lawful : (o : Unary) (v : Value) (r : Option Value) → InRange v → r ≡ unary_value o v → UnaryLawful o v r
unary_lawful o v r range e = rw e (record {
  typed = unary_typed o v;
  cast = cast_unique o v;
  widened = widened o v range;
  wrapped_unique = wrapped_unique;
})

pub binary_lawful : (o : Binary) (l r : Value) (x : Result Value NoValue) → InRange l → x ≡ binary_value o l r → BinaryLawful o l r x
binary_lawful o l r x range e = rw e (record {
  typed = binary_typed o l r;
  divided = divided l r range;
  equivalence = equivalence;
  strict_order = strict_order;
  low_count = low_count;
  bit_by_bit = bit_by_bit;
})
