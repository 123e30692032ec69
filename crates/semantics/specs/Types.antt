-- The types of the places: each follows from those of the children, by the rule of its construct.
use Rattle.std.specs.Prelude.{◌≡◌, ℕ, zero, suc, ◌+◌, ◌<◌, Bool, true, false, cond, ◌&&◌, Some, None, Ok, Err, Option, Result, slice_index_or}
use Rattle.java.specs.declared.types.Primitive.{Primitive}
use Rattle.java.specs.declared.types.Primitive.TheVariants as P
use Rattle.java.specs.Subtypes.{same_type}
use Rattle.java.specs.Typing.{unary_type, binary_type}
use Rattle.java.specs.Values.{value_type}
use Rattle.script.specs.declared.sorts.Loc.{Loc}
use Rattle.script.specs.declared.construct.Construct.{Construct}
use Rattle.script.specs.declared.construct.Construct.TheVariants.{Empty, Literal, Local, Unary, Binary, Conditional, Assignment, Reading, Expression, Labelled, Break, Continue, If, While, Block, Declaration}
use Rattle.script.specs.Scripts.{Script}
use Rattle.script.specs.Tables.{size, end, construct}
use Rattle.semantics.specs.declared.typing.TypingFault.{TypingFault}
use Rattle.semantics.specs.declared.typing.TypingFault.TheVariants.{Misfit, Unknown}

-- the type with which a local is declared
unfoldable pub declared_type : Script → Loc → Primitive
declared_type s x = slice_index_or s.locals x.0 P.Boolean

-- what a typing rule says of a node: the type of an expression, and none of a statement or declaration whose rule fits
abbrev pub Typing : Type 0
Typing = Result (Option Primitive) TypingFault

-- what comes of a child's type, and nothing of a child without one
abbrev pub on_type : Option Primitive → (Primitive → Typing) → Typing
on_type None next = Err Unknown
on_type (Some t) next = next t

-- an operator's rule
abbrev pub by_rule : Option Primitive → Typing
by_rule None = Err Misfit
by_rule (Some t) = Ok (Some t)

abbrev pub typed_if : Bool → Primitive → Typing
typed_if fits t = cond fits (Ok (Some t)) (Err Misfit)

abbrev pub fits_if : Bool → Typing
fits_if fits = cond fits (Ok None) (Err Misfit)

-- what the rule of a construct gives on the types of its first, second and third child
abbrev pub typing_of : Script → Option Primitive → Option Primitive → Option Primitive → Construct → Typing
typing_of s a b c Empty = Ok None
typing_of s a b c (Literal v) = Ok (Some (value_type v))
typing_of s a b c (Local x) = Ok (Some (declared_type s x))
typing_of s a b c (Unary o) = on_type a (λ t. by_rule (unary_type o t))
typing_of s a b c (Binary o) = on_type a (λ t. on_type b (λ u. by_rule (binary_type o t u)))
typing_of s a b c Conditional = on_type a (λ t. on_type b (λ u. on_type c (λ w. typed_if (same_type t P.Boolean && same_type u w) u)))
typing_of s a b c (Assignment x) = on_type a (λ t. typed_if (same_type t (declared_type s x)) t)
typing_of s a b c (Reading k) = Ok (Some P.Long)
typing_of s a b c Expression = Ok None
typing_of s a b c (Labelled l) = Ok None
typing_of s a b c (Break l) = Ok None
typing_of s a b c (Continue l) = Ok None
typing_of s a b c If = on_type a (λ t. fits_if (same_type t P.Boolean))
typing_of s a b c While = on_type a (λ t. fits_if (same_type t P.Boolean))
typing_of s a b c Block = Ok None
typing_of s a b c (Declaration x) = Ok None

-- the same at a place, with the type of each place
unfoldable pub typing : Script → (ℕ → Option Primitive) → ℕ → Typing
typing s type p = typing_of s (type (p + 1)) (type (end s (p + 1))) (type (end s (end s (p + 1)))) (construct s p)

-- the type that it gives; a statement has none
abbrev pub type_given : Typing → Option Primitive
type_given (Ok type) = type
type_given (Err why) = None

-- the types of all places are those that the rules give
abbrev pub TypeLaws : Script → (ℕ → Option Primitive) → Type 0
TypeLaws s type = (p : ℕ) → p < size s → type p ≡ type_given (typing s type p)

-- they can be computed: a child stands after its parent, so as many rounds as there are places are enough
unfoldable pub type_after : ℕ → Script → ℕ → Option Primitive
type_after zero s p = None
type_after (suc rounds) s p = type_given (typing s (type_after rounds s) p)

unfoldable pub type_at : Script → ℕ → Option Primitive
type_at s p = type_after (size s) s p

-- all expression children of the node have a type, and no typing rule fits
abbrev pub Misfits : Script → ℕ → Type 0
Misfits s p = typing s (type_at s) p ≡ Err Misfit

abbrev pub is_misfit : Typing → Bool
is_misfit (Ok type) = false
is_misfit (Err Misfit) = true
is_misfit (Err Unknown) = false
