-- What a node stands for: the table of kinds, with the detail and number that each kind may have.
use Rattle.std.specs.Prelude.{ℕ, ◌<◌, Bool, true, false, cond, ◌&&◌, ℤ, pos, negsuc, Some, None, Option, ◌==◌, nat_lt}
use Rattle.std.specs.Option.{option_map}
use Rattle.java.specs.declared.types.Primitive.{Primitive}
use Rattle.java.specs.declared.types.Primitive.TheVariants as P
use Rattle.java.specs.Types.{type_of}
use Rattle.java.specs.Values.{new_value}
use Rattle.java.specs.Operators.{unary_of, binary_of}
use Rattle.java.specs.Results.{is_zero}
use Rattle.script.specs.declared.kind.Kind.{Kind}
use Rattle.script.specs.declared.kind.Kind.TheVariants as K
use Rattle.script.specs.declared.construct.Construct.{Construct}
use Rattle.script.specs.declared.construct.Construct.TheVariants.{Empty, Literal, Local, Unary, Binary, Conditional, Assignment, Reading, Expression, Labelled, Break, Continue, If, While, Block, Declaration}
use Rattle.script.specs.declared.node.Node.{Node}
use Rattle.script.specs.Kinds.{kind_of}

-- a number that counts from 0 and stays below a limit
abbrev pub index_below : ℕ → ℤ → Option ℕ
index_below limit (pos n) = cond (nat_lt n limit) (Some n) None
index_below limit (negsuc n) = None

-- the types of which there are literals
abbrev pub has_literals : Primitive → Bool
has_literals P.Boolean = true
has_literals P.Byte = false
has_literals P.Short = false
has_literals P.Char = true
has_literals P.Int = true
has_literals P.Long = true

-- where the detail has no meaning
abbrev pub index_of : ℕ → ℕ → ℤ → Option ℕ
index_of limit detail number = cond (detail == 0) (index_below limit number) None

-- where neither detail nor number has a meaning
abbrev pub bare : Construct → ℕ → ℤ → Option Construct
bare c detail number = cond (detail == 0 && is_zero number) (Some c) None

-- where the number has no meaning
abbrev pub unnumbered : {A : Type 0} → Option A → ℤ → Option A
unnumbered o number = cond (is_zero number) o None

abbrev pub literal_at : Option Primitive → ℤ → Option Construct
literal_at None number = None
literal_at (Some t) number = cond (has_literals t) (option_map Literal (new_value t number)) None

-- each kind with its detail and number, in a script with so many locals and labels; there are 8 channels
abbrev pub of_kind : ℕ → ℕ → Option Kind → ℕ → ℤ → Option Construct
of_kind locals labels None d n = None
of_kind locals labels (Some K.Literal) d n = literal_at (type_of d) n
of_kind locals labels (Some K.Local) d n = option_map (λ x. Local (record { 0 = x })) (index_of locals d n)
of_kind locals labels (Some K.Unary) d n = option_map Unary (unnumbered (unary_of d) n)
of_kind locals labels (Some K.Binary) d n = option_map Binary (unnumbered (binary_of d) n)
of_kind locals labels (Some K.Conditional) d n = bare Conditional d n
of_kind locals labels (Some K.Assignment) d n = option_map (λ x. Assignment (record { 0 = x })) (index_of locals d n)
of_kind locals labels (Some K.Reading) d n = option_map (λ x. Reading (record { 0 = x })) (index_of 8 d n)
of_kind locals labels (Some K.Empty) d n = bare Empty d n
of_kind locals labels (Some K.Expression) d n = bare Expression d n
of_kind locals labels (Some K.Labelled) d n = option_map (λ x. Labelled (record { 0 = x })) (index_of labels d n)
of_kind locals labels (Some K.Break) d n = option_map (λ x. Break (record { 0 = x })) (index_of labels d n)
of_kind locals labels (Some K.Continue) d n = option_map (λ x. Continue (record { 0 = x })) (index_of labels d n)
of_kind locals labels (Some K.If) d n = bare If d n
of_kind locals labels (Some K.While) d n = bare While d n
of_kind locals labels (Some K.Block) d n = bare Block d n
of_kind locals labels (Some K.Declaration) d n = option_map (λ x. Declaration (record { 0 = x })) (index_of locals d n)

abbrev pub construct_of : ℕ → ℕ → Node → Option Construct
construct_of locals labels node = of_kind locals labels (kind_of node.kind) node.detail node.number

-- the local, label or channel that a construct names is one of the script's
abbrev pub InSection : ℕ → ℕ → Construct → Type 0
InSection locals labels (Local x) = x.0 < locals
InSection locals labels (Assignment x) = x.0 < locals
InSection locals labels (Reading k) = k.0 < 8
InSection locals labels (Labelled l) = l.0 < labels
InSection locals labels (Break l) = l.0 < labels
InSection locals labels (Continue l) = l.0 < labels
InSection locals labels (Declaration x) = x.0 < locals
InSection locals labels _ = Unit {0}
