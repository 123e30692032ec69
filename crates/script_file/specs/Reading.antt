-- What reading answers, from front to back: a script, or the first fault.
use Rattle.std.specs.Prelude.{◌≡◌, ℕ, zero, suc, ◌+◌, ◌*◌, cond, ◌||◌, List, [], ◌∷◌, length, take, drop, Ok, Err, Result, nat_lt, slice_index}
use Rattle.std.specs.Option.{ok_or}
use Rattle.java.specs.declared.types.Primitive.{Primitive}
use Rattle.java.specs.Types.{type_of}
use Rattle.script_file.specs.declared.fault.FileFault.{FileFault}
use Rattle.script_file.specs.declared.fault.FileFault.TheVariants.{Cut, Count, TypeCode, Trailing, Room}
use Rattle.script_file.specs.declared.file.Sizes.{Sizes}
use Rattle.script.specs.declared.node.Node.{Node}
use Rattle.script.specs.Scripts.{Script}
use Rattle.script_file.specs.Format.{part, number_of, node_of}

-- go on with what was read, or stay at the fault
abbrev pub and_then : {A B : Type 0} → Result A FileFault → (A → Result B FileFault) → Result B FileFault
and_then (Ok x) next = next x
and_then (Err e) next = Err e

-- the part of so many bytes at an offset; 1 where it is not whole
abbrev pub chunk_at : List ℕ → ℕ → ℕ → Result (List ℕ) FileFault
chunk_at bs o size = cond (nat_lt (length bs) (o + size)) (Err (Cut o)) (Ok (part o size bs))

-- 2 where a count is outside its limits
abbrev pub limited : ℕ → ℕ → ℕ → ℕ → Result ℕ FileFault
limited o least most n = cond (nat_lt n least || nat_lt most n) (Err (Count o)) (Ok n)

abbrev pub count_at : List ℕ → ℕ → ℕ → ℕ → Result ℕ FileFault
count_at bs o least most = and_then (chunk_at bs o 2) (λ word. limited o least most (number_of word))

-- 3 where a type code is above 5
abbrev pub type_at : List ℕ → ℕ → Result Primitive FileFault
type_at bs o = and_then (chunk_at bs o 1) (λ byte. ok_or (type_of (slice_index byte 0)) (TypeCode o))

abbrev pub node_at : List ℕ → ℕ → Result Node FileFault
node_at bs o = and_then (chunk_at bs o 14) (λ bytes. Ok (node_of bytes))

-- 5 where bytes follow
abbrev pub end_at : List ℕ → ℕ → Result (Unit {0}) FileFault
end_at bs o = cond (nat_lt o (length bs)) (Err (Trailing o)) (Ok tt)

-- one after the other: so many entries of a size, the first at an offset
abbrev pub entries : {X : Type 0} → (ℕ → Result X FileFault) → ℕ → ℕ → ℕ → Result (List X) FileFault
entries at size o zero = Ok []
entries at size o (suc n) = and_then (at o) (λ x. and_then (entries at size (o + size) n) (λ xs. Ok (x ∷ xs)))

-- a section: a count of two bytes within its limits, and so many entries
unfoldable pub section : {X : Type 0} → List ℕ → (List ℕ → ℕ → Result X FileFault) → ℕ → ℕ → ℕ → ℕ → Result (List X) FileFault
section bs at size o least most = and_then (count_at bs o least most) (entries (at bs) size (o + 2))

-- the three sections: 0 to 64 locals, the count of 0 to 32 labels, and 1 to 1,024 nodes
abbrev pub locals_in : List ℕ → Result (List Primitive) FileFault
locals_in bs = section bs type_at 1 0 0 64

abbrev pub labels_in : List ℕ → ℕ → Result ℕ FileFault
labels_in bs locals = count_at bs (2 + locals) 0 32

abbrev pub nodes_in : List ℕ → ℕ → Result (List Node) FileFault
nodes_in bs locals = section bs node_at 14 (4 + locals) 1 1024

-- the script of a file: its sections, and nothing behind them
unfoldable pub script_in : List ℕ → Result Script FileFault
script_in bs =
    and_then (locals_in bs) (λ locals.
    and_then (labels_in bs (length locals)) (λ labels.
    and_then (nodes_in bs (length locals)) (λ nodes.
    and_then (end_at bs (6 + length locals + length nodes * 14)) (λ _.
    Ok (record { locals = locals; labels = labels; nodes = nodes })))))

-- 6, last of all, where the caller's tables have too few places
abbrev pub placed : ℕ → ℕ → Script → Result Script FileFault
placed types nodes s =
    cond (nat_lt types (length s.locals) || nat_lt nodes (length s.nodes)) (Err Room) (Ok s)

-- what is answered to bytes and to tables of so many types and nodes
abbrev pub answer : ℕ → ℕ → List ℕ → Result Script FileFault
answer types nodes bs = and_then (script_in bs) (placed types nodes)

-- something of what was read
abbrev pub mapped : {A B : Type 0} → (A → B) → Result A FileFault → Result B FileFault
mapped f r = and_then r (λ x. Ok (f x))

abbrev pub sizes_of : Script → Sizes
sizes_of s = record { locals = length s.locals; labels = s.labels; nodes = length s.nodes }

-- the script at the front of two tables
abbrev pub front : Sizes → List Primitive → List Node → Script
front z types nodes = record { locals = take z.locals types; labels = z.labels; nodes = take z.nodes nodes }

-- what reading leaves in tables that held types and nodes, and now hold types' and nodes': the script at their fronts, and the rest as it was; or all as it was
abbrev pub Leaves : List Primitive → List Primitive → List Node → List Node → Result Script FileFault → Result Sizes FileFault → Type 0
Leaves types types' nodes nodes' script (Ok z) =
    (script ≡ Ok (front z types' nodes'))
    × (drop z.locals types' ≡ drop z.locals types)
    × (drop z.nodes nodes' ≡ drop z.nodes nodes)
Leaves types types' nodes nodes' script (Err e) = (types' ≡ types) × (nodes' ≡ nodes)
