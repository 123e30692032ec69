-- What the steps of reading promise to each other. No contract of a public call cites it.
use Rattle.std.specs.Prelude.{◌≡◌, ℕ, ◌+◌, ◌≤◌, true, List, is_ok, Ok, Result}
use Rattle.java.specs.declared.types.Primitive.{Primitive}
use Rattle.script.specs.declared.node.Node.{Node}
use Rattle.script_file.specs.declared.fault.FileFault.{FileFault}
use Rattle.script_file.specs.declared.file.Sizes.{Sizes}
use Rattle.script_file.specs.declared.reader.Reader.{Reader}
use Rattle.script_file.specs.Reading.{answer, entries, mapped, node_at, type_at}

-- only whether there is a fault
abbrev pub tested : {X : Type 0} → Result X FileFault → Result (Unit {0}) FileFault
tested {X} = mapped (λ (x : X). tt)

-- a reader went on by so many bytes of its file
pub record Moves (old new : Reader) (n : ℕ) : Type 0 where
  pub bytes : new.bytes.now ≡ old.bytes.now
  pub at : new.at ≡ old.at + n

-- a file was tested: its entries can be read, the tables have room for them, and they make the script that is answered
pub record Readable (types nodes : ℕ) (bs : List ℕ) (z : Sizes) : Type 0 where
  pub types_fit : z.locals ≤ types
  pub nodes_fit : z.nodes ≤ nodes
  pub few_types : z.locals ≤ 64
  pub few_nodes : z.nodes ≤ 1024
  pub types_right : is_ok (entries (type_at bs) 1 2 z.locals) ≡ true
  pub nodes_right : is_ok (entries (node_at bs) 14 (6 + z.locals) z.nodes) ≡ true
  pub whole : (written : List Primitive) (put : List Node)
      → entries (type_at bs) 1 2 z.locals ≡ Ok written → entries (node_at bs) 14 (6 + z.locals) z.nodes ≡ Ok put
      → answer types nodes bs ≡ Ok (record { locals = written; labels = z.labels; nodes = put })
