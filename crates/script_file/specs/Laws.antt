-- The laws of reading: what is read, what is refused, and where, said of files and not of the way they are read.
use Rattle.std.specs.Prelude.{◌≡◌, ℕ, ◌+◌, ◌*◌, ◌<◌, ◌≤◌, ◌⊎◌, List, ◌++◌, length, take, Ok, Err, Result, ◌≢◌}
use Rattle.script_file.specs.declared.fault.FileFault.{FileFault}
use Rattle.script_file.specs.declared.fault.FileFault.TheVariants.{Cut, Count, TypeCode, Trailing, Room}
use Rattle.script.specs.Scripts.{Script}
use Rattle.script_file.specs.Format.{Within, file}
use Rattle.script_file.specs.Reading.{answer}

-- the bytes are the file of a script within the limits, and tables of so many types and nodes have room for it
pub record FileOf (types nodes : ℕ) (bs : List ℕ) (s : Script) : Type 0 where
  pub within : Within s
  pub bytes : bs ≡ file s
  pub locals_fit : length s.locals ≤ types
  pub nodes_fit : length s.nodes ≤ nodes

-- bytes are read to a script exactly if they are the file of that script, and of no other within the limits
abbrev pub Exact : ℕ → ℕ → List ℕ → Result Script FileFault → Type 0
Exact types nodes bs r =
    (s : Script)
    → (r ≡ Ok s → FileOf types nodes bs s × ((other : Script) → Within other → bs ≡ file other → other ≡ s))
    × (FileOf types nodes bs s → r ≡ Ok s)

-- the parts of a script's file: where each begins, and how many bytes it has
pub data HasPart (s : Script) : ℕ → ℕ → Type 0 where
  locals_count : HasPart s 0 2
  code_of_local : (i : ℕ) → i < length s.locals → HasPart s (2 + i) 1
  labels_count : HasPart s (2 + length s.locals) 2
  nodes_count : HasPart s (4 + length s.locals) 2
  node_at_place : (i : ℕ) → i < length s.nodes → HasPart s (6 + length s.locals + i * 14) 14

-- a file that lost bytes at its end is refused by 1, at the part within which it now ends
abbrev pub Truncated : List ℕ → Result Script FileFault → Type 0
Truncated bs r =
    (s : Script) (lost : List ℕ)
    → Within s
    → 0 < length lost
    → bs ++ lost ≡ file s
    → (o : ℕ) × (size : ℕ) × HasPart s o size × (o ≤ length bs) × (length bs < o + size) × (r ≡ Err (Cut o))

-- nothing is wrong before an offset: the bytes there are those of some script's file, in which a part of this size begins at the offset
pub record ValidBefore (bs : List ℕ) (o size : ℕ) : Type 0 where
  pub script : Script
  pub within : Within script
  pub begins : HasPart script o size
  pub same : take o bs ≡ take o (file script)

-- no script's file begins with so many of the bytes
abbrev pub NoFileBegins : List ℕ → ℕ → Type 0
NoFileBegins bs k = (s : Script) → Within s → take k bs ≢ take k (file s)

-- what a refusal says: where the first faulty part begins, and what is wrong there
abbrev pub FirstFault : ℕ → ℕ → List ℕ → FileFault → Type 0
FirstFault types nodes bs (Cut o) = (size : ℕ) × ValidBefore bs o size × (o ≤ length bs) × (length bs < o + size)
FirstFault types nodes bs (Count o) = ValidBefore bs o 2 × (o + 2 ≤ length bs) × NoFileBegins bs (o + 2)
FirstFault types nodes bs (TypeCode o) = ValidBefore bs o 1 × (o + 1 ≤ length bs) × NoFileBegins bs (o + 1)
FirstFault types nodes bs (Trailing o) = (s : Script) × Within s × (take o bs ≡ file s) × (o < length bs)
FirstFault types nodes bs Room =
    (s : Script) × Within s × (bs ≡ file s) × ((types < length s.locals) ⊎ (nodes < length s.nodes))

-- bytes are refused exactly by the refusal that says what is so
abbrev pub ExactlyRefused : ℕ → ℕ → List ℕ → Result Script FileFault → Type 0
ExactlyRefused types nodes bs r =
    (f : FileFault) → (r ≡ Err f → FirstFault types nodes bs f) × (FirstFault types nodes bs f → r ≡ Err f)

-- how many bytes decide: one more than the longest file has
abbrev pub deciding : ℕ
deciding = 6 + 64 + 1024 * 14 + 1

-- files that begin with the same deciding bytes get the same answer
abbrev pub DecidedByPrefix : ℕ → ℕ → List ℕ → Result Script FileFault → Type 0
DecidedByPrefix types nodes bs r =
    (other : List ℕ) → take deciding other ≡ take deciding bs → answer types nodes other ≡ r

-- what is promised of the answer to bytes and to tables of so many types and nodes
pub record Lawful (types nodes : ℕ) (bs : List ℕ) (r : Result Script FileFault) : Type 0 where
  pub exact : Exact types nodes bs r
  pub truncated : Truncated bs r
  pub refused : ExactlyRefused types nodes bs r
  pub decided : DecidedByPrefix types nodes bs r
