-- The file of a script, byte by byte.
use Rattle.std.specs.Prelude.{ℕ, zero, suc, ◌+◌, ◌*◌, ◌/◌, ◌%◌, ◌<◌, ◌≤◌, List, [], ◌∷◌, ◌++◌, length, take, drop, FitsSigned, slice_index}
use Rattle.std.specs.Int.{w64}
use Rattle.std.proofs.Common.{of_z, to_z}
use Rattle.std.specs.List.{flat_map, AllByRecursion}
use Rattle.java.specs.declared.types.Primitive.{Primitive}
use Rattle.java.specs.Types.{type_code}
use Rattle.script.specs.declared.node.Node.{Node}
use Rattle.script.specs.Scripts.{Script}

-- a number in so many bytes, the least first
abbrev pub bytes_of : ℕ → ℕ → List ℕ
bytes_of zero n = []
bytes_of (suc k) n = n % 256 ∷ bytes_of k (n / 256)

-- the number that bytes stand for, the least first
abbrev pub number_of : List ℕ → ℕ
number_of [] = 0
number_of (b ∷ bs) = b + 256 * number_of bs

-- so many bytes from an offset on
abbrev pub part : ℕ → ℕ → List ℕ → List ℕ
part o k bs = take k (drop o bs)

abbrev pub type_bytes : Primitive → List ℕ
type_bytes t = type_code t ∷ []

-- the 14 bytes of a node: kind, detail, up, end, and the number in two's complement
abbrev pub node_bytes : Node → List ℕ
node_bytes n =
    n.kind ∷ n.detail ∷ (bytes_of 2 n.up.0 ++ (bytes_of 2 n.end.0 ++ bytes_of 8 (of_z w64 n.number)))

-- the node of 14 bytes
abbrev pub node_of : List ℕ → Node
node_of bs = record {
  kind = slice_index bs 0;
  detail = slice_index bs 1;
  up = record { 0 = number_of (part 2 2 bs) };
  end = record { 0 = number_of (part 4 2 bs) };
  number = to_z w64 (number_of (part 6 8 bs));
}

-- three sections, each after its count of two bytes
abbrev pub file : Script → List ℕ
file s =
    bytes_of 2 (length s.locals)
    ++ (flat_map type_bytes s.locals
    ++ (bytes_of 2 s.labels ++ (bytes_of 2 (length s.nodes) ++ flat_map node_bytes s.nodes)))

-- each field of a node fits its bytes
pub record NodeFits (n : Node) : Type 0 where
  pub kind : n.kind < 256
  pub detail : n.detail < 256
  pub up : n.up.0 < 65536
  pub end : n.end.0 < 65536
  pub number : FitsSigned w64 n.number

-- the limits of the format: 0 to 64 locals, 0 to 32 labels, 1 to 1,024 nodes
pub record Within (s : Script) : Type 0 where
  pub locals : length s.locals ≤ 64
  pub labels : s.labels ≤ 32
  pub least : 1 ≤ length s.nodes
  pub nodes : length s.nodes ≤ 1024
  pub fits : AllByRecursion NodeFits s.nodes
