-- The file of a script is read to that script.
use Rattle.std.proofs.Common.{◌≡◌, ℕ, suc, ◌+◌, ◌*◌, ◌^◌, ◌<◌, ◌≤◌, ◌||◌, ltb, List, [], ◌∷◌, ◌++◌, length, get_or, Some, Ok, Err, Result, sym, refl, ap, ◌∙◌, append_assoc, append-nil, suc-mul, zero-mul, arith, length-append, w64, to_z, of_z}
use mir.Facts.{Fits-of_z}
use Rattle.std.proofs.lemmas.Int.{to_z-of_z}
use Rattle.std.proofs.lemmas.Bool.{cond-false, le-ltb, or_from}
use Rattle.std.specs.List.{flat_map, AllByRecursion}
use Rattle.std.specs.Option.{ok_or}
use Rattle.java.specs.declared.types.Primitive.{Primitive}
use Rattle.java.specs.declared.types.Primitive.TheVariants.{Boolean, Byte, Short, Char, Int, Long}
use Rattle.java.specs.Types.{type_code, type_of}
use Rattle.script_file.specs.declared.fault.FileFault.{FileFault}
use Rattle.script_file.specs.declared.fault.FileFault.TheVariants.{Cut, Count, TypeCode}
use Rattle.script.specs.declared.node.Node.{Node}
use Rattle.script.specs.Scripts.{Script}
use Rattle.script_file.specs.Format.{NodeFits, Within, bytes_of, number_of, part, type_bytes, node_bytes, node_of, file}
use Rattle.script_file.specs.Reading.{chunk_at, limited, count_at, type_at, node_at, entries, section, script_in}
use Rattle.script_file.proofs.Bytes.{length-bytes_of, number_of-bytes_of, part_between}
use Rattle.script_file.proofs.Entries.{joined}
use Rattle.script_file.proofs.Sections.{Parts, section_of, script_from_parts}
use Rattle.script_file.proofs.Then.{then_ok}

-- a part that stands whole between others
pub chunk_between : (before xs behind : List ℕ) (o k : ℕ) → length before ≡ o → length xs ≡ k → chunk_at (before ++ (xs ++ behind)) o k ≡ Ok xs
chunk_between before xs behind o k e f =
    let bs = before ++ (xs ++ behind) in
    let long : o + k ≤ length bs = omega (arith, length-append before (xs ++ behind), length-append xs behind) in
    cond-false (ltb (length bs) (o + k)) (Err (Cut o)) (Ok (part o k bs)) (le-ltb (length bs) (o + k) long)
    ∙ ap (λ (p : List ℕ). Ok p) (part_between before xs behind o k e f)

pub count_between : (before behind : List ℕ) (o n least most : ℕ) → length before ≡ o → least ≤ n → n ≤ most → n < 65536
    → count_at (before ++ (bytes_of 2 n ++ behind)) o least most ≡ Ok n
count_between before behind o n least most e low high small =
    then_ok (λ word. limited o least most (number_of word)) (chunk_between before (bytes_of 2 n) behind o 2 e (length-bytes_of 2 n))
    ∙ ap (limited o least most) (number_of-bytes_of 2 n small)
    ∙ cond-false (ltb n least || ltb most n) (Err (Count o)) (Ok n) (or_from _ _ (le-ltb n least low) (le-ltb most n high))

type_of_code : (t : Primitive) → type_of (type_code t) ≡ Some t
type_of_code Boolean = refl
type_of_code Byte = refl
type_of_code Short = refl
type_of_code Char = refl
type_of_code Int = refl
type_of_code Long = refl

pub type_between : (before behind : List ℕ) (o : ℕ) (t : Primitive) → length before ≡ o → type_at (before ++ (type_bytes t ++ behind)) o ≡ Ok t
type_between before behind o t e =
    then_ok (λ byte. ok_or (type_of (get_or byte 0 0)) (TypeCode o)) (chunk_between before (type_bytes t) behind o 1 e refl)
    ∙ ap (λ r. ok_or r (TypeCode o)) (type_of_code t)

length-node_bytes : (n : Node) → length (node_bytes n) ≡ 14
length-node_bytes n = refl

node_of_bytes : (n : Node) → NodeFits n → node_of (node_bytes n) ≡ n
node_of_bytes n f =
    let up : number_of (bytes_of 2 n.up.0) ≡ n.up.0 = number_of-bytes_of 2 n.up.0 f.up in
    let end : number_of (bytes_of 2 n.end.0) ≡ n.end.0 = number_of-bytes_of 2 n.end.0 f.end in
    let bits : of_z w64 n.number < 2 ^ 64 = (Fits-of_z f.number).fits in
    let number : to_z w64 (number_of (bytes_of 8 (of_z w64 n.number))) ≡ n.number =
    ap (to_z w64) (number_of-bytes_of 8 (of_z w64 n.number) bits) ∙ to_z-of_z w64 n.number f.number in
    λ i. record { kind = n.kind; detail = n.detail; up = record { 0 = up i }; end = record { 0 = end i }; number = number i }

pub node_between : (before behind : List ℕ) (o : ℕ) (n : Node) → NodeFits n → length before ≡ o → node_at (before ++ (node_bytes n ++ behind)) o ≡ Ok n
node_between before behind o n f e =
    then_ok (λ bytes. Ok (node_of bytes)) (chunk_between before (node_bytes n) behind o 14 e (length-node_bytes n))
    ∙ ap (λ (m : Node). Ok m) (node_of_bytes n f)

-- entries one after the other, each of one size, are read one after the other
module _ {X : Type 0} (at : List ℕ → ℕ → Result X FileFault) (written : X → List ℕ) (size : ℕ) (Good : X → Type 0)
    (sized : (x : X) → length (written x) ≡ size)
    (between : (before behind : List ℕ) (o : ℕ) (x : X) → Good x → length before ≡ o → at (before ++ (written x ++ behind)) o ≡ Ok x) where
  pub entries_between : (before behind : List ℕ) (o : ℕ) (xs : List X) → AllByRecursion Good xs → length before ≡ o
      → entries (at (before ++ (flat_map written xs ++ behind))) size o (length xs) ≡ Ok xs
  entries_between before behind o [] all e = refl
  entries_between before behind o (x ∷ xs) all e =
      let bs = before ++ (flat_map written (x ∷ xs) ++ behind) in
      let rest = flat_map written xs ++ behind in
      let here : bs ≡ before ++ (written x ++ rest) = ap (λ (t : List ℕ). before ++ t) (append_assoc (written x) (flat_map written xs) behind) in
      let next : bs ≡ (before ++ written x) ++ rest = here ∙ sym (append_assoc before (written x) rest) in
      let first : at bs o ≡ Ok x = ap (λ (t : List ℕ). at t o) here ∙ between before rest o x all.0 e in
      let longer : length (before ++ written x) ≡ o + size = omega (arith, length-append before (written x), sized x) in
      let others : entries (at bs) size (o + size) (length xs) ≡ Ok xs =
      ap (λ (t : List ℕ). entries (at t) size (o + size) (length xs)) next
      ∙ entries_between (before ++ written x) behind (o + size) xs all.1 longer in
      joined (at bs) size o (length xs) first others

  pub section_between : (before behind : List ℕ) (o least most : ℕ) (xs : List X) → AllByRecursion Good xs → length before ≡ o
      → least ≤ length xs → length xs ≤ most → length xs < 65536
      → section (before ++ (bytes_of 2 (length xs) ++ (flat_map written xs ++ behind))) at size o least most ≡ Ok xs
  section_between before behind o least most xs all e low high small =
      let count = bytes_of 2 (length xs) in
      let rest = flat_map written xs ++ behind in
      let bs = before ++ (count ++ rest) in
      let longer : length (before ++ count) ≡ o + 2 = omega (arith, length-append before count, length-bytes_of 2 (length xs)) in
      section_of bs at size o least most (count_between before rest o (length xs) least most e low high small)
      ∙ ap (λ (t : List ℕ). entries (at t) size (o + 2) (length xs)) (sym (append_assoc before count rest))
      ∙ entries_between (before ++ count) behind (o + 2) xs all longer

pub any : {X : Type 0} (xs : List X) → AllByRecursion (λ _. Unit {0}) xs
any [] = tt
any (x ∷ xs) = (tt, any xs)

length-joined : {X : Type 0} (written : X → List ℕ) (size : ℕ) → ((x : X) → length (written x) ≡ size) → (xs : List X) → length (flat_map written xs) ≡ length xs * size
length-joined written size sized [] = omega (arith, zero-mul size)
length-joined written size sized (x ∷ xs) =
    let e : suc (length xs) * size ≡ length xs * size + size = suc-mul (length xs) size in
    omega (arith, length-append (written x) (flat_map written xs), sized x, length-joined written size sized xs)

pub length-file : (s : Script) → length (file s) ≡ 6 + length s.locals + length s.nodes * 14
length-file s =
    let l = length s.locals in
    let n = length s.nodes in
    let ls = bytes_of 2 l in
    let ts = flat_map type_bytes s.locals in
    let bs = bytes_of 2 s.labels in
    let ns = bytes_of 2 n in
    let xs = flat_map node_bytes s.nodes in
    let lts : length ts ≡ l = length-joined type_bytes 1 (λ _. refl) s.locals ∙ omega arith in
    let lxs : length xs ≡ n * 14 = length-joined node_bytes 14 length-node_bytes s.nodes in
    length-append ls (ts ++ (bs ++ (ns ++ xs)))
    ∙ omega (arith, length-append ts (bs ++ (ns ++ xs)), length-append bs (ns ++ xs), length-append ns xs, length-bytes_of 2 l, length-bytes_of 2 s.labels, length-bytes_of 2 n)

pub file_parts : (s : Script) → Within s → Parts (file s) s
file_parts s w =
    let l = length s.locals in
    let n = length s.nodes in
    let ls = bytes_of 2 l in
    let ts = flat_map type_bytes s.locals in
    let bs = bytes_of 2 s.labels in
    let ns = bytes_of 2 n in
    let xs = flat_map node_bytes s.nodes in
    let lts : length ts ≡ l = length-joined type_bytes 1 (λ _. refl) s.locals ∙ omega arith in
    let two : file s ≡ (ls ++ ts) ++ (bs ++ (ns ++ xs)) = sym (append_assoc ls ts (bs ++ (ns ++ xs))) in
    let three : file s ≡ ((ls ++ ts) ++ bs) ++ (ns ++ (xs ++ [])) =
    two ∙ sym (append_assoc (ls ++ ts) bs (ns ++ xs)) ∙ ap (λ (t : List ℕ). ((ls ++ ts) ++ bs) ++ (ns ++ t)) (sym (append-nil xs)) in
    let o2 : length (ls ++ ts) ≡ 2 + l = omega (arith, length-append ls ts, length-bytes_of 2 l) in
    let o3 : length ((ls ++ ts) ++ bs) ≡ 4 + l = omega (arith, length-append (ls ++ ts) bs, length-bytes_of 2 s.labels) in
    let o4 = length-file s in
    record {
      locals = section_between type_at type_bytes 1 (λ _. Unit {0}) (λ _. refl) (λ before behind o t _ e. type_between before behind o t e)
          [] (bs ++ (ns ++ xs)) 0 0 64 s.locals (any s.locals) refl (omega arith) w.locals (omega (arith, w.locals));
      labels = ap (λ (t : List ℕ). count_at t (2 + l) 0 32) two ∙ count_between (ls ++ ts) (ns ++ xs) (2 + l) s.labels 0 32 o2 (omega arith) w.labels (omega (arith, w.labels));
      nodes = ap (λ (t : List ℕ). section t node_at 14 (4 + l) 1 1024) three
          ∙ section_between node_at node_bytes 14 NodeFits length-node_bytes (λ before behind o m f e. node_between before behind o m f e)
          ((ls ++ ts) ++ bs) [] (4 + l) 1 1024 s.nodes w.fits o3 w.least w.nodes (omega (arith, w.nodes));
      end = cond-false (ltb (6 + l + n * 14) (length (file s))) _ _ (le-ltb (6 + l + n * 14) (length (file s)) (omega arith));
    }

pub file_read : (s : Script) → Within s → script_in (file s) ≡ Ok s
file_read s w = script_from_parts (file s) s (file_parts s w)
