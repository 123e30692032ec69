-- What was read is a script within the limits, and the bytes are its file.
use Rattle.std.proofs.Common.{◌≡◌, ℕ, zero, suc, ◌+◌, ◌*◌, ◌^◌, ◌<◌, ◌≤◌, ◌||◌, ltb, List, [], ◌∷◌, ◌++◌, length, get_or, drop, Some, None, Ok, Option, Result, sym, refl, ap, ◌∙◌, subst, ap₂, suc-mul, zero-mul, arith, w64, to_z, of_z}
use mir.Facts.{sfits_to_z}
use Rattle.std.proofs.ByRecursion.{All-get_or, All-take, All-drop}
use Rattle.std.proofs.lemmas.List.{take_all, drop_all, drop_more, length-drop}
use Rattle.std.proofs.lemmas.Int.{of_z-to_z}
use Rattle.std.proofs.lemmas.Bool.{ltb-false, or_parts}
use Rattle.std.proofs.lemmas.Bool.Decides.{nat_tests}
use Rattle.std.specs.List.{flat_map, AllByRecursion}
use Rattle.std.specs.Option.{ok_or}
use Rattle.java.specs.declared.types.Primitive.{Primitive}
use Rattle.java.specs.Types.{type_code, type_of}
use Rattle.script_file.specs.declared.fault.FileFault.{FileFault}
use Rattle.script_file.specs.declared.fault.FileFault.TheVariants.{Cut, Count, TypeCode, Trailing}
use Rattle.script.specs.declared.node.Node.{Node}
use Rattle.script.specs.Scripts.{Script}
use Rattle.script_file.specs.Format.{NodeFits, Within, bytes_of, number_of, part, type_bytes, node_bytes, node_of, file}
use Rattle.script_file.specs.Reading.{chunk_at, limited, count_at, type_at, node_at, entries}
use Rattle.script_file.proofs.Bytes.{Octets, bytes_of-number_of, number_of-small, length_part, part_part}
use Rattle.script_file.proofs.Sections.{Parts, section_parts}
use Rattle.script_file.proofs.Entries.{parted}
use Rattle.script_file.proofs.Then.{passed, then_parts}

chosen : {X : Type 0} (o : Option X) (e : FileFault) {x : X} → ok_or o e ≡ Ok x → o ≡ Some x
chosen None e h = let z : ◌≡◌ {A = ℕ} 0 1 = cc in absurd (omega arith)
chosen (Some y) e h = cc

passed_limits : (o least most m : ℕ) {n : ℕ} → limited o least most m ≡ Ok n → (least ≤ n) × (n ≤ most) × (m ≡ n)
passed_limits o least most m h =
    let t = passed (ltb m least || ltb most m) (Count o) m h in
    let u = or_parts (ltb m least) (ltb most m) t.0 in
    (subst (λ (x : ℕ). least ≤ x) t.1 (ltb-false m least u.0), subst (λ (x : ℕ). x ≤ most) t.1 (ltb-false most m u.1), t.1)

-- a count that was read is within its limits
pub count_limit : (bs : List ℕ) (o least most : ℕ) {n : ℕ} → count_at bs o least most ≡ Ok n → n ≤ most
count_limit bs o least most h =
    let p = then_parts (chunk_at bs o 2) (λ word. limited o least most (number_of word)) h in
    (passed_limits o least most (number_of p.0) p.2).1

module _ (bs : List ℕ) (bytes : Octets bs) where
  part_octets : (o k : ℕ) → Octets (part o k bs)
  part_octets o k = All-take (λ b. b < 256) k (drop o bs) (All-drop (λ b. b < 256) o bs bytes)

  chunk_parts : (o k : ℕ) {w : List ℕ} → chunk_at bs o k ≡ Ok w → (o + k ≤ length bs) × (part o k bs ≡ w)
  chunk_parts o k h =
      let p = passed (ltb (length bs) (o + k)) (Cut o) (part o k bs) h in
      (ltb-false (length bs) (o + k) p.0, p.1)

  -- a number of so many bytes is written back as these
  number_back : (o k : ℕ) → o + k ≤ length bs → bytes_of k (number_of (part o k bs)) ≡ part o k bs
  number_back o k h =
      let e = length_part o bs k h in
      ap (λ (m : ℕ). bytes_of m (number_of (part o k bs))) (sym e) ∙ bytes_of-number_of (part o k bs) (part_octets o k)

  pub count_parts : (o least most : ℕ) {n : ℕ} → count_at bs o least most ≡ Ok n
      → (least ≤ n) × (n ≤ most) × (o + 2 ≤ length bs) × (bytes_of 2 n ≡ part o 2 bs)
  count_parts o least most {n} h =
      let p = then_parts (chunk_at bs o 2) (λ word. limited o least most (number_of word)) h in
      let q = chunk_parts o 2 p.1 in
      let t = passed_limits o least most (number_of p.0) p.2 in
      let e : number_of (part o 2 bs) ≡ n = ap number_of q.1 ∙ t.2 in
      (t.0, t.1, q.0, ap (bytes_of 2) (sym e) ∙ number_back o 2 q.0)

code_of : (c : ℕ) (t : Primitive) → type_of c ≡ Some t → c ≡ type_code t
code_of c t h = grind (arith, nat_tests)

module _ (w : List ℕ) (bytes : Octets w) where
  type_back : (t : Primitive) → length w ≡ 1 → type_of (get_or w 0 0) ≡ Some t → type_bytes t ≡ w
  type_back t e h =
      ap (λ (c : ℕ). c ∷ []) (sym (code_of (get_or w 0 0) t h))
      ∙ ap (λ (v : List ℕ). get_or w 0 0 ∷ v) (sym (drop_all 1 w (omega arith))) ∙ sym (drop_more w 0 0 (omega arith))

  node_back : length w ≡ 14 → node_bytes (node_of w) ≡ w
  node_back e =
      let number = number_of (part 6 8 w) in
      let eight : length (part 6 8 w) ≡ 8 = length_part 6 w 8 (omega arith) in
      let small : number < 2 ^ 64 = subst (λ (k : ℕ). number < 256 ^ k) eight (number_of-small (part 6 8 w) (part_octets w bytes 6 8)) in
      let up = number_back w bytes 2 2 (omega arith) in
      let end = number_back w bytes 4 2 (omega arith) in
      let bits : bytes_of 8 (of_z w64 (to_z w64 number)) ≡ part 6 8 w = ap (bytes_of 8) (of_z-to_z w64 number small) ∙ number_back w bytes 6 8 (omega arith) in
      let tail : part 2 2 w ++ (part 4 2 w ++ part 6 8 w) ≡ drop 2 w =
      ap (λ (v : List ℕ). part 2 2 w ++ v) (part_part 4 w 2 8) ∙ part_part 2 w 2 10 ∙ take_all 12 (drop 2 w) (omega (arith, length-drop 2 w)) in
      ap (λ (v : List ℕ). get_or w 0 0 ∷ get_or w 1 0 ∷ v) (ap₂ ◌++◌ up (ap₂ ◌++◌ end bits) ∙ tail)
      ∙ ap (λ (v : List ℕ). get_or w 0 0 ∷ v) (sym (drop_more w 1 0 (omega arith))) ∙ sym (drop_more w 0 0 (omega arith))

  node_fits : length w ≡ 14 → NodeFits (node_of w)
  node_fits e =
      let word : (o : ℕ) → o + 2 ≤ 14 → number_of (part o 2 w) < 65536 =
      λ o h. let two : length (part o 2 w) ≡ 2 = length_part o w 2 (omega arith) in
      subst (λ (k : ℕ). number_of (part o 2 w) < 256 ^ k) two (number_of-small (part o 2 w) (part_octets w bytes o 2)) in
      let number = number_of (part 6 8 w) in
      let eight : length (part 6 8 w) ≡ 8 = length_part 6 w 8 (omega arith) in
      let small : number < 2 ^ 64 = subst (λ (k : ℕ). number < 256 ^ k) eight (number_of-small (part 6 8 w) (part_octets w bytes 6 8)) in
      record {
        kind = All-get_or (λ b. b < 256) w 0 0 (omega arith) bytes;
        detail = All-get_or (λ b. b < 256) w 1 0 (omega arith) bytes;
        up = word 2 (omega arith);
        end = word 4 (omega arith);
        number = sfits_to_z (record { fits = small });
      }

-- what an entry that was read says of the bytes: it is whole, it stands there as it is written, and it is a good one
pub record Stands {X : Type 0} (bs : List ℕ) (written : X → List ℕ) (size : ℕ) (Good : X → Type 0) (o : ℕ) (x : X) : Type 0 where
  pub whole : o + size ≤ length bs
  pub back : written x ≡ part o size bs
  pub good : Good x

module _ (bs : List ℕ) (bytes : Octets bs) where
  pub type_stands : (o : ℕ) (t : Primitive) → type_at bs o ≡ Ok t → Stands bs type_bytes 1 (λ _. Unit {0}) o t
  type_stands o t h =
      let p = then_parts (chunk_at bs o 1) (λ byte. ok_or (type_of (get_or byte 0 0)) (TypeCode o)) h in
      let q = chunk_parts bs bytes o 1 p.1 in
      let c = chosen (type_of (get_or p.0 0 0)) (TypeCode o) p.2 in
      let here : type_of (get_or (part o 1 bs) 0 0) ≡ Some t = ap (λ (w : List ℕ). type_of (get_or w 0 0)) q.1 ∙ c in
      record {
        whole = q.0;
        back = type_back (part o 1 bs) (part_octets bs bytes o 1) t (length_part o bs 1 q.0) here;
        good = tt;
      }

  pub node_stands : (o : ℕ) (n : Node) → node_at bs o ≡ Ok n → Stands bs node_bytes 14 NodeFits o n
  node_stands o n h =
      let p = then_parts (chunk_at bs o 14) (λ w. Ok (node_of w)) h in
      let q = chunk_parts bs bytes o 14 p.1 in
      let w = part o 14 bs in
      let long = length_part o bs 14 q.0 in
      let e : node_of w ≡ n = let f = ap node_of q.1 in let k = p.2 in cc in
      record {
        whole = q.0;
        back = ap node_bytes (sym e) ∙ node_back w (part_octets bs bytes o 14) long;
        good = subst NodeFits e (node_fits w (part_octets bs bytes o 14) long);
      }

-- entries that were read, one after the other
module _ {X : Type 0} (bs : List ℕ) (at : List ℕ → ℕ → Result X FileFault) (written : X → List ℕ) (size : ℕ) (Good : X → Type 0)
    (stands : (o : ℕ) (x : X) → at bs o ≡ Ok x → Stands bs written size Good o x) where
  pub entries_stand : (o n : ℕ) {xs : List X} → o ≤ length bs → entries (at bs) size o n ≡ Ok xs
      → Stands bs (flat_map written) (n * size) (AllByRecursion Good) o xs
  entries_stand o zero {xs} h e =
      let none : [] ≡ xs = cc in
      let nought : 0 * size ≡ 0 = zero-mul size in
      subst (Stands bs (flat_map written) (0 * size) (AllByRecursion Good) o) none
      (record { whole = omega arith; back = ap (λ (k : ℕ). part o k bs) (sym nought); good = tt })
  entries_stand o (suc n) {xs} h e =
      let p = parted (at bs) size o n e in
      let one = stands o p.first p.here in
      let others = entries_stand (o + size) n one.whole p.behind in
      let more : suc n * size ≡ n * size + size = suc-mul n size in
      let sum : size + n * size ≡ suc n * size = omega arith in
      subst (Stands bs (flat_map written) (suc n * size) (AllByRecursion Good) o) p.all
      (record {
        whole = omega (arith, others.whole);
        back = ap₂ ◌++◌ one.back others.back ∙ part_part o bs size (n * size) ∙ ap (λ (k : ℕ). part o k bs) sum;
        good = (one.good, others.good);
      })

-- the bytes are the file of what was read, which is within the limits
module _ (bs : List ℕ) (bytes : Octets bs) where
  glued : (o a p b : ℕ) → o + a ≡ p → part o a bs ++ part p b bs ≡ part o (a + b) bs
  glued o a p b e = ap (λ (q : ℕ). part o a bs ++ part q b bs) (sym e) ∙ part_part o bs a b

  pub read_file : (s : Script) → Parts bs s → (bs ≡ file s) × Within s
  read_file s parts =
      let l = length s.locals in
      let n = length s.nodes in
      let locals = section_parts bs type_at 1 0 0 64 parts.locals in
      let ls = count_parts bs bytes 0 0 64 locals.0 in
      let ts = entries_stand bs type_at type_bytes 1 (λ _. Unit {0}) (type_stands bs bytes) 2 l ls.2 locals.1 in
      let ks = count_parts bs bytes (2 + l) 0 32 parts.labels in
      let nodes = section_parts bs node_at 14 (4 + l) 1 1024 parts.nodes in
      let ns = count_parts bs bytes (4 + l) 1 1024 nodes.0 in
      let xs = entries_stand bs node_at node_bytes 14 NodeFits (node_stands bs bytes) (4 + l + 2) n ns.2 nodes.1 in
      let end = ltb-false (6 + l + n * 14) (length bs) (passed (ltb (6 + l + n * 14) (length bs)) (Trailing (6 + l + n * 14)) tt parts.end).0 in
      let all : file s ≡ part 0 2 bs ++ (part 2 (l * 1) bs ++ (part (2 + l) 2 bs ++ (part (4 + l) 2 bs ++ part (4 + l + 2) (n * 14) bs))) =
      ap₂ ◌++◌ ls.3 (ap₂ ◌++◌ ts.back (ap₂ ◌++◌ ks.3 (ap₂ ◌++◌ ns.3 xs.back))) in
      let four : part (4 + l) 2 bs ++ part (4 + l + 2) (n * 14) bs ≡ part (4 + l) (2 + n * 14) bs = glued (4 + l) 2 (4 + l + 2) (n * 14) refl in
      let three : part (2 + l) 2 bs ++ part (4 + l) (2 + n * 14) bs ≡ part (2 + l) (2 + (2 + n * 14)) bs = glued (2 + l) 2 (4 + l) (2 + n * 14) (omega arith) in
      let two : part 2 (l * 1) bs ++ part (2 + l) (2 + (2 + n * 14)) bs ≡ part 2 (l * 1 + (2 + (2 + n * 14))) bs =
      glued 2 (l * 1) (2 + l) (2 + (2 + n * 14)) (omega arith) in
      let one : part 0 2 bs ++ part 2 (l * 1 + (2 + (2 + n * 14))) bs ≡ part 0 (2 + (l * 1 + (2 + (2 + n * 14)))) bs =
      glued 0 2 2 (l * 1 + (2 + (2 + n * 14))) refl in
      let whole : part 0 (2 + (l * 1 + (2 + (2 + n * 14)))) bs ≡ bs = take_all (2 + (l * 1 + (2 + (2 + n * 14)))) bs (omega arith) in
      let tail : part 2 (l * 1) bs ++ (part (2 + l) 2 bs ++ (part (4 + l) 2 bs ++ part (4 + l + 2) (n * 14) bs)) ≡ part 2 (l * 1 + (2 + (2 + n * 14))) bs =
      ap (λ (v : List ℕ). part 2 (l * 1) bs ++ v) (ap (λ (v : List ℕ). part (2 + l) 2 bs ++ v) four ∙ three) ∙ two in (
        sym (all ∙ ap (λ (v : List ℕ). part 0 2 bs ++ v) tail ∙ one ∙ whole),
        record { locals = ls.1; labels = ks.1; least = ns.0; nodes = ns.1; fits = xs.good },
      )
