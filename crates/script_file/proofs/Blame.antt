-- A refusal names the first faulty part: all before it is right, and the part itself is not.
use Rattle.std.proofs.Common.{◌≡◌, ℕ, zero, suc, ◌+◌, ◌*◌, ◌<◌, ◌≤◌, ◌||◌, ltb, ◌⊎◌, List, [], ◌∷◌, ◌++◌, length, get_or, take, Some, None, Ok, Err, Option, Result, sym, refl, ap, ◌∙◌, subst, inl, inr, arith}
use Rattle.std.proofs.lemmas.Bool.{ltb-false, ltb-true}
use Rattle.std.specs.Option.{ok_or}
use Rattle.std.specs.List.{flat_map, AllByRecursion}
use Rattle.java.specs.declared.types.Primitive.{Primitive}
use Rattle.java.specs.Types.{type_of}
use Rattle.script_file.specs.declared.fault.FileFault.{FileFault}
use Rattle.script_file.specs.declared.fault.FileFault.TheVariants.{Cut, Count, TypeCode, Trailing}
use Rattle.script.specs.declared.node.Node.{Node}
use Rattle.script.specs.Scripts.{Script}
use Rattle.script_file.specs.Format.{NodeFits, Within, bytes_of, file, node_bytes, node_of, number_of, part, type_bytes}
use Rattle.script_file.specs.Laws.{FirstFault, NoFileBegins, ValidBefore}
use Rattle.script_file.specs.Reading.{and_then, chunk_at, count_at, end_at, entries, labels_in, limited, locals_in, node_at, nodes_in, script_in, section, type_at}
use Rattle.script_file.proofs.Agree.{count_agrees, type_agrees}
use Rattle.script_file.proofs.Bytes.{Octets}
use Rattle.script_file.proofs.Entries.{first_offset, joined, later_offset, parted}
use Rattle.script_file.proofs.OfFile.{file_parts}
use Rattle.script_file.proofs.Sections.{entries_length, script_stages, section_parts, then_end, then_labels, then_nodes}
use Rattle.script_file.proofs.ToFile.{count_parts, entries_stand, node_stands, type_stands}
use Rattle.script_file.proofs.Witness.{after_count, begun, count_front, labels_front, longer, valid_at_count, valid_at_labels, valid_at_node, valid_at_start, valid_at_type, types_front}
use Rattle.script_file.proofs.Then.{not_both, passed, stopped, then_fault}

-- the first entry that is wrong, and the right ones before it
pub record FirstWrong {X : Type 0} (at : ℕ → Result X FileFault) (size o n : ℕ) (f : FileFault) : Type 0 where
  pub index : ℕ
  pub right : List X
  pub inside : index < n
  pub before : entries at size o index ≡ Ok right
  pub wrong : at (o + index * size) ≡ Err f

module _ {X : Type 0} (at : ℕ → Result X FileFault) (size : ℕ) where
  wrong_here : (o n : ℕ) {f : FileFault} → at o ≡ Err f → FirstWrong at size o (suc n) f
  wrong_here o n e = record { index = 0; right = []; inside = omega arith; before = refl; wrong = ap at (first_offset o size) ∙ e }

  wrong_later : (o n : ℕ) {f : FileFault} (x : X) → at o ≡ Ok x → FirstWrong at size (o + size) n f → FirstWrong at size o (suc n) f
  wrong_later o n x e w = record {
    index = suc w.index;
    right = x ∷ w.right;
    inside = omega (arith, w.inside);
    before = joined at size o w.index e w.before;
    wrong = ap at (later_offset o size w.index) ∙ w.wrong;
  }

  one_more : (o n : ℕ) {f : FileFault} → (entries at size (o + size) n ≡ Err f → FirstWrong at size (o + size) n f)
      → entries at size o (suc n) ≡ Err f → FirstWrong at size o (suc n) f
  one_more o n rec h =
      elim (then_fault (at o) (λ x. and_then (entries at size (o + size) n) (λ xs. Ok (x ∷ xs))) h) [
        | inl e ↦ wrong_here o n e
        | inr p ↦ elim (then_fault (entries at size (o + size) n) (λ xs. Ok (p.0 ∷ xs)) p.2) [
          | inl e ↦ wrong_later o n p.0 p.1 (rec e)
          | inr q ↦ absurd (not_both refl q.2)
        ]
      ]

  pub first_wrong : (o n : ℕ) {f : FileFault} → entries at size o n ≡ Err f → FirstWrong at size o n f
  first_wrong o zero h = absurd (not_both refl h)
  first_wrong o (suc n) h = one_more o n (first_wrong (o + size) n) h

  -- where all are right, each is
  pub each_right : (o n : ℕ) {xs : List X} → entries at size o n ≡ Ok xs → (i : ℕ) → i < n → (x : X) × (at (o + i * size) ≡ Ok x)
  each_right o zero h i l = absurd (omega arith)
  each_right o (suc n) h zero l = let p = parted at size o n h in (p.first, ap at (first_offset o size) ∙ p.here)
  each_right o (suc n) h (suc i) l =
      let r = each_right (o + size) n (parted at size o n h).behind i (omega arith) in
      (r.0, ap at (later_offset o size i) ∙ r.1)

unknown : {X : Type 0} (t : Option X) (g : FileFault) {f : FileFault} → ok_or t g ≡ Err f → f ≡ g
unknown None g h = cc
unknown (Some x) g h = absurd (not_both refl h)

-- what is wrong with a part
module _ (bs : List ℕ) where
  chunk_wrong : (o k : ℕ) {f : FileFault} → chunk_at bs o k ≡ Err f → (f ≡ Cut o) × (length bs < o + k)
  chunk_wrong o k h =
      let p = stopped (ltb (length bs) (o + k)) (Cut o) (part o k bs) h in
      (sym p.1, ltb-true (length bs) (o + k) p.0)

  chunk_whole : (o k : ℕ) {w : List ℕ} → chunk_at bs o k ≡ Ok w → o + k ≤ length bs
  chunk_whole o k h = ltb-false (length bs) (o + k) (passed (ltb (length bs) (o + k)) (Cut o) (part o k bs) h).0

  -- not whole, or whole and of no meaning
  abbrev pub Wrong : FileFault → ℕ → ℕ → FileFault → Type 0
  Wrong f o size g = ((f ≡ Cut o) × (length bs < o + size)) ⊎ ((f ≡ g) × (o + size ≤ length bs))

  pub count_wrong : (o least most : ℕ) {f : FileFault} → count_at bs o least most ≡ Err f → Wrong f o 2 (Count o)
  count_wrong o least most h =
      elim (then_fault (chunk_at bs o 2) (λ word. limited o least most (number_of word)) h) [
        | inl e ↦ inl (chunk_wrong o 2 e)
        | inr p ↦
            let n = number_of p.0 in
            inr (sym (stopped (ltb n least || ltb most n) (Count o) n p.2).1, chunk_whole o 2 p.1)
      ]

  pub type_wrong : (o : ℕ) {f : FileFault} → type_at bs o ≡ Err f → Wrong f o 1 (TypeCode o)
  type_wrong o h =
      elim (then_fault (chunk_at bs o 1) (λ byte. ok_or (type_of (get_or byte 0 0)) (TypeCode o)) h) [
        | inl e ↦ inl (chunk_wrong o 1 e)
        | inr p ↦ inr (unknown (type_of (get_or p.0 0 0)) (TypeCode o) p.2, chunk_whole o 1 p.1)
      ]

  pub node_wrong : (o : ℕ) {f : FileFault} → node_at bs o ≡ Err f → (f ≡ Cut o) × (length bs < o + 14)
  node_wrong o h =
      elim (then_fault (chunk_at bs o 14) (λ w. Ok (node_of w)) h) [
        | inl e ↦ chunk_wrong o 14 e
        | inr p ↦ absurd (not_both refl p.2)
      ]

  section_split : {X : Type 0} (at : List ℕ → ℕ → Result X FileFault) (size o least most : ℕ) {f : FileFault} → section bs at size o least most ≡ Err f
      → (count_at bs o least most ≡ Err f) ⊎ ((n : ℕ) × (count_at bs o least most ≡ Ok n) × (entries (at bs) size (o + 2) n ≡ Err f))
  unfolding section
  section_split at size o least most h = then_fault (count_at bs o least most) (entries (at bs) size (o + 2)) h

  -- a file that begins with these bytes would be read otherwise
  dead_locals : {f : FileFault} → count_at bs 0 0 64 ≡ Err f → NoFileBegins bs 2
  dead_locals h s w same =
      let locals = section_parts (file s) type_at 1 0 0 64 (file_parts s w).locals in
      not_both (count_agrees bs (file s) 2 same 0 0 64 (omega arith) ∙ locals.0) h

  module _ (l : ℕ) (counted : count_at bs 0 0 64 ≡ Ok l) where
    same_locals : (s : Script) → Within s → (k : ℕ) → 2 ≤ k → take k bs ≡ take k (file s) → l ≡ length s.locals
    same_locals s w k h same =
        let locals = section_parts (file s) type_at 1 0 0 64 (file_parts s w).locals in
        let e = sym counted ∙ count_agrees bs (file s) k same 0 0 64 h ∙ locals.0 in
        cc

    dead_type : (i : ℕ) {f : FileFault} → i < l → type_at bs (2 + i) ≡ Err f → NoFileBegins bs (2 + i + 1)
    dead_type i inside h s w same =
        let locals = section_parts (file s) type_at 1 0 0 64 (file_parts s w).locals in
        let e = same_locals s w (2 + i + 1) (omega arith) same in
        let there = each_right (type_at (file s)) 1 2 (length s.locals) locals.1 i (omega arith) in
        let p : 2 + i ≡ 2 + i * 1 = omega arith in
        not_both (type_agrees bs (file s) (2 + i + 1) same (2 + i) (omega arith) ∙ ap (type_at (file s)) p ∙ there.1) h

    dead_labels : {f : FileFault} → labels_in bs l ≡ Err f → NoFileBegins bs (2 + l + 2)
    dead_labels h s w same =
        let e = same_locals s w (2 + l + 2) (omega arith) same in
        not_both (count_agrees bs (file s) (2 + l + 2) same (2 + l) 0 32 (omega arith) ∙ ap (λ (n : ℕ). labels_in (file s) n) e ∙ (file_parts s w).labels) h

    dead_nodes : {f : FileFault} → count_at bs (4 + l) 1 1024 ≡ Err f → NoFileBegins bs (4 + l + 2)
    dead_nodes h s w same =
        let e = same_locals s w (4 + l + 2) (omega arith) same in
        let nodes = section_parts (file s) node_at 14 (4 + length s.locals) 1 1024 (file_parts s w).nodes in
        not_both (count_agrees bs (file s) (4 + l + 2) same (4 + l) 1 1024 (omega arith) ∙ ap (λ (n : ℕ). count_at (file s) (4 + n) 1 1024) e ∙ nodes.0) h

-- the number of a fault and what was found of its part make what the refusal says
module _ (types nodes : ℕ) (bs : List ℕ) where
  blamed_cut : (o size : ℕ) {f : FileFault} → ValidBefore bs o size → o ≤ length bs → (f ≡ Cut o) × (length bs < o + size) → FirstFault types nodes bs f
  blamed_cut o size right reached p = subst (FirstFault types nodes bs) (sym p.0) (size, right, reached, p.1)

  blamed_count : (o : ℕ) {f : FileFault} → ValidBefore bs o 2 → o ≤ length bs → NoFileBegins bs (o + 2) → Wrong bs f o 2 (Count o) → FirstFault types nodes bs f
  blamed_count o right reached dead (inl p) = blamed_cut o 2 right reached p
  blamed_count o right reached dead (inr p) = subst (FirstFault types nodes bs) (sym p.0) (right, p.1, dead)

  blamed_type : (o : ℕ) {f : FileFault} → ValidBefore bs o 1 → o ≤ length bs → NoFileBegins bs (o + 1) → Wrong bs f o 1 (TypeCode o) → FirstFault types nodes bs f
  blamed_type o right reached dead (inl p) = blamed_cut o 1 right reached p
  blamed_type o right reached dead (inr p) = subst (FirstFault types nodes bs) (sym p.0) (right, p.1, dead)

  module _ (bytes : Octets bs) where
    -- the count of the locals and so many of their types are there as they are written
    pub types_there : (l i : ℕ) {right : List Primitive} → count_at bs 0 0 64 ≡ Ok l → entries (type_at bs) 1 2 i ≡ Ok right
        → (bytes_of 2 l ++ flat_map type_bytes right ≡ take (2 + i) bs) × (2 + i ≤ length bs)
    types_there l i counted e =
        let c = count_parts bs bytes 0 0 64 counted in
        let stand = entries_stand bs type_at type_bytes 1 (λ _. Unit {0}) (type_stands bs bytes) 2 i c.2 e in
        let once : 2 + i * 1 ≡ 2 + i = omega arith in
        (longer bs 2 (i * 1) c.3 stand.back ∙ ap (λ (o : ℕ). take o bs) once, omega (arith, stand.whole))

    wrong_type : (l : ℕ) {f : FileFault} → count_at bs 0 0 64 ≡ Ok l → FirstWrong (type_at bs) 1 2 l f → FirstFault types nodes bs f
    wrong_type l counted w =
        let i = w.index in
        let there = types_there l i counted w.before in
        let once : 2 + i * 1 ≡ 2 + i = omega arith in
        let few = (count_parts bs bytes 0 0 64 counted).1 in
        let long = entries_length (type_at bs) 1 2 i w.before in
        let wrong = sym (ap (type_at bs) once) ∙ w.wrong in
        blamed_type (2 + i) (valid_at_type bs l i w.right few w.inside long there.1 there.0) there.1 (dead_type bs l counted i w.inside wrong) (type_wrong bs (2 + i) wrong)

    wrong_locals : {f : FileFault} → locals_in bs ≡ Err f → FirstFault types nodes bs f
    wrong_locals h =
        elim (section_split bs type_at 1 0 0 64 h) [
          | inl e ↦ blamed_count 0 (valid_at_start bs) (omega arith) (dead_locals bs e) (count_wrong bs 0 0 64 e)
          | inr p ↦ wrong_type p.0 p.1 (first_wrong (type_at bs) 1 2 p.0 p.2)
        ]

    -- what follows the locals
    module _ (xs : List Primitive) (read : locals_in bs ≡ Ok xs) where
      counted : count_at bs 0 0 64 ≡ Ok (length xs)
      counted = (section_parts bs type_at 1 0 0 64 read).0

      pub few : length xs ≤ 64
      few = (count_parts bs bytes 0 0 64 counted).1

      -- the bytes of the locals, and that they are there
      locals_there : (types_front bs xs few ≡ take (2 + length xs) bs) × (2 + length xs ≤ length bs)
      locals_there = types_there (length xs) (length xs) counted (section_parts bs type_at 1 0 0 64 read).1

      wrong_labels : {f : FileFault} → labels_in bs (length xs) ≡ Err f → FirstFault types nodes bs f
      wrong_labels h =
          let front = locals_there in
          blamed_count (2 + length xs) (valid_at_labels bs xs few front.1 front.0) front.1 (dead_labels bs (length xs) counted h) (count_wrong bs (2 + length xs) 0 32 h)

      module _ (labels : ℕ) (labelled : labels_in bs (length xs) ≡ Ok labels) where
        pub few_labels : labels ≤ 32
        few_labels = (count_parts bs bytes (2 + length xs) 0 32 labelled).1

        pub labels_there : (labels_front bs xs few labels ≡ take (4 + length xs) bs) × (4 + length xs ≤ length bs)
        labels_there =
            let c = count_parts bs bytes (2 + length xs) 0 32 labelled in
            let two : 2 + length xs + 2 ≡ 4 + length xs = omega arith in
            (longer bs (2 + length xs) 2 locals_there.0 c.3 ∙ ap (λ (o : ℕ). take o bs) two, omega (arith, c.2))

        wrong_count : {f : FileFault} → count_at bs (4 + length xs) 1 1024 ≡ Err f → FirstFault types nodes bs f
        wrong_count h =
            let front = labels_there in
            blamed_count (4 + length xs) (valid_at_count bs xs few labels few_labels front.1 front.0) front.1 (dead_nodes bs (length xs) counted h) (count_wrong bs (4 + length xs) 1 1024 h)

        -- so many nodes that are right
        pub nodes_there : (n i : ℕ) {ys : List Node} → count_at bs (4 + length xs) 1 1024 ≡ Ok n → entries (node_at bs) 14 (4 + length xs + 2) i ≡ Ok ys
            → (count_front bs xs few labels n ++ flat_map node_bytes ys ≡ take (6 + length xs + i * 14) bs) × (6 + length xs + i * 14 ≤ length bs) × AllByRecursion NodeFits ys
        nodes_there n i c e =
            let k = count_parts bs bytes (4 + length xs) 1 1024 c in
            let stand = entries_stand bs node_at node_bytes 14 NodeFits (node_stands bs bytes) (4 + length xs + 2) i k.2 e in
            let six : 4 + length xs + 2 + i * 14 ≡ 6 + length xs + i * 14 = omega arith in (
              longer bs (4 + length xs + 2) (i * 14) (longer bs (4 + length xs) 2 labels_there.0 k.3) stand.back ∙ ap (λ (o : ℕ). take o bs) six,
              omega (arith, stand.whole),
              stand.good,
            )

        wrong_node : (n : ℕ) {f : FileFault} → count_at bs (4 + length xs) 1 1024 ≡ Ok n → FirstWrong (node_at bs) 14 (4 + length xs + 2) n f → FirstFault types nodes bs f
        wrong_node n c w =
            let i = w.index in
            let there = nodes_there n i c w.before in
            let six : 4 + length xs + 2 + i * 14 ≡ 6 + length xs + i * 14 = omega arith in
            let long = entries_length (node_at bs) 14 (4 + length xs + 2) i w.before in
            let few_nodes = (count_parts bs bytes (4 + length xs) 1 1024 c).1 in
            let right = valid_at_node bs xs few labels n i w.right few_labels few_nodes w.inside long there.2 there.1 there.0 in
            blamed_cut (6 + length xs + i * 14) 14 right there.1 (node_wrong bs (6 + length xs + i * 14) (sym (ap (node_at bs) six) ∙ w.wrong))

        wrong_nodes : {f : FileFault} → nodes_in bs (length xs) ≡ Err f → FirstFault types nodes bs f
        wrong_nodes h =
            elim (section_split bs node_at 14 (4 + length xs) 1 1024 h) [
              | inl e ↦ wrong_count e
              | inr p ↦ wrong_node p.0 p.1 (first_wrong (node_at bs) 14 (4 + length xs + 2) p.0 p.2)
            ]

        wrong_end : (ys : List Node) {f : FileFault} → nodes_in bs (length xs) ≡ Ok ys → end_at bs (6 + length xs + length ys * 14) ≡ Err f → FirstFault types nodes bs f
        wrong_end ys e h =
            let o = 6 + length xs + length ys * 14 in
            let p = stopped (ltb o (length bs)) (Trailing o) tt h in
            let ns = section_parts bs node_at 14 (4 + length xs) 1 1024 e in
            let c = count_parts bs bytes (4 + length xs) 1 1024 ns.0 in
            let there = nodes_there (length ys) (length ys) ns.0 ns.1 in
            subst (FirstFault types nodes bs) p.1 (
              begun bs xs few labels ys,
              record { locals = few; labels = few_labels; least = c.0; nodes = c.1; fits = there.2 },
              sym there.0 ∙ sym (after_count bs xs few labels ys),
              ltb-true o (length bs) p.0,
            )

    pub blamed : {f : FileFault} → script_in bs ≡ Err f → FirstFault types nodes bs f
    blamed h =
        elim (then_fault (locals_in bs) (then_labels bs) (sym (script_stages bs) ∙ h)) [
          | inl e ↦ wrong_locals e
          | inr p ↦ elim (then_fault (labels_in bs (length p.0)) (then_nodes bs p.0) p.2) [
            | inl e ↦ wrong_labels p.0 p.1 e
            | inr q ↦ elim (then_fault (nodes_in bs (length p.0)) (then_end bs p.0 q.0) q.2) [
              | inl e ↦ wrong_nodes p.0 p.1 q.0 q.1 e
              | inr r ↦ elim (then_fault (end_at bs (6 + length p.0 + length r.0 * 14)) (λ _. Ok (record { locals = p.0; labels = q.0; nodes = r.0 })) r.2) [
                | inl e ↦ wrong_end p.0 p.1 q.0 q.1 r.0 r.1 e
                | inr t ↦ absurd (not_both refl t.2)
              ]
            ]
          ]
        ]
