-- Where the first faulty part is as a refusal says, reading finds it and answers that refusal.
use Rattle.std.proofs.Common.{◌≡◌, ℕ, zero, suc, ◌+◌, ◌*◌, ◌<◌, ◌≤◌, ltb, List, [], ◌∷◌, ◌++◌, length, take, Ok, Err, Result, sym, refl, ap, ◌∙◌, subst, inl, inr, arith, length-take}
use Rattle.std.proofs.lemmas.List.{take_all}
use Rattle.std.proofs.lemmas.Bool.{cases_lt, cond-true, lt-ltb}
use Rattle.std.specs.List.{flat_map}
use Rattle.java.specs.declared.types.Primitive.{Primitive}
use Rattle.script.specs.declared.node.Node.{Node}
use Rattle.script.specs.Scripts.{Script}
use Rattle.script_file.specs.declared.fault.FileFault.{FileFault}
use Rattle.script_file.specs.declared.fault.FileFault.TheVariants.{Cut, Count, TypeCode, Trailing, Room}
use Rattle.script_file.specs.Format.{Within, bytes_of, file, part, type_bytes}
use Rattle.script_file.specs.Laws.{FirstFault, HasPart, NoFileBegins, ValidBefore, code_of_local, labels_count, locals_count, node_at_place, nodes_count}
use Rattle.script_file.specs.Reading.{answer, chunk_at, count_at, end_at, entries, labels_in, locals_in, node_at, nodes_in, placed, script_in, section, type_at}
use Rattle.script_file.proofs.Agree.{count_agrees, entries_agree, node_agrees, type_agrees}
use Rattle.script_file.proofs.Blame.{count_wrong, few, few_labels, labels_there, nodes_there, type_wrong, types_there}
use Rattle.script_file.proofs.Bytes.{Octets}
use Rattle.script_file.proofs.OfFile.{file_parts, file_read, length-file}
use Rattle.script_file.proofs.Placed.{placed_full}
use Rattle.script_file.proofs.Sections.{entries_length, section_miscounted, section_of, section_parts, stops_at_end, stops_at_labels, stops_at_locals, stops_at_nodes}
use Rattle.script_file.proofs.Entries.{first_offset, first_stops, joined, later_offset, other_stops, parted}
use Rattle.script_file.proofs.ToFile.{count_limit, count_parts}
use Rattle.script_file.proofs.Witness.{valid_at_count, valid_at_labels, valid_at_node, valid_at_type}
use Rattle.script_file.proofs.Then.{then_err, then_ok}

module _ {X : Type 0} (at : ℕ → Result X FileFault) (size : ℕ) where
  -- the first of the entries are there too
  entries_fewer : (o n : ℕ) {xs : List X} → entries at size o n ≡ Ok xs → (i : ℕ) → i ≤ n → (ys : List X) × (entries at size o i ≡ Ok ys)
  entries_fewer o n h zero l = ([], refl)
  entries_fewer o zero h (suc i) l = absurd (omega arith)
  entries_fewer o (suc n) h (suc i) l =
      let p = parted at size o n h in
      let r = entries_fewer (o + size) n p.behind i (omega arith) in
      (p.first ∷ r.0, joined at size o i p.here r.1)

  -- one right entry more
  entries_more : (o i : ℕ) {ys : List X} {x : X} → entries at size o i ≡ Ok ys → at (o + i * size) ≡ Ok x → (zs : List X) × (entries at size o (suc i) ≡ Ok zs)
  entries_more o zero {ys} {x} e w = (x ∷ [], joined at size o 0 (sym (ap at (first_offset o size)) ∙ w) refl)
  entries_more o (suc i) e w =
      let p = parted at size o i e in
      let r = entries_more (o + size) i p.behind (sym (ap at (later_offset o size i)) ∙ w) in
      (p.first ∷ r.0, joined at size o (suc i) p.here r.1)

  -- a wrong entry behind right ones stops the reading
  entries_stop : (o n i : ℕ) {ys : List X} {f : FileFault} → entries at size o i ≡ Ok ys → i < n → at (o + i * size) ≡ Err f → entries at size o n ≡ Err f
  entries_stop o zero i e l w = absurd (omega arith)
  entries_stop o (suc n) zero e l w = first_stops at size o n (sym (ap at (first_offset o size)) ∙ w)
  entries_stop o (suc n) (suc i) e l w =
      let p = parted at size o i e in
      other_stops at size o n p.here (entries_stop (o + size) n i p.behind (omega arith) (sym (ap at (later_offset o size i)) ∙ w))

chunk_cut : (bs : List ℕ) (o k : ℕ) → length bs < o + k → chunk_at bs o k ≡ Err (Cut o)
chunk_cut bs o k h = cond-true (ltb (length bs) (o + k)) (Err (Cut o)) (Ok (part o k bs)) (lt-ltb (length bs) (o + k) h)

-- bytes that begin as a script's file does
module _ (bs : List ℕ) (s : Script) (w : Within s) (n : ℕ) (same : take n bs ≡ take n (file s)) where
  abbrev l : ℕ
  l = length s.locals

  section_alike : {X : Type 0} (at : List ℕ → ℕ → Result X FileFault) (size o least most : ℕ) {xs : List X}
      → ((p : ℕ) → p + size ≤ n → at bs p ≡ at (file s) p) → section (file s) at size o least most ≡ Ok xs → o + 2 + length xs * size ≤ n
      → section bs at size o least most ≡ Ok xs
  section_alike at size o least most {xs} agrees e h =
      let p = section_parts (file s) at size o least most e in
      section_of bs at size o least most (count_agrees bs (file s) n same o least most (omega arith) ∙ p.0)
      ∙ entries_agree bs (file s) n same at size agrees (o + 2) (length xs) h ∙ p.1

  counted : 2 ≤ n → count_at bs 0 0 64 ≡ Ok l
  counted h = count_agrees bs (file s) n same 0 0 64 h ∙ (section_parts (file s) type_at 1 0 0 64 (file_parts s w).locals).0

  locals_alike : 2 + l ≤ n → locals_in bs ≡ Ok s.locals
  locals_alike h = section_alike type_at 1 0 0 64 (type_agrees bs (file s) n same) (file_parts s w).locals (omega arith)

  labels_alike : 4 + l ≤ n → labels_in bs l ≡ Ok s.labels
  labels_alike h = count_agrees bs (file s) n same (2 + l) 0 32 (omega arith) ∙ (file_parts s w).labels

  nodes_counted : 6 + l ≤ n → count_at bs (4 + l) 1 1024 ≡ Ok (length s.nodes)
  nodes_counted h = count_agrees bs (file s) n same (4 + l) 1 1024 (omega arith) ∙ (section_parts (file s) node_at 14 (4 + l) 1 1024 (file_parts s w).nodes).0

  nodes_alike : 6 + l + length s.nodes * 14 ≤ n → nodes_in bs l ≡ Ok s.nodes
  nodes_alike h = section_alike node_at 14 (4 + l) 1 1024 (node_agrees bs (file s) n same) (file_parts s w).nodes (omega arith)

  -- the entries before a faulty one
  types_before : (i : ℕ) → i ≤ l → 2 + i ≤ n → (ys : List Primitive) × (entries (type_at bs) 1 2 i ≡ Ok ys)
  types_before i h r =
      let p = section_parts (file s) type_at 1 0 0 64 (file_parts s w).locals in
      let q = entries_fewer (type_at (file s)) 1 2 l p.1 i h in
      (q.0, entries_agree bs (file s) n same type_at 1 (type_agrees bs (file s) n same) 2 i (omega arith) ∙ q.1)

  nodes_before : (i : ℕ) → i ≤ length s.nodes → 6 + l + i * 14 ≤ n → (ys : List Node) × (entries (node_at bs) 14 (4 + l + 2) i ≡ Ok ys)
  nodes_before i h r =
      let p = section_parts (file s) node_at 14 (4 + l) 1 1024 (file_parts s w).nodes in
      let q = entries_fewer (node_at (file s)) 14 (4 + l + 2) (length s.nodes) p.1 i h in
      (q.0, entries_agree bs (file s) n same node_at 14 (node_agrees bs (file s) n same) (4 + l + 2) i (omega arith) ∙ q.1)

  -- a fault in a section, after the sections before it were read
  fault_in_labels : {f : FileFault} → 2 + l ≤ n → labels_in bs l ≡ Err f → script_in bs ≡ Err f
  fault_in_labels h e = stops_at_labels bs (locals_alike h) e

  fault_in_nodes : {f : FileFault} → 4 + l ≤ n → nodes_in bs l ≡ Err f → script_in bs ≡ Err f
  fault_in_nodes h e = stops_at_nodes bs (locals_alike (omega arith)) (labels_alike h) e

  fault_at_end : {f : FileFault} → 6 + l + length s.nodes * 14 ≤ n → end_at bs (6 + l + length s.nodes * 14) ≡ Err f → script_in bs ≡ Err f
  fault_at_end h e = stops_at_end bs (locals_alike (omega arith)) (labels_alike (omega arith)) (nodes_alike h) e

  fault_in_types : (i : ℕ) {f : FileFault} → i < l → 2 + i ≤ n → type_at bs (2 + i) ≡ Err f → script_in bs ≡ Err f
  fault_in_types i h r e =
      let p : 2 + i * 1 ≡ 2 + i = omega arith in
      stops_at_locals bs
      (section_of bs type_at 1 0 0 64 (counted (omega arith)) ∙ entries_stop (type_at bs) 1 2 l i (types_before i (omega arith) r).1 h (ap (type_at bs) p ∙ e))

  fault_in_node : (i : ℕ) {f : FileFault} → i < length s.nodes → 6 + l + i * 14 ≤ n → node_at bs (6 + l + i * 14) ≡ Err f → script_in bs ≡ Err f
  fault_in_node i h r e =
      let p : 4 + l + 2 + i * 14 ≡ 6 + l + i * 14 = omega arith in
      fault_in_nodes (omega arith)
      (section_of bs node_at 14 (4 + l) 1 1024 (nodes_counted (omega arith))
      ∙ entries_stop (node_at bs) 14 (4 + l + 2) (length s.nodes) i (nodes_before i (omega arith) r).1 h (ap (node_at bs) p ∙ e))

module _ (bs : List ℕ) where
  -- 1: the part is not whole
  pub found_cut : (s : Script) (o size : ℕ) → HasPart s o size → Within s → take o bs ≡ take o (file s) → length bs < o + size → script_in bs ≡ Err (Cut o)
  found_cut s o size locals_count w same h =
      stops_at_locals bs (section_miscounted bs type_at 1 0 0 64 (then_err _ (chunk_cut bs 0 2 h)))
  found_cut s o size (code_of_local i inside) w same h =
      fault_in_types bs s w (2 + i) same i inside (omega arith) (then_err _ (chunk_cut bs (2 + i) 1 h))
  found_cut s o size labels_count w same h =
      fault_in_labels bs s w (2 + length s.locals) same (omega arith) (then_err _ (chunk_cut bs (2 + length s.locals) 2 h))
  found_cut s o size nodes_count w same h =
      fault_in_nodes bs s w (4 + length s.locals) same (omega arith)
      (section_miscounted bs node_at 14 (4 + length s.locals) 1 1024 (then_err _ (chunk_cut bs (4 + length s.locals) 2 h)))
  found_cut s o size (node_at_place i inside) w same h =
      let p = 6 + length s.locals + i * 14 in
      fault_in_node bs s w p same i inside (omega arith) (then_err _ (chunk_cut bs p 14 h))

  -- 5: the file is whole, and bytes follow
  found_trailing : (s : Script) (o : ℕ) → Within s → take o bs ≡ file s → o < length bs → script_in bs ≡ Err (Trailing o)
  found_trailing s o w e h =
      let m = 6 + length s.locals + length s.nodes * 14 in
      let long : length (file s) ≡ o = sym (ap length e) ∙ length-take o bs ∙ omega arith in
      let same : take o bs ≡ take o (file s) = e ∙ sym (take_all o (file s) (omega arith)) in
      let at : m ≡ o = sym (length-file s) ∙ long in
      fault_at_end bs s w o same (omega arith)
      (ap (end_at bs) at ∙ cond-true (ltb o (length bs)) (Err (Trailing o)) (Ok tt) (lt-ltb o (length bs) h))

  -- a whole count that no file has is outside its limits
  count_refused : (o least most : ℕ) → o + 2 ≤ length bs → ((n : ℕ) → count_at bs o least most ≡ Ok n → ⊥) → count_at bs o least most ≡ Err (Count o)
  count_refused o least most whole none = go (count_at bs o least most) refl
    where
      go : (r : Result ℕ FileFault) → count_at bs o least most ≡ r → count_at bs o least most ≡ Err (Count o)
      go (Ok n) e = absurd (none n e)
      go (Err f) e =
          elim (count_wrong bs o least most e) [ inl p ↦ absurd (omega (arith, p.1)) | inr p ↦ e ∙ ap (λ (g : FileFault). Err g) p.0 ]

  -- a whole type code that no file has is above 5
  type_refused : (o : ℕ) → o + 1 ≤ length bs → ((t : Primitive) → type_at bs o ≡ Ok t → ⊥) → type_at bs o ≡ Err (TypeCode o)
  type_refused o whole none = go (type_at bs o) refl
    where
      go : (r : Result Primitive FileFault) → type_at bs o ≡ r → type_at bs o ≡ Err (TypeCode o)
      go (Ok t) e = absurd (none t e)
      go (Err f) e =
          elim (type_wrong bs o e) [ inl p ↦ absurd (omega (arith, p.1)) | inr p ↦ e ∙ ap (λ (g : FileFault). Err g) p.0 ]

  -- a script whose file begins so contradicts that there is none
  begun_so : (o size k : ℕ) → k ≡ o → NoFileBegins bs k → ValidBefore bs o size → ⊥
  begun_so o size k e none v = none v.script v.within (subst (λ (n : ℕ). take n bs ≡ take n (file v.script)) (sym e) v.same)

  module _ (bytes : Octets bs) where
    some_locals : (n : ℕ) → NoFileBegins bs 2 → count_at bs 0 0 64 ≡ Ok n → ⊥
    some_locals zero none e =
        let there = types_there 0 0 bs bytes 0 0 e refl in
        begun_so 2 2 2 refl none (valid_at_labels bs [] (omega arith) there.1 there.0)
    some_locals (suc n) none e =
        let there = types_there 0 0 bs bytes (suc n) 0 e refl in
        begun_so 2 1 2 refl none (valid_at_type bs (suc n) 0 [] (count_limit bs 0 0 64 e) (omega arith) refl there.1 there.0)

    module _ (s : Script) (w : Within s) where
      some_labels : (k : ℕ) → take (2 + length s.locals) bs ≡ take (2 + length s.locals) (file s) → NoFileBegins bs (2 + length s.locals + 2)
          → labels_in bs (length s.locals) ≡ Ok k → ⊥
      some_labels k same none e =
          let l = length s.locals in
          let read = locals_alike bs s w (2 + l) same (omega arith) in
          let there = labels_there 0 0 bs bytes s.locals read k e in
          begun_so (4 + l) 2 (2 + l + 2) (omega arith) none
          (valid_at_count bs s.locals (few 0 0 bs bytes s.locals read) k (few_labels 0 0 bs bytes s.locals read k e) there.1 there.0)

      some_nodes : (n : ℕ) → take (4 + length s.locals) bs ≡ take (4 + length s.locals) (file s) → NoFileBegins bs (4 + length s.locals + 2)
          → count_at bs (4 + length s.locals) 1 1024 ≡ Ok n → ⊥
      some_nodes n same none e =
          let l = length s.locals in
          let k = s.labels in
          let read = locals_alike bs s w (4 + l) same (omega arith) in
          let labelled = labels_alike bs s w (4 + l) same (omega arith) in
          let there = nodes_there 0 0 bs bytes s.locals read k labelled n 0 e refl in
          let c = count_parts bs bytes (4 + l) 1 1024 e in
          begun_so (6 + l + 0 * 14) 14 (4 + l + 2) (omega arith) none
          (valid_at_node bs s.locals (few 0 0 bs bytes s.locals read) k n 0 [] (few_labels 0 0 bs bytes s.locals read k labelled) c.1 c.0 refl tt there.1 there.0)

    -- 2: the count is whole, and no file goes on so
    found_count : (s : Script) (o size : ℕ) → HasPart s o size → size ≡ 2 → Within s → take o bs ≡ take o (file s) → o + 2 ≤ length bs
        → NoFileBegins bs (o + 2) → script_in bs ≡ Err (Count o)
    found_count s o size locals_count two w same whole none =
        stops_at_locals bs (section_miscounted bs type_at 1 0 0 64 (count_refused 0 0 64 whole (λ n e. some_locals n none e)))
    found_count s o size (code_of_local i inside) two w same whole none = absurd (omega arith)
    found_count s o size labels_count two w same whole none =
        fault_in_labels bs s w (2 + length s.locals) same (omega arith) (count_refused (2 + length s.locals) 0 32 whole (λ k e. some_labels s w k same none e))
    found_count s o size nodes_count two w same whole none =
        fault_in_nodes bs s w (4 + length s.locals) same (omega arith)
        (section_miscounted bs node_at 14 (4 + length s.locals) 1 1024 (count_refused (4 + length s.locals) 1 1024 whole (λ n e. some_nodes s w n same none e)))
    found_count s o size (node_at_place i inside) two w same whole none = absurd (omega arith)

    -- one type more would begin some file
    some_type : (s : Script) → Within s → (i : ℕ) (t : Primitive) → i < length s.locals → take (2 + i) bs ≡ take (2 + i) (file s)
        → NoFileBegins bs (2 + i + 1) → type_at bs (2 + i) ≡ Ok t → ⊥
    some_type s w i t inside same none e =
        let l = length s.locals in
        let counted_locals = counted bs s w (2 + i) same (omega arith) in
        let before = types_before bs s w (2 + i) same i (omega arith) (omega arith) in
        let once : 2 + i * 1 ≡ 2 + i = omega arith in
        let more = entries_more (type_at bs) 1 2 i before.1 (ap (type_at bs) once ∙ e) in
        let there = types_there 0 0 bs bytes l (suc i) counted_locals more.1 in
        let long : length more.0 ≡ suc i = entries_length (type_at bs) 1 2 (suc i) more.1 in
        elim (cases_lt (suc i) l) [
          | inl h ↦ begun_so (2 + suc i) 1 (2 + i + 1) (omega arith) none (valid_at_type bs l (suc i) more.0 w.locals h long there.1 there.0)
          | inr h ↦
              let all : l ≡ length more.0 = omega arith in
              let n : 2 + suc i ≡ 2 + length more.0 = omega arith in
              let front = ap (λ (m : ℕ). bytes_of 2 m ++ flat_map type_bytes more.0) (sym all) ∙ there.0 ∙ ap (λ (m : ℕ). take m bs) n in
              begun_so (2 + length more.0) 2 (2 + i + 1) (omega arith) none (valid_at_labels bs more.0 (omega (arith, w.locals)) (omega (arith, there.1)) front)
        ]

    -- 3: the type code is whole, and no file goes on so
    found_type : (s : Script) (o size : ℕ) → HasPart s o size → size ≡ 1 → Within s → take o bs ≡ take o (file s) → o + 1 ≤ length bs
        → NoFileBegins bs (o + 1) → script_in bs ≡ Err (TypeCode o)
    found_type s o size locals_count one w same whole none = absurd (omega arith)
    found_type s o size (code_of_local i inside) one w same whole none =
        fault_in_types bs s w (2 + i) same i inside (omega arith) (type_refused (2 + i) whole (λ t e. some_type s w i t inside same none e))
    found_type s o size labels_count one w same whole none = absurd (omega arith)
    found_type s o size nodes_count one w same whole none = absurd (omega arith)
    found_type s o size (node_at_place i inside) one w same whole none = absurd (omega arith)

    pub found : (types nodes : ℕ) (f : FileFault) → FirstFault types nodes bs f → answer types nodes bs ≡ Err f
    found types nodes (Cut o) p =
        let v = p.1 in then_err (placed types nodes) (found_cut v.script o p.0 v.begins v.within v.same p.3)
    found types nodes (Count o) p =
        let v = p.0 in then_err (placed types nodes) (found_count v.script o 2 v.begins refl v.within v.same p.1 p.2)
    found types nodes (TypeCode o) p =
        let v = p.0 in then_err (placed types nodes) (found_type v.script o 1 v.begins refl v.within v.same p.1 p.2)
    found types nodes (Trailing o) p = then_err (placed types nodes) (found_trailing p.0 o p.1 p.2 p.3)
    found types nodes Room p =
        then_ok (placed types nodes) (ap script_in p.2 ∙ file_read p.0 p.1) ∙ placed_full types nodes p.0 p.3
