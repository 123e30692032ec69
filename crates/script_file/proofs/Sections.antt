-- The sections of a file, and the script that they make.
use Rattle.std.proofs.Common.{◌≡◌, ℕ, zero, suc, ◌+◌, ◌*◌, List, [], length, Ok, Err, Result, sym, refl, ap, ap₂, ◌∙◌, subst}
use Rattle.java.specs.declared.types.Primitive.{Primitive}
use Rattle.script_file.specs.declared.fault.FileFault.{FileFault}
use Rattle.script.specs.declared.node.Node.{Node}
use Rattle.script.specs.Scripts.{Script}
use Rattle.script_file.specs.Reading.{and_then, mapped, locals_in, labels_in, nodes_in, count_at, end_at, entries, section, script_in, sizes_of}
use Rattle.script_file.specs.Steps.{tested}
use Rattle.script_file.proofs.Entries.{parted}
use Rattle.script_file.proofs.Then.{then_ok, then_err, then_parts, mapped_fault, mapped_parts}

-- as many entries as there should be
pub entries_length : {X : Type 0} (at : ℕ → Result X FileFault) (size o n : ℕ) {xs : List X} → entries at size o n ≡ Ok xs → length xs ≡ n
entries_length at size o zero {xs} h = let e : [] ≡ xs = cc in sym (ap length e)
entries_length at size o (suc n) {xs} h =
    let p = parted at size o n h in
    sym (ap length p.all) ∙ ap suc (entries_length at size (o + size) n p.behind)

module _ {X : Type 0} (bs : List ℕ) (at : List ℕ → ℕ → Result X FileFault) (size o least most : ℕ) where
  pub section_of : {n : ℕ} → count_at bs o least most ≡ Ok n → section bs at size o least most ≡ entries (at bs) size (o + 2) n
  unfolding section
  section_of e = then_ok (entries (at bs) size (o + 2)) e

  pub section_miscounted : {f : FileFault} → count_at bs o least most ≡ Err f → section bs at size o least most ≡ Err f
  unfolding section
  section_miscounted e = then_err (entries (at bs) size (o + 2)) e

  pub section_wrong : {n : ℕ} {f : FileFault} → count_at bs o least most ≡ Ok n → tested (entries (at bs) size (o + 2) n) ≡ Err f
      → section bs at size o least most ≡ Err f
  section_wrong {n} e h = section_of e ∙ mapped_fault (λ _. tt) (entries (at bs) size (o + 2) n) h

  pub section_right : {n : ℕ} → count_at bs o least most ≡ Ok n → tested (entries (at bs) size (o + 2) n) ≡ Ok tt
      → mapped length (section bs at size o least most) ≡ Ok n
  section_right {n} e h =
      let p = mapped_parts (λ _. tt) (entries (at bs) size (o + 2) n) h in
      ap (mapped length) (section_of e ∙ p.1) ∙ ap (λ (m : ℕ). Ok m) (entries_length (at bs) size (o + 2) n p.1)

  pub section_parts : {xs : List X} → section bs at size o least most ≡ Ok xs
      → (count_at bs o least most ≡ Ok (length xs)) × (entries (at bs) size (o + 2) (length xs) ≡ Ok xs)
  unfolding section
  section_parts {xs} h =
      let p = then_parts (count_at bs o least most) (entries (at bs) size (o + 2)) h in
      let e = entries_length (at bs) size (o + 2) p.0 p.2 in
      (p.1 ∙ ap (λ (n : ℕ). Ok n) (sym e), ap (entries (at bs) size (o + 2)) e ∙ p.2)

-- what is left to read once the locals, the labels or the nodes are read
abbrev pub then_end : List ℕ → List Primitive → ℕ → List Node → Result Script FileFault
then_end bs locals labels nodes =
    and_then (end_at bs (6 + length locals + length nodes * 14)) (λ _. Ok (record { locals = locals; labels = labels; nodes = nodes }))

abbrev pub then_nodes : List ℕ → List Primitive → ℕ → Result Script FileFault
then_nodes bs locals labels = and_then (nodes_in bs (length locals)) (then_end bs locals labels)

abbrev pub then_labels : List ℕ → List Primitive → Result Script FileFault
then_labels bs locals = and_then (labels_in bs (length locals)) (then_nodes bs locals)

pub script_stages : (bs : List ℕ) → script_in bs ≡ and_then (locals_in bs) (then_labels bs)
unfolding script_in
script_stages bs = refl

-- the first section that is wrong decides
module _ (bs : List ℕ) where
  pub stops_at_locals : {f : FileFault} → locals_in bs ≡ Err f → script_in bs ≡ Err f
  stops_at_locals wrong = script_stages bs ∙ then_err (then_labels bs) wrong

  module _ {xs : List Primitive} (locals : locals_in bs ≡ Ok xs) where
    to_labels : script_in bs ≡ then_labels bs xs
    to_labels = script_stages bs ∙ then_ok (then_labels bs) locals

    pub stops_at_labels : {f : FileFault} → labels_in bs (length xs) ≡ Err f → script_in bs ≡ Err f
    stops_at_labels wrong = to_labels ∙ then_err (then_nodes bs xs) wrong

    module _ {k : ℕ} (labels : labels_in bs (length xs) ≡ Ok k) where
      to_nodes : script_in bs ≡ then_nodes bs xs k
      to_nodes = to_labels ∙ then_ok (then_nodes bs xs) labels

      pub stops_at_nodes : {f : FileFault} → nodes_in bs (length xs) ≡ Err f → script_in bs ≡ Err f
      stops_at_nodes wrong = to_nodes ∙ then_err (then_end bs xs k) wrong

      pub stops_at_end : {ys : List Node} {f : FileFault} → nodes_in bs (length xs) ≡ Ok ys
          → end_at bs (6 + length xs + length ys * 14) ≡ Err f → script_in bs ≡ Err f
      stops_at_end nodes wrong = to_nodes ∙ then_ok (then_end bs xs k) nodes ∙ then_err _ wrong

-- each section of a script that was read, and nothing behind them
pub record Parts (bs : List ℕ) (s : Script) : Type 0 where
  pub locals : locals_in bs ≡ Ok s.locals
  pub labels : labels_in bs (length s.locals) ≡ Ok s.labels
  pub nodes : nodes_in bs (length s.locals) ≡ Ok s.nodes
  pub end : end_at bs (6 + length s.locals + length s.nodes * 14) ≡ Ok tt

pub script_from_parts : (bs : List ℕ) (s : Script) → Parts bs s → script_in bs ≡ Ok s
script_from_parts bs s p =
    script_stages bs ∙ then_ok (then_labels bs) p.locals ∙ then_ok (then_nodes bs s.locals) p.labels
    ∙ then_ok (then_end bs s.locals s.labels) p.nodes ∙ then_ok _ p.end

pub script_parts : (bs : List ℕ) (s : Script) → script_in bs ≡ Ok s → Parts bs s
script_parts bs s h =
    let p = then_parts (locals_in bs) (then_labels bs) (sym (script_stages bs) ∙ h) in
    let q = then_parts (labels_in bs (length p.0)) (then_nodes bs p.0) p.2 in
    let r = then_parts (nodes_in bs (length p.0)) (then_end bs p.0 q.0) q.2 in
    let t = then_parts (end_at bs (6 + length p.0 + length r.0 * 14)) (λ _. Ok (record { locals = p.0; labels = q.0; nodes = r.0 })) r.2 in
    let e : record { locals = p.0; labels = q.0; nodes = r.0 } ≡ s = let k = t.2 in cc in
    subst (Parts bs) e (record { locals = p.1; labels = q.1; nodes = r.1; end = t.1 })

-- the sizes of what is read follow from the sections' sizes alone
module _ (bs : List ℕ) where
  pub locals_wrong : {f : FileFault} → mapped length (locals_in bs) ≡ Err f → mapped sizes_of (script_in bs) ≡ Err f
  locals_wrong wrong = ap (mapped sizes_of) (stops_at_locals bs (mapped_fault length (locals_in bs) wrong))

  module _ {l : ℕ} (locals : mapped length (locals_in bs) ≡ Ok l) where
    pub labels_wrong : {f : FileFault} → labels_in bs l ≡ Err f → mapped sizes_of (script_in bs) ≡ Err f
    labels_wrong wrong =
        let p = mapped_parts length (locals_in bs) locals in
        ap (mapped sizes_of) (stops_at_labels bs p.1 (ap (labels_in bs) p.2 ∙ wrong))

    module _ {k : ℕ} (labels : labels_in bs l ≡ Ok k) where
      pub nodes_wrong : {f : FileFault} → mapped length (nodes_in bs l) ≡ Err f → mapped sizes_of (script_in bs) ≡ Err f
      nodes_wrong wrong =
          let p = mapped_parts length (locals_in bs) locals in
          let fault = mapped_fault length (nodes_in bs l) wrong in
          ap (mapped sizes_of) (stops_at_nodes bs p.1 (ap (labels_in bs) p.2 ∙ labels) (ap (nodes_in bs) p.2 ∙ fault))

      module _ {n : ℕ} (nodes : mapped length (nodes_in bs l) ≡ Ok n) where
        pub end_wrong : {f : FileFault} → end_at bs (6 + l + n * 14) ≡ Err f → mapped sizes_of (script_in bs) ≡ Err f
        end_wrong wrong =
            let p = mapped_parts length (locals_in bs) locals in
            let q = mapped_parts length (nodes_in bs l) nodes in
            let fault = ap₂ (λ (l' n' : ℕ). end_at bs (6 + l' + n' * 14)) p.2 q.2 ∙ wrong in
            ap (mapped sizes_of) (stops_at_end bs p.1 (ap (labels_in bs) p.2 ∙ labels) (ap (nodes_in bs) p.2 ∙ q.1) fault)

        pub all_right : end_at bs (6 + l + n * 14) ≡ Ok tt → mapped sizes_of (script_in bs) ≡ Ok (record { locals = l; labels = k; nodes = n })
        all_right right =
            let p = mapped_parts length (locals_in bs) locals in
            let q = mapped_parts length (nodes_in bs l) nodes in
            let parts : Parts bs (record { locals = p.0; labels = k; nodes = q.0 }) = record {
              locals = p.1;
              labels = ap (labels_in bs) p.2 ∙ labels;
              nodes = ap (nodes_in bs) p.2 ∙ q.1;
              end = ap₂ (λ (l' n' : ℕ). end_at bs (6 + l' + n' * 14)) p.2 q.2 ∙ right;
            } in
            ap (mapped sizes_of) (script_from_parts bs _ parts) ∙ (λ i. Ok (record { locals = p.2 i; labels = k; nodes = q.2 i }))
