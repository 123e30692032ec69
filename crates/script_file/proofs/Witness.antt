-- Scripts whose files begin with the bytes that were right so far.
use Rattle.std.proofs.Common.{◌≡◌, ℕ, zero, suc, ◌+◌, ◌-◌, ◌*◌, ◌<◌, ◌≤◌, List, [], ◌∷◌, ◌++◌, length, take, replicate, pos, sym, refl, ap, ◌∙◌, ap₂, append_assoc, arith, length-append, length-take, take-add}
use lib.ListN.{length-replicate}
use Rattle.std.proofs.ByRecursion.{All-append}
use Rattle.std.proofs.lemmas.Grind.{flat_map-append}
use Rattle.std.proofs.lemmas.List.{take_at}
use Rattle.std.specs.List.{flat_map, AllByRecursion}
use Rattle.java.specs.declared.types.Primitive.{Primitive}
use Rattle.java.specs.declared.types.Primitive.TheVariants.{Boolean}
use Rattle.script.specs.declared.node.Node.{Node}
use Rattle.script.specs.Scripts.{Script}
use Rattle.script_file.specs.Format.{NodeFits, bytes_of, file, node_bytes, part, type_bytes}
use Rattle.script_file.specs.Laws.{ValidBefore, code_of_local, labels_count, locals_count, node_at_place, nodes_count}

abbrev plain : Node
plain = record { kind = 0; detail = 0; up = record { 0 = 0 }; end = record { 0 = 0 }; number = pos 0 }

plain_fits : NodeFits plain
plain_fits = record { kind = omega arith; detail = omega arith; up = omega arith; end = omega arith; number = record { sfits = omega arith } }

all_plain : (n : ℕ) → AllByRecursion NodeFits (replicate n plain)
all_plain zero = tt
all_plain (suc n) = (plain_fits, all_plain n)

-- one part more of the bytes
pub longer : (bs : List ℕ) (o k : ℕ) {front more : List ℕ} → front ≡ take o bs → more ≡ part o k bs → front ++ more ≡ take (o + k) bs
longer bs o k e f = ap₂ ◌++◌ e f ∙ sym (take-add o k bs)

module _ (bs : List ℕ) where
  same_front : (front rest whole : List ℕ) (o : ℕ) → front ≡ take o bs → o ≤ length bs → whole ≡ front ++ rest → take o bs ≡ take o whole
  same_front front rest whole o e h w =
      let long : length front ≡ o = ap length e ∙ length-take o bs ∙ omega arith in
      sym (ap (take o) w ∙ take_at front rest o long ∙ e)

  pub valid_at_start : ValidBefore bs 0 2
  valid_at_start = record {
    script = record { locals = []; labels = 0; nodes = plain ∷ [] };
    within = record { locals = omega arith; labels = omega arith; least = omega arith; nodes = omega arith; fits = (plain_fits, tt) };
    begins = locals_count;
    same = refl;
  }

  pub valid_at_type : (locals i : ℕ) (types : List Primitive) → locals ≤ 64 → i < locals → length types ≡ i → 2 + i ≤ length bs
      → bytes_of 2 locals ++ flat_map type_bytes types ≡ take (2 + i) bs → ValidBefore bs (2 + i) 1
  valid_at_type locals i types few inside long reached e =
      let pad = replicate (locals - i) Boolean in
      let all = types ++ pad in
      let count : length all ≡ locals = omega (arith, length-append types pad, length-replicate (locals - i) Boolean) in
      let rest = flat_map type_bytes pad ++ (bytes_of 2 0 ++ (bytes_of 2 1 ++ flat_map node_bytes (plain ∷ []))) in
      let s : Script = record { locals = all; labels = 0; nodes = plain ∷ [] } in
      let cut : file s ≡ (bytes_of 2 locals ++ flat_map type_bytes types) ++ rest =
      ap₂ (λ (n : ℕ) (t : List ℕ). bytes_of 2 n ++ (t ++ (bytes_of 2 0 ++ (bytes_of 2 1 ++ flat_map node_bytes (plain ∷ []))))) count (flat_map-append type_bytes types pad)
      ∙ ap (λ (t : List ℕ). bytes_of 2 locals ++ t) (append_assoc (flat_map type_bytes types) (flat_map type_bytes pad) (bytes_of 2 0 ++ (bytes_of 2 1 ++ flat_map node_bytes (plain ∷ []))))
      ∙ sym (append_assoc (bytes_of 2 locals) (flat_map type_bytes types) rest) in
      record {
        script = s;
        within = record { locals = omega arith; labels = omega arith; least = omega arith; nodes = omega arith; fits = (plain_fits, tt) };
        begins = code_of_local i (omega arith);
        same = same_front (bytes_of 2 locals ++ flat_map type_bytes types) rest (file s) (2 + i) e reached cut;
      }

  -- a script whose locals were read
  module _ (types : List Primitive) (few : length types ≤ 64) where
    abbrev pub begun : ℕ → List Node → Script
    begun labels nodes = record { locals = types; labels = labels; nodes = nodes }

    abbrev pub types_front : List ℕ
    types_front = bytes_of 2 (length types) ++ flat_map type_bytes types

    abbrev pub labels_front : ℕ → List ℕ
    labels_front labels = types_front ++ bytes_of 2 labels

    abbrev pub count_front : ℕ → ℕ → List ℕ
    count_front labels nodes = labels_front labels ++ bytes_of 2 nodes

    after_types : (labels : ℕ) (nodes : List Node) → file (begun labels nodes) ≡ types_front ++ (bytes_of 2 labels ++ (bytes_of 2 (length nodes) ++ flat_map node_bytes nodes))
    after_types labels nodes = sym (append_assoc (bytes_of 2 (length types)) (flat_map type_bytes types) (bytes_of 2 labels ++ (bytes_of 2 (length nodes) ++ flat_map node_bytes nodes)))

    after_labels : (labels : ℕ) (nodes : List Node) → file (begun labels nodes) ≡ labels_front labels ++ (bytes_of 2 (length nodes) ++ flat_map node_bytes nodes)
    after_labels labels nodes = after_types labels nodes ∙ sym (append_assoc types_front (bytes_of 2 labels) (bytes_of 2 (length nodes) ++ flat_map node_bytes nodes))

    pub after_count : (labels : ℕ) (nodes : List Node) → file (begun labels nodes) ≡ count_front labels (length nodes) ++ flat_map node_bytes nodes
    after_count labels nodes = after_labels labels nodes ∙ sym (append_assoc (labels_front labels) (bytes_of 2 (length nodes)) (flat_map node_bytes nodes))

    pub valid_at_labels : 2 + length types ≤ length bs → types_front ≡ take (2 + length types) bs → ValidBefore bs (2 + length types) 2
    valid_at_labels reached e = record {
      script = begun 0 (plain ∷ []);
      within = record { locals = few; labels = omega arith; least = omega arith; nodes = omega arith; fits = (plain_fits, tt) };
      begins = labels_count;
      same = same_front types_front _ (file (begun 0 (plain ∷ []))) (2 + length types) e reached (after_types 0 (plain ∷ []));
    }

    pub valid_at_count : (labels : ℕ) → labels ≤ 32 → 4 + length types ≤ length bs → labels_front labels ≡ take (4 + length types) bs → ValidBefore bs (4 + length types) 2
    valid_at_count labels few_labels reached e = record {
      script = begun labels (plain ∷ []);
      within = record { locals = few; labels = few_labels; least = omega arith; nodes = omega arith; fits = (plain_fits, tt) };
      begins = nodes_count;
      same = same_front (labels_front labels) _ (file (begun labels (plain ∷ []))) (4 + length types) e reached (after_labels labels (plain ∷ []));
    }

    pub valid_at_node : (labels nodes i : ℕ) (right : List Node) → labels ≤ 32 → nodes ≤ 1024 → i < nodes → length right ≡ i → AllByRecursion NodeFits right
        → 6 + length types + i * 14 ≤ length bs → count_front labels nodes ++ flat_map node_bytes right ≡ take (6 + length types + i * 14) bs
        → ValidBefore bs (6 + length types + i * 14) 14
    valid_at_node labels nodes i right few_labels few_nodes inside long fit reached e =
        let pad = replicate (nodes - i) plain in
        let all = right ++ pad in
        let count : length all ≡ nodes = omega (arith, length-append right pad, length-replicate (nodes - i) plain) in
        let s = begun labels all in
        let cut : file s ≡ (count_front labels nodes ++ flat_map node_bytes right) ++ flat_map node_bytes pad =
        after_count labels all
        ∙ ap₂ (λ (n : ℕ) (t : List ℕ). count_front labels n ++ t) count (flat_map-append node_bytes right pad)
        ∙ sym (append_assoc (count_front labels nodes) (flat_map node_bytes right) (flat_map node_bytes pad)) in
        record {
          script = s;
          within = record { locals = few; labels = few_labels; least = omega arith; nodes = omega arith; fits = All-append NodeFits right pad fit (all_plain (nodes - i)) };
          begins = node_at_place i (omega arith);
          same = same_front (count_front labels nodes ++ flat_map node_bytes right) (flat_map node_bytes pad) (file s) (6 + length types + i * 14) e reached cut;
        }
