-- A file without its end: it ends within some part, which is then not whole.
use Rattle.std.proofs.Common.{◌≡◌, ℕ, ◌+◌, ◌-◌, ◌*◌, ◌/◌, ◌<◌, ◌≤◌, ◌⊎◌, List, ◌++◌, length, take, Err, sym, ap, ◌∙◌, inl, inr, arith, length-append}
use Rattle.std.proofs.lemmas.List.{take-append-le}
use Rattle.std.proofs.lemmas.Bool.{cases_lt}
use Rattle.script.specs.Scripts.{Script}
use Rattle.script_file.specs.declared.fault.FileFault.TheVariants.{Cut}
use Rattle.script_file.specs.Format.{Within, file}
use Rattle.script_file.specs.Laws.{HasPart, code_of_local, labels_count, locals_count, node_at_place, nodes_count}
use Rattle.script_file.specs.Reading.{script_in}
use Rattle.script_file.proofs.Found.{found_cut}
use Rattle.script_file.proofs.OfFile.{length-file}

-- a part of the file that holds the byte at k
abbrev PartAt : Script → ℕ → Type 0
PartAt s k = (o : ℕ) × (size : ℕ) × HasPart s o size × (o ≤ k) × (k < o + size)

-- the parts of a file leave no gap
part_at : (s : Script) (k : ℕ) → k < 6 + length s.locals + length s.nodes * 14 → PartAt s k
part_at s k h = in_locals (cases_lt k 2)
  where
    in_nodes : 6 + length s.locals ≤ k → PartAt s k
    in_nodes low =
        let i = (k - (6 + length s.locals)) / 14 in
        (6 + length s.locals + i * 14, 14, node_at_place i (omega arith), omega arith, omega arith)

    in_count : (k < 6 + length s.locals) ⊎ (6 + length s.locals ≤ k) → 4 + length s.locals ≤ k → PartAt s k
    in_count (inl high) low = (4 + length s.locals, 2, nodes_count, low, omega arith)
    in_count (inr high) low = in_nodes high

    in_labels : (k < 4 + length s.locals) ⊎ (4 + length s.locals ≤ k) → 2 + length s.locals ≤ k → PartAt s k
    in_labels (inl high) low = (2 + length s.locals, 2, labels_count, low, omega arith)
    in_labels (inr high) low = in_count (cases_lt k (6 + length s.locals)) high

    in_types : (k < 2 + length s.locals) ⊎ (2 + length s.locals ≤ k) → 2 ≤ k → PartAt s k
    in_types (inl high) low = (2 + (k - 2), 1, code_of_local (k - 2) (omega arith), omega arith, omega arith)
    in_types (inr high) low = in_labels (cases_lt k (4 + length s.locals)) high

    in_locals : (k < 2) ⊎ (2 ≤ k) → PartAt s k
    in_locals (inl high) = (0, 2, locals_count, omega arith, omega arith)
    in_locals (inr high) = in_types (cases_lt k (2 + length s.locals)) high

pub cut_short : (bs lost : List ℕ) (s : Script) → Within s → 0 < length lost → bs ++ lost ≡ file s
    → (o : ℕ) × (size : ℕ) × HasPart s o size × (o ≤ length bs) × (length bs < o + size) × (script_in bs ≡ Err (Cut o))
cut_short bs lost s w some e =
    let less : length bs < 6 + length s.locals + length s.nodes * 14 = omega (arith, length-append bs lost, ap length e, length-file s) in
    let p = part_at s (length bs) less in
    let same : take p.0 bs ≡ take p.0 (file s) = sym (take-append-le p.0 bs lost p.3) ∙ ap (take p.0) e in
    (p.0, p.1, p.2, p.3, p.4, found_cut bs s p.0 p.1 p.2 w same p.4)
