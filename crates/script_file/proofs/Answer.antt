-- What reading answers keeps the laws, and follows from what the code found.
use Rattle.std.proofs.Common.{◌≡◌, ℕ, ◌+◌, ◌≤◌, List, length, is_ok, Ok, Err, Result, sym, ap, ◌∙◌, subst, ap₂, inl, inr, arith}
use Rattle.java.specs.declared.types.Primitive.{Primitive}
use Rattle.script_file.specs.declared.fault.FileFault.{FileFault}
use Rattle.script_file.specs.declared.file.Sizes.{Sizes}
use Rattle.script.specs.declared.node.Node.{Node}
use Rattle.script.specs.Scripts.{Script}
use Rattle.script_file.specs.Format.{Within, file}
use Rattle.script_file.specs.Laws.{FirstFault, Truncated, DecidedByPrefix, Exact, FileOf, Lawful}
use Rattle.script_file.specs.Reading.{and_then, answer, entries, mapped, node_at, placed, script_in, sizes_of, type_at}
use Rattle.script_file.specs.Steps.{Readable}
use Rattle.script_file.proofs.Agree.{script_agrees}
use Rattle.script_file.proofs.Blame.{blamed}
use Rattle.script_file.proofs.Bytes.{Octets}
use Rattle.script_file.proofs.Found.{found}
use Rattle.script_file.proofs.OfFile.{file_read}
use Rattle.script_file.proofs.Placed.{placed_fits, placed_refused, placed_there}
use Rattle.script_file.proofs.Sections.{script_parts, section_parts}
use Rattle.script_file.proofs.Short.{cut_short}
use Rattle.script_file.proofs.Then.{mapped_parts, then_err, then_fault, then_ok, then_parts}
use Rattle.script_file.proofs.ToFile.{count_parts, read_file}

module _ (types nodes : ℕ) (bs : List ℕ) (bytes : Octets bs) where
  exact : Exact types nodes bs (answer types nodes bs)
  exact s = (read_to, file_of)
    where
      read_to : answer types nodes bs ≡ Ok s → FileOf types nodes bs s × ((other : Script) → Within other → bs ≡ file other → other ≡ s)
      read_to h =
          let p = then_parts (script_in bs) (placed types nodes) h in
          let q = placed_there types nodes p.0 p.2 in
          let whole = p.1 ∙ ap (λ (t : Script). Ok t) q.2 in
          let rf = read_file bs bytes s (script_parts bs s whole) in (
            record {
              within = rf.1;
              bytes = rf.0;
              locals_fit = subst (λ (t : Script). length t.locals ≤ types) q.2 q.0;
              nodes_fit = subst (λ (t : Script). length t.nodes ≤ nodes) q.2 q.1;
            },
            λ other w e. let k = sym (ap script_in e ∙ file_read other w) ∙ whole in cc,
          )

      file_of : FileOf types nodes bs s → answer types nodes bs ≡ Ok s
      file_of f =
          then_ok (placed types nodes) (ap script_in f.bytes ∙ file_read s f.within) ∙ placed_fits types nodes s f.locals_fit f.nodes_fit

  truncated : Truncated bs (answer types nodes bs)
  truncated s lost w some e =
      let p = cut_short bs lost s w some e in
      (p.0, p.1, p.2, p.3, p.4, then_err (placed types nodes) p.5)

  decided : DecidedByPrefix types nodes bs (answer types nodes bs)
  decided other e = ap (λ (r : Result Script FileFault). and_then r (placed types nodes)) (script_agrees other bs e)

  blames : (f : FileFault) → answer types nodes bs ≡ Err f → FirstFault types nodes bs f
  blames f h =
      elim (then_fault (script_in bs) (placed types nodes) h) [
        | inl e ↦ blamed types nodes bs bytes e
        | inr p ↦
            let q = placed_refused types nodes p.0 p.2 in
            let rf = read_file bs bytes p.0 (script_parts bs p.0 p.1) in
            subst (FirstFault types nodes bs) q.1 (p.0, rf.1, rf.0, q.0)
      ]

  pub lawful : Lawful types nodes bs (answer types nodes bs)
  lawful = record { exact = exact; truncated = truncated; refused = λ f. (blames f, found bs bytes types nodes f); decided = decided }

  module _ (z : Sizes) (sized : mapped sizes_of (script_in bs) ≡ Ok z) where
    -- what was tested is there to be written
    record Tested : Type 0 where
      pub script : Script
      pub read : script_in bs ≡ Ok script
      pub sizes : sizes_of script ≡ z
      pub few_locals : z.locals ≤ 64
      pub few_nodes : z.nodes ≤ 1024
      pub types_there : entries (type_at bs) 1 2 z.locals ≡ Ok script.locals
      pub nodes_there : entries (node_at bs) 14 (6 + z.locals) z.nodes ≡ Ok script.nodes

    tested : Tested
    tested =
        let p = mapped_parts sizes_of (script_in bs) sized in
        let s = p.0 in
        let parts = script_parts bs s p.1 in
        let l : length s.locals ≡ z.locals = ap (λ (y : Sizes). y.locals) p.2 in
        let n : length s.nodes ≡ z.nodes = ap (λ (y : Sizes). y.nodes) p.2 in
        let locals = section_parts bs type_at 1 0 0 64 parts.locals in
        let ns = section_parts bs node_at 14 (4 + length s.locals) 1 1024 parts.nodes in
        let at : 4 + length s.locals + 2 ≡ 6 + z.locals = omega arith in
        let few = (count_parts bs bytes 0 0 64 locals.0).1 in
        let some = (count_parts bs bytes (4 + length s.locals) 1 1024 ns.0).1 in
        record {
          script = s;
          read = p.1;
          sizes = p.2;
          few_locals = omega arith;
          few_nodes = omega arith;
          types_there = ap (entries (type_at bs) 1 2) (sym l) ∙ locals.1;
          nodes_there = sym (ap₂ (entries (node_at bs) 14) at n) ∙ ns.1;
        }

    module _ (a : z.locals ≤ types) (b : z.nodes ≤ nodes) where
      whole : answer types nodes bs ≡ Ok tested.script
      whole =
          let t = tested in
          let s = t.script in
          let l : length s.locals ≡ z.locals = ap (λ (y : Sizes). y.locals) t.sizes in
          let n : length s.nodes ≡ z.nodes = ap (λ (y : Sizes). y.nodes) t.sizes in
          then_ok (placed types nodes) t.read ∙ placed_fits types nodes s (omega arith) (omega arith)

      answer_right : (written : List Primitive) (put : List Node)
          → entries (type_at bs) 1 2 z.locals ≡ Ok written → entries (node_at bs) 14 (6 + z.locals) z.nodes ≡ Ok put
          → answer types nodes bs ≡ Ok (record { locals = written; labels = z.labels; nodes = put })
      answer_right written put e f =
          let t = tested in
          let s = t.script in
          let k : s.labels ≡ z.labels = ap (λ (y : Sizes). y.labels) t.sizes in
          let ts : s.locals ≡ written = let h = t.types_there in cc in
          let xs : s.nodes ≡ put = let h = t.nodes_there in cc in
          whole ∙ (λ i. Ok (record { locals = ts i; labels = k i; nodes = xs i }))

      pub answer_readable : Readable types nodes bs z
      answer_readable = record {
        types_fit = a;
        nodes_fit = b;
        few_types = tested.few_locals;
        few_nodes = tested.few_nodes;
        types_right = ap is_ok tested.types_there;
        nodes_right = ap is_ok tested.nodes_there;
        whole = answer_right;
      }
