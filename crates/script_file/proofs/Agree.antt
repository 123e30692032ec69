-- Bytes that begin alike are read alike, as far as they are alike.
use Rattle.std.proofs.Common.{◌≡◌, ℕ, zero, suc, ◌+◌, ◌-◌, ◌*◌, ◌<◌, ◌≤◌, min, ltb, ◌⊎◌, List, ◌∷◌, length, get_or, take, drop, Ok, Err, Result, sym, refl, ap, ◌∙◌, ap₂, inl, inr, mul-le-mul_right, suc-mul, arith}
use Rattle.std.proofs.lemmas.List.{drop-take, length-take, take-take}
use Rattle.std.proofs.lemmas.Bool.{cases_lt, cond-false, cond-true, le-ltb, lt-ltb}
use Rattle.std.specs.Option.{ok_or}
use Rattle.java.specs.declared.types.Primitive.{Primitive}
use Rattle.java.specs.Types.{type_of}
use Rattle.script_file.specs.declared.fault.FileFault.{FileFault}
use Rattle.script_file.specs.declared.fault.FileFault.TheVariants.{Cut, Trailing, TypeCode}
use Rattle.script.specs.declared.node.Node.{Node}
use Rattle.script_file.specs.Format.{node_of, number_of, part}
use Rattle.script_file.specs.Reading.{and_then, chunk_at, count_at, end_at, entries, labels_in, limited, locals_in, node_at, nodes_in, script_in, section, type_at}
use Rattle.script_file.proofs.Sections.{script_stages, section_parts, then_end, then_labels, then_nodes}
use Rattle.script_file.proofs.Then.{then_same}
use Rattle.script_file.proofs.ToFile.{count_limit}

part_front : (o k n : ℕ) (bs : List ℕ) → o + k ≤ n → part o k (take n bs) ≡ part o k bs
part_front o k n bs h =
    let e : o + (n - o) ≡ n = omega arith in
    ap (λ (m : ℕ). take k (drop o (take m bs))) (sym e) ∙ ap (take k) (drop-take o (n - o) bs) ∙ take-take k (n - o) (drop o bs) (omega arith)

module _ (bs other : List ℕ) (n : ℕ) (same : take n bs ≡ take n other) where
  chunk_agrees : (o k : ℕ) → o + k ≤ n → chunk_at bs o k ≡ chunk_at other o k
  chunk_agrees o k h = go (cases_lt (length bs) (o + k))
    where
      long : min n (length bs) ≡ min n (length other)
      long = sym (length-take n bs) ∙ ap length same ∙ length-take n other

      go : (length bs < o + k) ⊎ (o + k ≤ length bs) → chunk_at bs o k ≡ chunk_at other o k
      go (inl l) =
          let m : length other < o + k = omega (arith, long) in
          cond-true (ltb (length bs) (o + k)) (Err (Cut o)) (Ok (part o k bs)) (lt-ltb (length bs) (o + k) l)
          ∙ sym (cond-true (ltb (length other) (o + k)) (Err (Cut o)) (Ok (part o k other)) (lt-ltb (length other) (o + k) m))
      go (inr l) =
          let m : o + k ≤ length other = omega (arith, long) in
          let parts : part o k bs ≡ part o k other = sym (part_front o k n bs h) ∙ ap (part o k) same ∙ part_front o k n other h in
          cond-false (ltb (length bs) (o + k)) (Err (Cut o)) (Ok (part o k bs)) (le-ltb (length bs) (o + k) l)
          ∙ ap (λ (p : List ℕ). Ok p) parts
          ∙ sym (cond-false (ltb (length other) (o + k)) (Err (Cut o)) (Ok (part o k other)) (le-ltb (length other) (o + k) m))

  pub count_agrees : (o least most : ℕ) → o + 2 ≤ n → count_at bs o least most ≡ count_at other o least most
  count_agrees o least most h = ap (λ (r : Result (List ℕ) FileFault). and_then r (λ word. limited o least most (number_of word))) (chunk_agrees o 2 h)

  pub type_agrees : (o : ℕ) → o + 1 ≤ n → type_at bs o ≡ type_at other o
  type_agrees o h = ap (λ (r : Result (List ℕ) FileFault). and_then r (λ byte. ok_or (type_of (get_or byte 0 0)) (TypeCode o))) (chunk_agrees o 1 h)

  pub node_agrees : (o : ℕ) → o + 14 ≤ n → node_at bs o ≡ node_at other o
  node_agrees o h = ap (λ (r : Result (List ℕ) FileFault). and_then r (λ bytes. Ok (node_of bytes))) (chunk_agrees o 14 h)

  pub entries_agree : {X : Type 0} (at : List ℕ → ℕ → Result X FileFault) (size : ℕ)
      → ((o : ℕ) → o + size ≤ n → at bs o ≡ at other o) → (o m : ℕ) → o + m * size ≤ n → entries (at bs) size o m ≡ entries (at other) size o m
  entries_agree at size agrees o zero h = refl
  entries_agree {X} at size agrees o (suc m) h =
      let e : suc m * size ≡ m * size + size = suc-mul m size in
      ap₂ (λ (r : Result X FileFault) (s : Result (List X) FileFault). and_then r (λ x. and_then s (λ xs. Ok (x ∷ xs))))
      (agrees o (omega arith)) (entries_agree at size agrees (o + size) m (omega arith))

  pub section_agrees : {X : Type 0} (at : List ℕ → ℕ → Result X FileFault) (size o least most : ℕ)
      → ((p : ℕ) → p + size ≤ n → at bs p ≡ at other p) → o + 2 + most * size ≤ n → section bs at size o least most ≡ section other at size o least most
  unfolding section
  section_agrees {X} at size o least most agrees h =
      then_same (count_at bs o least most) (entries (at bs) size (o + 2)) (entries (at other) size (o + 2))
      (λ m e. entries_agree at size agrees (o + 2) m (omega (arith, mul-le-mul_right size (count_limit bs o least most e))))
      ∙ ap (λ (r : Result ℕ FileFault). and_then r (entries (at other) size (o + 2))) (count_agrees o least most (omega arith))

-- one byte more than the longest file decides
pub script_agrees : (bs other : List ℕ) → take 14407 bs ≡ take 14407 other → script_in bs ≡ script_in other
script_agrees bs other same =
    script_stages bs
    ∙ ap (λ (r : Result (List Primitive) FileFault). and_then r (then_labels bs)) (section_agrees bs other 14407 same type_at 1 0 0 64 (type_agrees bs other 14407 same) (omega arith))
    ∙ then_same (locals_in other) (then_labels bs) (then_labels other)
    (λ xs e. let few = count_limit other 0 0 64 (section_parts other type_at 1 0 0 64 e).0 in labels xs few)
    ∙ sym (script_stages other)
  where
    long : min 14407 (length bs) ≡ min 14407 (length other)
    long = sym (length-take 14407 bs) ∙ ap length same ∙ length-take 14407 other

    end : (o : ℕ) → o < 14407 → end_at bs o ≡ end_at other o
    end o h = go (cases_lt o (length bs))
      where
        go : (o < length bs) ⊎ (length bs ≤ o) → end_at bs o ≡ end_at other o
        go (inl l) =
            let m : o < length other = omega (arith, long) in
            cond-true (ltb o (length bs)) (Err (Trailing o)) (Ok tt) (lt-ltb o (length bs) l) ∙ sym (cond-true (ltb o (length other)) (Err (Trailing o)) (Ok tt) (lt-ltb o (length other) m))
        go (inr l) =
            let m : length other ≤ o = omega (arith, long) in
            cond-false (ltb o (length bs)) (Err (Trailing o)) (Ok tt) (le-ltb o (length bs) l) ∙ sym (cond-false (ltb o (length other)) (Err (Trailing o)) (Ok tt) (le-ltb o (length other) m))

    nodes : (xs : List Primitive) → length xs ≤ 64 → (k : ℕ) → then_nodes bs xs k ≡ then_nodes other xs k
    nodes xs few k =
        ap (λ (r : Result (List Node) FileFault). and_then r (then_end bs xs k)) (section_agrees bs other 14407 same node_at 14 (4 + length xs) 1 1024 (node_agrees bs other 14407 same) (omega arith))
        ∙ then_same (nodes_in other (length xs)) (then_end bs xs k) (then_end other xs k)
        (λ ys e.
        let most = count_limit other (4 + length xs) 1 1024 (section_parts other node_at 14 (4 + length xs) 1 1024 e).0 in
        ap (λ (r : Result (Unit {0}) FileFault). and_then r (λ _. Ok (record { locals = xs; labels = k; nodes = ys }))) (end (6 + length xs + length ys * 14) (omega arith)))

    labels : (xs : List Primitive) → length xs ≤ 64 → then_labels bs xs ≡ then_labels other xs
    labels xs few =
        ap (λ (r : Result ℕ FileFault). and_then r (then_nodes bs xs)) (count_agrees bs other 14407 same (2 + length xs) 0 32 (omega arith))
        ∙ then_same (labels_in other (length xs)) (then_nodes bs xs) (then_nodes other xs) (λ k _. nodes xs few k)
