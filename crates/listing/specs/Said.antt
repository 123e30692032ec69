-- What is said of a file's bytes.
use Rattle.std.specs.Prelude.{◌≡◌, ℕ, true, List, [], ◌∷◌, ◌++◌, length, is_ok, Ok, Err, string_bytes, codes, decimal, Result, String}
use Rattle.std.specs.declared.alloc.Global.{Global}
use Rattle.script_file.specs.Faults.{fault_text}
use Rattle.script_file.specs.Reading.{answer}
use Rattle.listing.specs.declared.texts.ListFault.{ListFault}
use Rattle.listing.specs.declared.texts.ListFault.TheVariants.{Memory, Refused}

-- the last line of a listing
abbrev pub last_line : List ℕ → ℕ → List ℕ
last_line path size = codes "read " ++ (path ++ (codes " whole: " ++ (decimal size ++ (codes " bytes" ++ (10 ∷ [])))))

-- each fault in words; the reader's are its own
abbrev pub fault_words : ListFault → List ℕ
fault_words (Refused fault) = fault_text fault
fault_words Memory = codes "out of memory"

-- a listing with its last line for bytes that are read, if there is memory for it, and the reader's refusal for others
abbrev pub Said : List ℕ → List ℕ → Result (String Global) ListFault → Type 0
Said path bs (Ok text) =
    (is_ok (answer 64 1024 bs) ≡ true) × ((listing : List ℕ) × (string_bytes text ≡ listing ++ last_line path (length bs)))
Said path bs (Err (Refused fault)) = answer 64 1024 bs ≡ Err fault
Said path bs (Err Memory) = is_ok (answer 64 1024 bs) ≡ true
