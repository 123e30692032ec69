-- The refusals of reading: number, offset and words.
use Rattle.std.specs.Prelude.{ℕ, List, ◌++◌, codes, decimal}
use Rattle.script_file.specs.declared.fault.FileFault.{FileFault}
use Rattle.script_file.specs.declared.fault.FileFault.TheVariants.{Cut, Count, TypeCode, Trailing, Room}

abbrev pub fault_number : FileFault → ℕ
fault_number (Cut o) = 1
fault_number (Count o) = 2
fault_number (TypeCode o) = 3
fault_number (Trailing o) = 5
fault_number Room = 6

-- the byte at which the faulty part begins
abbrev pub fault_offset : FileFault → ℕ
fault_offset (Cut o) = o
fault_offset (Count o) = o
fault_offset (TypeCode o) = o
fault_offset (Trailing o) = o
fault_offset Room = 0

abbrev pub fault_reason : FileFault → List ℕ
fault_reason (Cut o) = codes "a count, a type code or a node is not whole"
fault_reason (Count o) = codes "a count is outside its limits"
fault_reason (TypeCode o) = codes "a type code is above 5"
fault_reason (Trailing o) = codes "bytes follow the last node"
fault_reason Room = codes "the tables are too short for the script"

abbrev pub fault_text : FileFault → List ℕ
fault_text e =
    codes "refusal "
    ++ (decimal (fault_number e) ++ (codes " at byte " ++ (decimal (fault_offset e) ++ (codes ": " ++ fault_reason e))))
