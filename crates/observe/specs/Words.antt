-- What the words of the command line mean.
use Rattle.std.specs.Prelude.{◌≡◌, ℕ, ◌<◌, List, ◌++◌, length, Ok, Err, string_bytes, codes, Result, String, ◌≢◌}
use Rattle.std.specs.declared.alloc.Global.{Global}
use Rattle.std.specs.List.{HoldsAt}
use Rattle.observe.specs.declared.command.Command.{Command}
use Rattle.observe.specs.declared.command.Command.TheVariants.{Show}
use Rattle.observe.specs.declared.command.Misuse.{Misuse}
use Rattle.observe.specs.declared.command.Misuse.TheVariants.{NoWord, Unknown, NoFile, TooMany}

-- the word at a place has this text
abbrev pub Says : List (String Global) → ℕ → List ℕ → Type 0
Says words k text = HoldsAt (λ word. string_bytes word ≡ text) words k

-- `show` and one file; each misuse says which words it stands for
abbrev pub Meant : List (String Global) → Result Command Misuse → Type 0
Meant words (Ok (Show path)) = (length words ≡ 2) × Says words 0 (codes "show") × Says words 1 path.now
Meant words (Err NoWord) = length words ≡ 0
Meant words (Err (Unknown word)) =
    (0 < length words) × Says words 0 word.now × (word.now ≢ codes "show")
Meant words (Err NoFile) = (length words ≡ 1) × Says words 0 (codes "show")
Meant words (Err TooMany) = (2 < length words) × Says words 0 (codes "show")

-- each misuse in words
abbrev pub misuse_text : Misuse → List ℕ
misuse_text NoWord = codes "a word is missing"
misuse_text (Unknown word) = codes "unknown word '" ++ (word.now ++ codes "'")
misuse_text NoFile = codes "a file is missing"
misuse_text TooMany = codes "too many words"
