-- The kinds of node: the code of each in stored data, and its name.
use Rattle.std.specs.Prelude.{ℕ, cond, List, Some, None, codes, Option, ◌==◌}
use Rattle.script.specs.declared.kind.Kind.{Kind}
use Rattle.script.specs.declared.kind.Kind.TheVariants.{Literal, Local, Unary, Binary, Conditional, Assignment, Reading, Empty, Expression, Labelled, Break, Continue, If, While, Block, Declaration}

-- expressions are 0 to 6, statements 8 to 15, and a declaration is 16
abbrev pub kind_code : Kind → ℕ
kind_code Literal = 0
kind_code Local = 1
kind_code Unary = 2
kind_code Binary = 3
kind_code Conditional = 4
kind_code Assignment = 5
kind_code Reading = 6
kind_code Empty = 8
kind_code Expression = 9
kind_code Labelled = 10
kind_code Break = 11
kind_code Continue = 12
kind_code If = 13
kind_code While = 14
kind_code Block = 15
kind_code Declaration = 16

abbrev pub kind_name : Kind → List ℕ
kind_name Literal = codes "literal"
kind_name Local = codes "local"
kind_name Unary = codes "unary"
kind_name Binary = codes "binary"
kind_name Conditional = codes "conditional"
kind_name Assignment = codes "assignment"
kind_name Reading = codes "reading"
kind_name Empty = codes "empty"
kind_name Expression = codes "expression statement"
kind_name Labelled = codes "labelled"
kind_name Break = codes "break"
kind_name Continue = codes "continue"
kind_name If = codes "if"
kind_name While = codes "while"
kind_name Block = codes "block"
kind_name Declaration = codes "declaration"

-- the kind whose code this is
abbrev pub kind_of : ℕ → Option Kind
kind_of c =
    cond (c == 0) (Some Literal)
    (cond (c == 1) (Some Local)
    (cond (c == 2) (Some Unary)
    (cond (c == 3) (Some Binary)
    (cond (c == 4) (Some Conditional)
    (cond (c == 5) (Some Assignment)
    (cond (c == 6) (Some Reading)
    (cond (c == 8) (Some Empty)
    (cond (c == 9) (Some Expression)
    (cond (c == 10) (Some Labelled)
    (cond (c == 11) (Some Break)
    (cond (c == 12) (Some Continue)
    (cond (c == 13) (Some If)
    (cond (c == 14) (Some While)
    (cond (c == 15) (Some Block)
    (cond (c == 16) (Some Declaration) None)))))))))))))))
