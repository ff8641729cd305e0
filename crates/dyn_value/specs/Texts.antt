-- Texts of values and faults, in characters.
use Rattle.std.specs.Prelude.{ℕ, ℤ, pos, negsuc, Bool, true, false, ◌==◌, if◌then◌else◌, List, [], ◌∷◌, ◌++◌, codes, Option, None, slice_get}
use Rattle.std.specs.List.{flat_map}
use Rattle.std.specs.Option.{option_map}
use Rattle.std.specs.Fmt.{decimal, signed_decimal}
use Rattle.dyn_value.specs.declared.operator.UnOp.{UnOp}
use Rattle.dyn_value.specs.declared.operator.UnOp.TheVariants as unary
use Rattle.dyn_value.specs.declared.operator.BinOp.{BinOp}
use Rattle.dyn_value.specs.declared.operator.BinOp.TheVariants as op
use Rattle.dyn_value.specs.declared.value.Kind.{Kind}
use Rattle.dyn_value.specs.declared.value.Kind.TheVariants as kind
use Rattle.dyn_value.specs.declared.value.Value.{Value}
use Rattle.dyn_value.specs.declared.value.Value.TheVariants as value
use Rattle.dyn_value.specs.declared.fault.Fault.{Fault}
use Rattle.dyn_value.specs.declared.fault.Fault.TheVariants as fault

-- the text of the one character at a place counted from 0, where there is one
abbrev pub character_at : List ℕ → ℤ → Option (List ℕ)
character_at cs (pos place) = option_map (λ c. c ∷ []) (slice_get cs place)
character_at cs (negsuc n) = None

-- the plain text of a value
abbrev pub plain : Value → List ℕ
plain value.Nil = codes "nil"
plain (value.Bool true) = codes "true"
plain (value.Bool false) = codes "false"
plain (value.Int n) = signed_decimal n
plain (value.Text t) = t
plain (value.Fun f) = codes "fn#" ++ decimal f
plain (value.Obj o) = codes "obj#" ++ decimal o

-- a character between quotation marks
abbrev pub escaped : ℕ → List ℕ
escaped c =
    if c == 34 then codes "\\\"" else
    if c == 92 then codes "\\\\" else
    if c == 10 then codes "\\n" else
    if c == 9 then codes "\\t" else c ∷ []

-- a text between quotation marks
abbrev pub quoted_text : List ℕ → List ℕ
quoted_text cs = 34 ∷ flat_map escaped cs ++ 34 ∷ []

-- the quoted text of a value: a text stands between quotation marks
abbrev pub quoted : Value → List ℕ
quoted (value.Text t) = quoted_text t
quoted v = plain v

-- the name of a kind
abbrev pub kind_name : Kind → List ℕ
kind_name kind.Nil = codes "Nil"
kind_name kind.Bool = codes "Bool"
kind_name kind.Int = codes "Int"
kind_name kind.Text = codes "Text"
kind_name kind.Fun = codes "Fun"
kind_name kind.Obj = codes "Obj"

-- the name of an operator with one operand
abbrev pub unary_name : UnOp → List ℕ
unary_name unary.Negate = codes "Negate"
unary_name unary.Not = codes "Not"
unary_name unary.IsTrue = codes "IsTrue"

-- the name of an operator with two operands
abbrev pub binary_name : BinOp → List ℕ
binary_name op.Add = codes "Add"
binary_name op.Subtract = codes "Subtract"
binary_name op.Multiply = codes "Multiply"
binary_name op.Divide = codes "Divide"
binary_name op.Modulo = codes "Modulo"
binary_name op.Equal = codes "Equal"
binary_name op.NotEqual = codes "NotEqual"
binary_name op.LessThan = codes "LessThan"
binary_name op.LessThanOrEqual = codes "LessThanOrEqual"
binary_name op.GreaterThan = codes "GreaterThan"
binary_name op.GreaterThanOrEqual = codes "GreaterThanOrEqual"
binary_name op.And = codes "And"
binary_name op.Or = codes "Or"

-- the text of a fault: its name, and its parts, each after a space
abbrev pub fault_text : Fault → List ℕ
fault_text (fault.NoMember name) = codes "NoMember " ++ quoted_text name
fault_text fault.NoIndex = codes "NoIndex"
fault_text (fault.NotIndexable k) = codes "NotIndexable " ++ kind_name k
fault_text (fault.NotCallable k) = codes "NotCallable " ++ kind_name k
fault_text (fault.WrongCount parameters count) = codes "WrongCount " ++ decimal parameters ++ 32 ∷ decimal count
fault_text (fault.NoParameter name) = codes "NoParameter " ++ quoted_text name
fault_text fault.NoOperator = codes "NoOperator"
fault_text fault.NoConvert = codes "NoConvert"
fault_text (fault.NotCreatable k) = codes "NotCreatable " ++ kind_name k
fault_text fault.Overflow = codes "Overflow"
fault_text fault.ZeroDivide = codes "ZeroDivide"
fault_text fault.TextLong = codes "TextLong"
fault_text fault.MembersFull = codes "MembersFull"
fault_text fault.HeapFull = codes "HeapFull"
fault_text fault.Depth = codes "Depth"
fault_text fault.Turns = codes "Turns"
