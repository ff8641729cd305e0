-- What binders ask for, when two are the same, and their texts.
use Rattle.std.specs.Prelude.{ℕ, ◌+◌, Bool, true, false, ◌&&◌, List, ◌∷◌, ◌++◌, codes}
use Rattle.std.specs.Str.{bytes_eq}
use Rattle.dyn_value.specs.Kinds.{same_kind}
use Rattle.dyn_value.specs.Operators.{same_unary, same_binary}
use Rattle.dyn_value.specs.Texts.{quoted_text, kind_name, unary_name, binary_name}
use Rattle.standard_binders.specs.Arguments.{same_arguments, arguments_text}
use Rattle.standard_binders.specs.declared.binder.Binder.{Binder}
use Rattle.standard_binders.specs.declared.binder.Binder.TheVariants as binder

-- the operands of its operation, the target counted too
abbrev pub operand_count_of : Binder → ℕ
operand_count_of (binder.GetMember name ignore_case) = 1
operand_count_of (binder.SetMember name ignore_case) = 2
operand_count_of (binder.DeleteMember name ignore_case) = 1
operand_count_of binder.GetIndex = 2
operand_count_of binder.SetIndex = 3
operand_count_of binder.DeleteIndex = 2
operand_count_of (binder.Invoke info) = info.count + 1
operand_count_of (binder.InvokeMember name ignore_case info) = info.count + 1
operand_count_of (binder.CreateInstance info) = info.count + 1
operand_count_of (binder.Convert to) = 1
operand_count_of (binder.UnaryOperation op) = 1
operand_count_of (binder.BinaryOperation op) = 2

-- whether its operation is one on an object's members, where its target is an object
abbrev pub is_on_members : Binder → Bool
is_on_members (binder.GetMember name ignore_case) = true
is_on_members (binder.SetMember name ignore_case) = true
is_on_members (binder.DeleteMember name ignore_case) = true
is_on_members binder.GetIndex = true
is_on_members binder.SetIndex = true
is_on_members binder.DeleteIndex = true
is_on_members (binder.InvokeMember name ignore_case info) = true
is_on_members _ = false

-- the text of a binder
abbrev pub binder_text : Binder → List ℕ
binder_text (binder.GetMember name ignore_case) = codes "GetMember " ++ quoted_text name
binder_text (binder.SetMember name ignore_case) = codes "SetMember " ++ quoted_text name
binder_text (binder.DeleteMember name ignore_case) = codes "DeleteMember " ++ quoted_text name
binder_text binder.GetIndex = codes "GetIndex"
binder_text binder.SetIndex = codes "SetIndex"
binder_text binder.DeleteIndex = codes "DeleteIndex"
binder_text (binder.Invoke info) = codes "Invoke " ++ arguments_text info
binder_text (binder.InvokeMember name ignore_case info) = codes "InvokeMember " ++ quoted_text name ++ 32 ∷ arguments_text info
binder_text (binder.CreateInstance info) = codes "CreateInstance " ++ arguments_text info
binder_text (binder.Convert to) = codes "Convert " ++ kind_name to
binder_text (binder.UnaryOperation op) = unary_name op
binder_text (binder.BinaryOperation op) = binary_name op

abbrev pub truth_eq : Bool → Bool → Bool
truth_eq true b = b
truth_eq false true = false
truth_eq false false = true

-- whether two binders are the same: all their parts are
abbrev pub is_same_binder : Binder → Binder → Bool
is_same_binder (binder.GetMember m i) (binder.GetMember n j) = bytes_eq m n && truth_eq i j
is_same_binder (binder.SetMember m i) (binder.SetMember n j) = bytes_eq m n && truth_eq i j
is_same_binder (binder.DeleteMember m i) (binder.DeleteMember n j) = bytes_eq m n && truth_eq i j
is_same_binder binder.GetIndex binder.GetIndex = true
is_same_binder binder.SetIndex binder.SetIndex = true
is_same_binder binder.DeleteIndex binder.DeleteIndex = true
is_same_binder (binder.Invoke a) (binder.Invoke b) = same_arguments a b
is_same_binder (binder.InvokeMember m i a) (binder.InvokeMember n j b) = bytes_eq m n && (truth_eq i j && same_arguments a b)
is_same_binder (binder.CreateInstance a) (binder.CreateInstance b) = same_arguments a b
is_same_binder (binder.Convert k) (binder.Convert l) = same_kind k l
is_same_binder (binder.UnaryOperation o) (binder.UnaryOperation p) = same_unary o p
is_same_binder (binder.BinaryOperation o) (binder.BinaryOperation p) = same_binary o p
is_same_binder _ _ = false
