-- The texts of trees, in characters.
use Rattle.std.specs.Prelude.{ℕ, ◌-◌, List, [], ◌∷◌, ◌++◌, codes, length, slice_get, unwrap_or}
use Rattle.std.specs.Fmt.{decimal}
use Rattle.dyn_value.specs.Texts.{quoted, quoted_text, kind_name, fault_text, unary_name, binary_name}
use Rattle.expr_tree.specs.declared.node.Node.{Node}
use Rattle.expr_tree.specs.declared.node.Node.TheVariants.{Param, Const, IsKind, IsFun, IsKey, LongKey, IsClass, Both, If, Unary, Binary, Convert, Length, CharAt, Read, Write, Append, Remove, Call, Make, Throw, Update}
use Rattle.expr_tree.specs.InOrder.{in_order}

-- the parts that are left, each after a space, and the closing parenthesis
abbrev pub closed : List (List ℕ) → List ℕ
closed [] = codes ")"
closed (part ∷ parts) = 32 ∷ part ++ closed parts

-- a word and its parts in parentheses, each part after a space
abbrev pub form : List ℕ → List (List ℕ) → List ℕ
form word parts = 40 ∷ word ++ closed parts

-- the text of a node that was given one
abbrev pub text_in : List (List ℕ) → ℕ → List ℕ
text_in texts number = unwrap_or (slice_get texts number) []

-- the text of a node, where those before it have these texts
abbrev pub node_text : List (List ℕ) → Node → List ℕ
node_text before (Param a) = form (codes "param") (decimal a ∷ [])
node_text before (Const v) = form (codes "const") (quoted v ∷ [])
node_text before (IsKind a k) = form (codes "kind") (decimal a ∷ kind_name k ∷ [])
node_text before (IsFun a f) = form (codes "fun") (decimal a ∷ decimal f ∷ [])
node_text before (IsKey a t) = form (codes "key") (decimal a ∷ quoted_text t ∷ [])
node_text before (LongKey a) = form (codes "long") (decimal a ∷ [])
node_text before (IsClass c) = form (codes "class") (decimal c ∷ [])
node_text before (Both a b) = form (codes "and") (text_in before a ∷ text_in before b ∷ [])
node_text before (If a b c) = form (codes "if") (text_in before a ∷ text_in before b ∷ text_in before c ∷ [])
node_text before (Unary op a) = form (unary_name op) (decimal a ∷ [])
node_text before (Binary op a b) = form (binary_name op) (decimal a ∷ decimal b ∷ [])
node_text before (Convert k a) = form (codes "convert") (kind_name k ∷ decimal a ∷ [])
node_text before (Length a) = form (codes "length") (decimal a ∷ [])
node_text before (CharAt a b) = form (codes "char") (decimal a ∷ decimal b ∷ [])
node_text before (Read p) = form (codes "read") (decimal p ∷ [])
node_text before (Write p a) = form (codes "write") (decimal p ∷ decimal a ∷ [])
node_text before (Append c a) = form (codes "append") (decimal c ∷ decimal a ∷ [])
node_text before (Remove p c) = form (codes "remove") (decimal p ∷ decimal c ∷ [])
node_text before (Call f) = form (codes "call") (decimal f ∷ [])
node_text before (Make f) = form (codes "make") (decimal f ∷ [])
node_text before (Throw f) = form (codes "throw") (fault_text f ∷ [])
node_text before Update = codes "update"

-- the text of a tree: that of its last node
abbrev pub tree_text : List Node → List ℕ
tree_text nodes = text_in (in_order node_text [] nodes) (length nodes - 1)
