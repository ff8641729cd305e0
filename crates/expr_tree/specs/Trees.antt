-- The form of trees: each node names operands, and nodes that stand before it.
use Rattle.std.specs.Prelude.{◌≡◌, ℕ, ◌<◌, ◌≤◌, ◌&&◌, Bool, true, false, List, [], ◌∷◌, Some, IsTrue, MatchOption, length, nat_le, nat_lt, slice_get}
use Rattle.std.specs.List.{list_all}
use Rattle.expr_tree.specs.declared.node.Node.{Node}
use Rattle.expr_tree.specs.declared.node.Node.TheVariants.{Param, IsKind, IsFun, IsKey, LongKey, IsClass, Both, If, Unary, Binary, Convert, Length, CharAt, Read, Write, Append, Remove, Update}

-- the operands that a node names
abbrev pub operands_of : Node → List ℕ
operands_of (Param a) = a ∷ []
operands_of (IsKind a k) = a ∷ []
operands_of (IsFun a f) = a ∷ []
operands_of (IsKey a t) = a ∷ []
operands_of (LongKey a) = a ∷ []
operands_of (Unary op a) = a ∷ []
operands_of (Binary op a b) = a ∷ b ∷ []
operands_of (Convert k a) = a ∷ []
operands_of (Length a) = a ∷ []
operands_of (CharAt a b) = a ∷ b ∷ []
operands_of (Write p a) = a ∷ []
operands_of (Append c a) = a ∷ []
operands_of _ = []

-- the nodes that a node names
abbrev pub children_of : Node → List ℕ
children_of (Both a b) = a ∷ b ∷ []
children_of (If a b c) = a ∷ b ∷ c ∷ []
children_of _ = []

-- the places that a node names
abbrev pub places_of : Node → List ℕ
places_of (Read p) = p ∷ []
places_of (Write p a) = p ∷ []
places_of (Remove p c) = p ∷ []
places_of _ = []

-- whether a node may have this number: its operands are at most 16, and the nodes that it names are before it
abbrev pub fits : ℕ → Node → Bool
fits number n = list_all (λ a. nat_le a 16) (operands_of n) && list_all (λ c. nat_lt c number) (children_of n)

-- 1 to 64 nodes, each of which may have its number
pub record IsTree (nodes : List Node) : Type 0 where
  pub some_node : 0 < length nodes
  pub few : length nodes ≤ 64
  pub fitting : (i : ℕ) (n : Node) → slice_get nodes i ≡ Some n → IsTrue (fits i n)

-- the first node that may not have its number is the one of number i; 0 where there is no node
pub record IsFirstUnfit (nodes : List Node) (i : ℕ) : Type 0 where
  pub unfit : MatchOption (slice_get nodes i) ((nodes ≡ []) × (i ≡ 0)) (λ n. fits i n ≡ false)
  pub before : (j : ℕ) (n : Node) → j < i → slice_get nodes j ≡ Some n → IsTrue (fits j n)

-- the last node
abbrev pub root : List Node → Node
root [] = Update
root (n ∷ []) = n
root (n ∷ m ∷ ns) = root (m ∷ ns)

-- whether a node gives an answer: it is no test, and neither If nor Update
abbrev pub answers : Node → Bool
answers (IsKind a k) = false
answers (IsFun a f) = false
answers (IsKey a t) = false
answers (LongKey a) = false
answers (IsClass c) = false
answers (Both a b) = false
answers (If a b c) = false
answers Update = false
answers _ = true

-- a tree whose root gives an answer
pub record IsBody (nodes : List Node) : Type 0 where
  pub tree : IsTree nodes
  pub answering : IsTrue (answers (root nodes))
