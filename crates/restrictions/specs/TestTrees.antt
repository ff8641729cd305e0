-- The test that all restrictions of a list hold, as a tree.
use Rattle.std.specs.Prelude.{◌+◌, true, List, [], ◌∷◌, ◌++◌, length}
use Rattle.std.specs.List.{fold}
use Rattle.dyn_value.specs.declared.value.Value.TheVariants as value
use Rattle.expr_tree.specs.declared.node.Node.{Node}
use Rattle.expr_tree.specs.declared.node.Node.TheVariants as node
use Rattle.restrictions.specs.declared.restriction.Restriction.{Restriction}
use Rattle.restrictions.specs.declared.restriction.Restriction.TheVariants.{Kind, Fun, Key, LongKey, Class}

-- the test of one restriction
abbrev pub node_of : Restriction → Node
node_of (Kind a k) = node.IsKind a k
node_of (Fun a f) = node.IsFun a f
node_of (Key a t) = node.IsKey a t
node_of (LongKey a) = node.LongKey a
node_of (Class c) = node.IsClass c

-- one restriction more: its test behind the tree, and the root that both hold
abbrev pub with_test : List Node → Restriction → List Node
with_test [] r = node_of r ∷ []
with_test (n ∷ ns) r = (n ∷ ns) ++ node_of r ∷ node.Both (length ns) (length ns + 1) ∷ []

-- the tests of a list, nested to the left; the constant true where there is none
abbrev pub tree_of : List Restriction → List Node
tree_of [] = node.Const (value.Bool true) ∷ []
tree_of (r ∷ rs) = fold with_test (node_of r ∷ []) rs
