-- What is said of all nodes of a body, of its root.
use Rattle.std.proofs.Common.{◌≡◌, true, List, [], ◌∷◌, refl}
use Rattle.std.specs.List.{AllByRecursion, list_all}
use Rattle.std.proofs.lemmas.Bool.{and_parts}
use Rattle.dyn_value.specs.declared.value.Value.{Value}
use Rattle.expr_tree.specs.declared.node.Node.{Node}
use Rattle.expr_tree.specs.Meanings.{IsThere, is_plain}
use Rattle.expr_tree.specs.Trees.{root}

pub there_root : (operands values : List Value) (body : List Node) → AllByRecursion (IsThere operands values) body → IsThere operands values (root body)
there_root operands values [] all = refl
there_root operands values (n ∷ []) all = all.0
there_root operands values (n ∷ m ∷ ns) all = there_root operands values (m ∷ ns) all.1

pub plain_root : (body : List Node) → list_all is_plain body ≡ true → is_plain (root body) ≡ true
plain_root [] all = refl
plain_root (n ∷ []) all = (and_parts (is_plain n) true all).0
plain_root (n ∷ m ∷ ns) all = plain_root (m ∷ ns) (and_parts (is_plain n) (list_all is_plain (m ∷ ns)) all).1
