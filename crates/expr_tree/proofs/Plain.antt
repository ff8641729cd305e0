-- Plain nodes: whatever the members are, they answer the same and leave the state as it was.
use Rattle.std.proofs.Common.{◌≡◌, ℕ, true, false, List, refl}
use Rattle.dyn_value.specs.declared.value.Value.{Value}
use Rattle.expr_tree.specs.declared.node.Node.{Node}
use Rattle.expr_tree.specs.declared.node.Node.TheVariants.{Read, Write, Append, Remove}
use Rattle.expr_tree.specs.Meanings.{State, answer_in, state_after, is_plain}

pub answer_plain : (ops : List Value) (s t : State) (n : Node) → is_plain n ≡ true → answer_in ops s n ≡ answer_in ops t n
answer_plain ops s t (Read p) plain = let no : false ≡ true = plain in cc
answer_plain ops s t _ plain = refl

pub state_plain : (ops : List Value) (names : List (List ℕ)) (s : State) (n : Node) → is_plain n ≡ true → state_after ops names s n ≡ s
state_plain ops names s (Write p a) plain = let no : false ≡ true = plain in cc
state_plain ops names s (Append c a) plain = let no : false ≡ true = plain in cc
state_plain ops names s (Remove p c) plain = let no : false ≡ true = plain in cc
state_plain ops names s _ plain = refl
