-- The truth values of a tree's nodes, from left to right.
use Rattle.std.proofs.Common.{◌≡◌, ℕ, ◌+◌, ◌-◌, ◌<◌, Bool, false, List, [], ◌∷◌, ◌++◌, length, take, set, get_or, sym, ap, ◌∙◌, arith}
use Rattle.std.proofs.lemmas.List.{take_more, take_more_set, get_or-take}
use Rattle.std.proofs.lemmas.Option.{unwrap_or-slice_get}
use Rattle.dyn_value.specs.declared.value.Value.{Value}
use Rattle.expr_tree.specs.declared.node.Node.{Node}
use Rattle.expr_tree.specs.Meanings.{node_test, tests, passes}
use Rattle.expr_tree.proofs.Meaning.{in_order-append}

-- one node more
pub one_more : (ops : List Value) (class : ℕ) (nodes : List Node) (truths : List Bool) (i : ℕ) (n : Node) (truth : Bool)
    → i < length nodes → i < length truths → n ≡ get_or nodes i n → take i truths ≡ tests ops class [] (take i nodes) → truth ≡ node_test ops class (take i truths) n
    → take (i + 1) (set truths i truth) ≡ tests ops class [] (take (i + 1) nodes)
one_more ops class nodes truths i n truth here room read before new =
    let of = node_test ops class in
    take_more_set truths i truth room
    ∙ ap (λ b. take i truths ++ b ∷ []) new
    ∙ ap (λ ts. ts ++ of ts n ∷ []) before
    ∙ sym (in_order-append of [] (take i nodes) (n ∷ []))
    ∙ ap (λ m. tests ops class [] (take i nodes ++ m ∷ [])) read
    ∙ ap (tests ops class []) (sym (take_more nodes i n here))

-- the last of them is the tree's
pub last_is : (ops : List Value) (class : ℕ) (nodes : List Node) (truths : List Bool) → 0 < length nodes → take (length nodes) truths ≡ tests ops class [] nodes → get_or truths (length nodes - 1) false ≡ passes nodes ops class
last_is ops class nodes truths some all =
    let last = length nodes - 1 in
    sym (get_or-take (length nodes) truths last false (omega arith))
    ∙ ap (λ ts. get_or ts last false) all
    ∙ sym (unwrap_or-slice_get (tests ops class [] nodes) last false)
