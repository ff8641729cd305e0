use Rattle.std.proofs.Common.{ℕ, List, [], ◌++◌, arith, refl}
use Rattle.std.specs.Prelude.{codes}
use Rattle.expr_tree.specs.declared.node.Node.TheVariants.{Both, If}
use Rattle.expr_tree.specs.InOrder.{in_order}
use Rattle.expr_tree.specs.Texts.{node_text, text_in}
use Rattle.expr_tree.proofs.Appending.{ends, renamed}
use Rattle.expr_tree.proofs.Meaning.{node_there, both_there, if_there}
use Rattle.expr_tree.proofs.printing.+push_node.Goals as goal

pub push_node-requires : goal.push_node-requires
push_node-requires t c =
    let there = both_there _ _ _ _ _ c.requires.tree c.requires.number c.index-nodes-number.is c.in-Both.is in
    (omega (arith, there.1, c.decreases), (c.requires.tree, omega (arith, there.1, c.requires.number)))

pub push_node-requires-in-Both : goal.push_node-requires-in-Both
push_node-requires-in-Both t c =
    let there = both_there _ _ _ _ _ c.requires.tree c.requires.number c.index-nodes-number.is c.in-Both.is in
    (omega (arith, there.2, c.decreases), (c.requires.tree, omega (arith, there.2, c.requires.number)))

pub push_node-requires-in-If : goal.push_node-requires-in-If
push_node-requires-in-If t c =
    let there = if_there _ _ _ _ _ _ c.requires.tree c.requires.number c.index-nodes-number.is c.in-If.is in
    (omega (arith, there.1, c.decreases), (c.requires.tree, omega (arith, there.1, c.requires.number)))

pub push_node-requires-in-If-2 : goal.push_node-requires-in-If-2
push_node-requires-in-If-2 t c =
    let there = if_there _ _ _ _ _ _ c.requires.tree c.requires.number c.index-nodes-number.is c.in-If.is in
    (omega (arith, there.2, c.decreases), (c.requires.tree, omega (arith, there.2, c.requires.number)))

pub push_node-requires-in-If-3 : goal.push_node-requires-in-If-3
push_node-requires-in-If-3 t c =
    let there = if_there _ _ _ _ _ _ c.requires.tree c.requires.number c.index-nodes-number.is c.in-If.is in
    (omega (arith, there.3, c.decreases), (c.requires.tree, omega (arith, there.3, c.requires.number)))

pub returns-in_ok-push_node-in-Both-2 : goal.returns-in_ok-push_node-in-Both-2
returns-in_ok-push_node-in-Both-2 t c =
    let there = both_there _ _ _ _ _ c.requires.tree c.requires.number c.index-nodes-number.is c.in-Both.is in
    let texts = in_order node_text [] c.args.nodes.now in
    let text : ℕ → List ℕ = text_in texts in
    renamed _ _ _ (node_text texts (Both c.in-Both.left c.in-Both.right)) _ (
    ends _ _ _ _ (codes "(and ") ((text c.in-Both.left) ++ ((codes " ") ++ ((text c.in-Both.right) ++ codes ")"))) c.in_ok-push_word-in-Both.ensures (
    ends _ _ _ _ (text c.in-Both.left) ((codes " ") ++ ((text c.in-Both.right) ++ codes ")")) c.in_ok-push_node-in-Both.ensures (
    ends _ _ _ _ (codes " ") ((text c.in-Both.right) ++ codes ")") c.in_ok-push_word-in-Both-2.ensures (
    ends _ _ _ _ (text c.in-Both.right) (codes ")") c.in_ok-push_node-in-Both-2.ensures (
    c.push_word-in-Both-2.ensures)))))
    there.0

pub returns-in_ok-push_node-in-If-3 : goal.returns-in_ok-push_node-in-If-3
returns-in_ok-push_node-in-If-3 t c =
    let there = if_there _ _ _ _ _ _ c.requires.tree c.requires.number c.index-nodes-number.is c.in-If.is in
    let texts = in_order node_text [] c.args.nodes.now in
    let text : ℕ → List ℕ = text_in texts in
    renamed _ _ _ (node_text texts (If c.in-If.test c.in-If.then c.in-If.other)) _ (
    ends _ _ _ _ (codes "(if ") ((text c.in-If.test) ++ ((codes " ") ++ ((text c.in-If.then) ++ ((codes " ") ++ ((text c.in-If.other) ++ codes ")"))))) c.in_ok-push_word-in-If.ensures (
    ends _ _ _ _ (text c.in-If.test) ((codes " ") ++ ((text c.in-If.then) ++ ((codes " ") ++ ((text c.in-If.other) ++ codes ")")))) c.in_ok-push_node-in-If.ensures (
    ends _ _ _ _ (codes " ") ((text c.in-If.then) ++ ((codes " ") ++ ((text c.in-If.other) ++ codes ")"))) c.in_ok-push_word-in-If-2.ensures (
    ends _ _ _ _ (text c.in-If.then) ((codes " ") ++ ((text c.in-If.other) ++ codes ")")) c.in_ok-push_node-in-If-2.ensures (
    ends _ _ _ _ (codes " ") ((text c.in-If.other) ++ codes ")") c.in_ok-push_word-in-If-3.ensures (
    ends _ _ _ _ (text c.in-If.other) (codes ")") c.in_ok-push_node-in-If-3.ensures (
    c.push_word-in-If-4.ensures)))))))
    there.0

pub returns-in_default : goal.returns-in_default
returns-in_default t c =
    let there = node_there _ _ _ _ c.requires.tree c.requires.number c.index-nodes-number.is refl in
    let texts = in_order node_text [] c.args.nodes.now in
    renamed _ _ _ (node_text texts c.index-nodes-number.result) _ (c.push_leaf.ensures texts) there.0
