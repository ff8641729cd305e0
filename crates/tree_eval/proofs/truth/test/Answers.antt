use Rattle.std.proofs.Common.{◌≡◌, ap, ◌∙◌, sym, take, length, arith, []}
use Rattle.std.proofs.lemmas.List.{take_all}
use Rattle.expr_tree.specs.Meanings.{passes, tests}
use Rattle.tree_eval.proofs.Truths.{one_more, last_is}
use Rattle.tree_eval.proofs.truth.test.Goals as goal

pub loop-number-preserved : goal.loop-number-preserved
loop-number-preserved c =
    one_more c.args.operands.now c.args.class c.nodes-nodes.result.now c.loop-number.truths c.loop-number.number c.index-nodes-number.result c.is_true.result
    (omega arith) (omega (arith, c.nodes-nodes.ensures.tree.few, ap length c.nodes-nodes.ensures.nodes)) c.index-nodes-number.is c.loop-number.invariant c.is_true.ensures

pub returns : goal.returns
returns c =
    let nodes = c.nodes-nodes.result.now in
    let ops = c.args.operands.now in
    let truths = c.loop-number.truths in
    let ended : c.loop-number.number ≡ length nodes = omega arith in
    let all : take (length nodes) truths ≡ tests ops c.args.class [] nodes =
    ap (λ i. take i truths) (sym ended) ∙ c.loop-number.invariant ∙ ap (tests ops c.args.class []) (take_all c.loop-number.number nodes (omega arith)) in
    last_is ops c.args.class nodes truths (omega (arith, c.nodes-nodes.ensures.tree.some_node, ap length c.nodes-nodes.ensures.nodes)) all
    ∙ ap (λ t. passes t ops c.args.class) c.nodes-nodes.ensures.nodes
