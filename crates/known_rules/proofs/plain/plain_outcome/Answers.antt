use Rattle.std.proofs.Common.{◌∙◌, List, [], ap, subst, sym}
use Rattle.std.specs.Prelude.{IsTrue}
use Rattle.expr_tree.specs.declared.node.Node.{Node}
use Rattle.expr_tree.specs.Meanings.{IsThere, answer_in, is_plain}
use Rattle.expr_tree.specs.Trees.{root}
use Rattle.known_rules.proofs.Plainly.{ServesPlain, if_ok, plain_answer, plain_plain, plain_there}
use Rattle.known_rules.proofs.plain.plain_outcome.Goals as goal

pub eval_plain-requires-clause-there : goal.eval_plain-requires-clause-there
eval_plain-requires-clause-there c =
    let r = c.args.rule.now in let operands = c.args.operands.now in
    let serves : ServesPlain c.requires.claim.0 operands c.requires.passes.0 r = record {
      sound = c.claim.ensures.sound;
      fun = c.requires.claim.1;
      none = c.requires.none;
      suit = c.requires.suit;
      passes = c.requires.passes.1;
    } in
    subst (λ (body : List Node). IsThere operands [] (root body)) (sym c.body.ensures)
    (plain_there c.requires.claim.0 operands c.requires.passes.0 r serves)

pub eval_plain-requires-clause-plain : goal.eval_plain-requires-clause-plain
eval_plain-requires-clause-plain c =
    let r = c.args.rule.now in let operands = c.args.operands.now in
    let serves : ServesPlain c.requires.claim.0 operands c.requires.passes.0 r = record {
      sound = c.claim.ensures.sound;
      fun = c.requires.claim.1;
      none = c.requires.none;
      suit = c.requires.suit;
      passes = c.requires.passes.1;
    } in
    subst (λ (body : List Node). IsTrue (is_plain (root body))) (sym c.body.ensures)
    (plain_plain c.requires.claim.0 operands c.requires.passes.0 r serves)

pub returns : goal.returns
returns c = λ functions fun.
    let r = c.args.rule.now in let operands = c.args.operands.now in
    if_ok c.eval_plain.result (λ o is. plain_answer functions operands c.requires.passes.0 r o
    (record { sound = c.claim.ensures.sound; fun = fun; none = c.requires.none; suit = c.requires.suit; passes = c.requires.passes.1 })
    (λ s. is s ∙ ap (λ (body : List Node). answer_in operands s (root body)) c.body.ensures))
    c.eval_plain.ensures
