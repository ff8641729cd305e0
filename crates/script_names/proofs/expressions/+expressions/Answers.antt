use Rattle.std.proofs.Common.{◌≡◌, ◌++◌, sym, ap, ◌∙◌, append_assoc}
use Rattle.std.specs.List.{flat_map}
use Rattle.script_names.specs.Expressions.{expr_flags, flags_of_head, flags_of_suffix}
use Rattle.script_names.proofs.Arguments.{expression}
use Rattle.script_names.proofs.Rows.{loop_end}
use Rattle.script_names.proofs.expressions.+expressions.Goals as goal

pub judge_expr-returns : goal.judge_expr-returns
judge_expr-returns t c =
    let items = c.args.items.now in let scope = c.args.scope.now in
    loop_end (flat_map (flags_of_suffix items scope)) c.as_slice-suffix-items.result.now c.loop-suffix.suffix-index c.judge_head.new.flags c.loop-suffix.flags c.loop-suffix-test.false c.loop-suffix.invariant
    ∙ ap (λ z. c.judge_head.new.flags ++ flat_map (flags_of_suffix items scope) z) c.as_slice-suffix-items.ensures
    ∙ ap (λ z. z ++ flat_map (flags_of_suffix items scope) c.args.expr.now.suffixes) c.in_ok-judge_head.ensures
    ∙ append_assoc c.args.flags.now (flags_of_head items scope c.args.expr.now.head) (flat_map (flags_of_suffix items scope) c.args.expr.now.suffixes)
    ∙ ap (λ z. c.args.flags.now ++ z) (sym (expression items scope c.args.expr.now))
