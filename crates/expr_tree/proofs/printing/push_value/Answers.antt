use Rattle.std.proofs.Common.{◌++◌}
use Rattle.std.specs.Prelude.{codes}
use Rattle.dyn_value.specs.Texts.{quoted}
use Rattle.expr_tree.proofs.Appending.{ends}
use Rattle.expr_tree.proofs.printing.push_value.Goals as goal

pub returns : goal.returns
returns c =
    ends _ _ _ _ (codes "(const ") ((quoted c.args.value.now) ++ codes ")") c.in_ok-push_word.ensures (
    ends _ _ _ _ (quoted c.args.value.now) (codes ")") c.in_ok-quote_to.ensures.appended (
    c.push_word-2.ensures))
