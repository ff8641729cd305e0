use Rattle.std.proofs.Common.{◌++◌}
use Rattle.std.specs.Prelude.{codes}
use Rattle.dyn_value.specs.Texts.{fault_text}
use Rattle.expr_tree.proofs.Appending.{ends}
use Rattle.expr_tree.proofs.printing.push_throw.Goals as goal

pub returns : goal.returns
returns c =
    ends _ _ _ _ (codes "(throw ") ((fault_text c.args.fault.now) ++ codes ")") c.in_ok-push_word.ensures (
    ends _ _ _ _ (fault_text c.args.fault.now) (codes ")") c.in_ok-print_to.ensures.appended (
    c.push_word-2.ensures))
