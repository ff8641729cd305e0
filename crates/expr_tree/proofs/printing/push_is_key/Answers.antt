use Rattle.std.proofs.Common.{◌++◌, ◌∷◌}
use Rattle.std.specs.Prelude.{codes}
use Rattle.std.specs.Fmt.{decimal}
use Rattle.dyn_value.specs.Texts.{quoted_text}
use Rattle.expr_tree.proofs.Appending.{ends}
use Rattle.expr_tree.proofs.printing.push_is_key.Goals as goal

pub returns : goal.returns
returns c =
    ends _ _ _ _ (codes "(key") ((32 ∷ decimal c.args.operand) ++ ((codes " ") ++ ((quoted_text c.args.key.now) ++ codes ")"))) c.in_ok-push_word.ensures (
    ends _ _ _ _ (32 ∷ decimal c.args.operand) ((codes " ") ++ ((quoted_text c.args.key.now) ++ codes ")")) c.in_ok-push_number.ensures (
    ends _ _ _ _ (codes " ") ((quoted_text c.args.key.now) ++ codes ")") c.in_ok-push_word-2.ensures (
    ends _ _ _ _ (quoted_text c.args.key.now) (codes ")") c.in_ok-quote_to.ensures.appended (
    c.push_word-3.ensures))))
