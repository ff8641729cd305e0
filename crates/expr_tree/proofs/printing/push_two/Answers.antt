use Rattle.std.proofs.Common.{◌++◌, ◌∷◌}
use Rattle.std.specs.Prelude.{codes}
use Rattle.std.specs.Fmt.{decimal}
use Rattle.expr_tree.proofs.Appending.{ends}
use Rattle.expr_tree.proofs.printing.push_two.Goals as goal

pub returns : goal.returns
returns c =
    ends _ _ _ _ (codes "(") ((c.args.word.now) ++ ((32 ∷ decimal c.args.first) ++ ((32 ∷ decimal c.args.second) ++ codes ")"))) c.in_ok-push_word.ensures (
    ends _ _ _ _ (c.args.word.now) ((32 ∷ decimal c.args.first) ++ ((32 ∷ decimal c.args.second) ++ codes ")")) c.in_ok-push_word-2.ensures (
    ends _ _ _ _ (32 ∷ decimal c.args.first) ((32 ∷ decimal c.args.second) ++ codes ")") c.in_ok-push_number.ensures (
    ends _ _ _ _ (32 ∷ decimal c.args.second) (codes ")") c.in_ok-push_number-2.ensures (
    c.push_word-3.ensures))))
