use Rattle.std.proofs.Common.{◌++◌, ◌∷◌, ap, ◌∙◌}
use Rattle.std.specs.Prelude.{codes, encode_utf8_all}
use Rattle.std.specs.Fmt.{decimal}
use Rattle.dyn_value.specs.Texts.{kind_name}
use Rattle.expr_tree.proofs.Appending.{ends}
use Rattle.expr_tree.proofs.printing.push_convert.Goals as goal

pub returns : goal.returns
returns c =
    ends _ _ _ _ (codes "(convert ") ((kind_name c.args.kind) ++ ((32 ∷ decimal c.args.operand) ++ codes ")")) c.in_ok-push_word.ensures (
    ends _ _ _ _ (kind_name c.args.kind) ((32 ∷ decimal c.args.operand) ++ codes ")") (c.in_ok-push_word-2.ensures ∙ ap (λ x. c.push_word.new.out.items ++ encode_utf8_all x) c.name.ensures.name) (
    ends _ _ _ _ (32 ∷ decimal c.args.operand) (codes ")") c.in_ok-push_number.ensures (
    c.push_word-3.ensures)))
