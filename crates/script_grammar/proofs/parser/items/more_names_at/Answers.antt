use Rattle.std.proofs.Common.{◌∷◌, [], ◌++◌, sym, ap, ◌∙◌, subst}
use Rattle.script_grammar.specs.StatementForms.{more_names_form}
use Rattle.script_grammar.proofs.Exits.{exits}
use Rattle.script_grammar.proofs.ItemRules.{NamesRead, names_begin, names_read, comma_halts, next_name_halts, names_more}
use Rattle.script_grammar.proofs.parser.items.more_names_at.Goals as goal

pub returns-in-Some-clause-read : goal.returns-in-Some-clause-read
returns-in-Some-clause-read c =
    names_read _ _ _ c.args.first c.row.names c.row.invariant c.in-Some.ensures

pub returns-in_err-next-clause-stop : goal.returns-in_err-next-clause-stop
returns-in_err-next-clause-stop c =
    exits more_names_form _ _ c.in_err-next.field-0.0 c.from_residual-in_err-next.ensures.1
    (comma_halts _ _ c.args.first c.row.names _ c.row.invariant c.in_default.ensures c.in_err-next.ensures.stop)

pub returns-in_err-name-clause-stop : goal.returns-in_err-name-clause-stop
returns-in_err-name-clause-stop c =
    exits more_names_form _ _ c.in_err-name.field-0.0 c.from_residual-in_err-name.ensures.1
    (next_name_halts _ _ _ c.args.first c.row.names _ c.row.invariant c.in_default.ensures c.in_ok-next.ensures.read c.in_err-name.ensures.stop)

pub row-preserved : goal.row-preserved
row-preserved c =
    subst (λ z. NamesRead c.args.tokens.now c.args.first z c.in_ok-name.more.now) (sym c.in_ok-push-2.ensures.ok)
    (names_more _ _ _ _ c.args.first c.row.names c.in_ok-name.name c.row.invariant c.in_default.ensures c.in_ok-next.ensures.read
    c.in_ok-name.ensures.read c.in_ok-next.ensures.shorter c.in_ok-name.ensures.shorter)

pub row-init : goal.row-init
row-init c =
    names_begin _ c.args.first _ (c.in_ok-push.ensures.ok ∙ ap (λ z. z ++ c.args.first ∷ []) c.new-names.ensures)
