use Rattle.std.proofs.Common.{sym, subst}
use Rattle.script_grammar.specs.StatementForms.{script_form}
use Rattle.script_grammar.proofs.Exits.{exits}
use Rattle.script_grammar.proofs.ScriptSteps.{ScriptRead, script_begin, script_halts, read_more, script_read, not_empty, is_empty}
use Rattle.script_grammar.proofs.parser.script_at.Goals as goal

pub row-init : goal.row-init
row-init c =
    script_begin _ _ _ _ _ c.new.ensures c.new-2.ensures c.new-3.ensures c.new-4.ensures

pub returns-in_err-declaration-clause-stop : goal.returns-in_err-declaration-clause-stop
returns-in_err-declaration-clause-stop c =
    exits script_form _ _ c.in_err-declaration.field-0.0 c.from_residual.ensures.1
    (script_halts _ _ c.row.script _ c.row.invariant (not_empty _ _ c.is_empty.ensures c.row-test.true)
    c.in_err-declaration.ensures.stop)

pub row-preserved : goal.row-preserved
row-preserved c =
    subst (λ z. ScriptRead c.args.tokens.now z c.in_ok-declaration.more.now) (sym c.in_ok-add.ensures)
    (read_more _ _ _ c.row.script c.in_ok-declaration.declaration c.row.invariant
    (not_empty _ _ c.is_empty.ensures c.row-test.true) c.in_ok-declaration.ensures.read c.in_ok-declaration.ensures.shorter)

pub returns-clause-read : goal.returns-clause-read
returns-clause-read c =
    script_read _ _ c.row.script c.row.invariant (is_empty _ _ c.is_empty.ensures c.row-test.false)
