-- Each exit of a block's reading says where the block cannot be read on.
use Rattle.std.proofs.Common.{sym, subst}
use Rattle.script_grammar.specs.StatementForms.{stmt_form, stmts_form, block_form, else_form}
use Rattle.script_grammar.proofs.Exits.{exits}
use Rattle.script_grammar.proofs.BlockSteps.{RowRead, row_more, row_halts, row_read, open_brace_halts, stmts_halts, block_read, else_halts, if_test_halts, if_block_halts, if_else_halts, if_read, while_test_halts, while_body_halts, while_read, try_body_halts, catch_halts, catch_name_halts, caught_halts, try_read}
use Rattle.script_grammar.proofs.parser.blocks.+blocks.Goals as goal

pub block_at-returns-in_err-rest-clause-stop : goal.block_at-returns-in_err-rest-clause-stop
block_at-returns-in_err-rest-clause-stop t c =
    exits block_form _ _ c.in_err-rest.field-0.0 c.from_residual.ensures.1
    (open_brace_halts _ _ c.in_err-rest.ensures.stop)

pub block_at-returns-in_err-stmts-clause-stop : goal.block_at-returns-in_err-stmts-clause-stop
block_at-returns-in_err-stmts-clause-stop t c =
    exits block_form _ _ c.in_err-stmts.field-0.0 c.from_residual-in_err-stmts.ensures.1
    (stmts_halts _ c.in_ok-rest.ensures.read c.in_err-stmts.ensures.stop)

pub block_at-returns-clause-read : goal.block_at-returns-clause-read
block_at-returns-clause-read t c =
    block_read c.in_ok-rest.ensures.read c.in_ok-stmts.ensures.read

pub else_at-returns-in_err-block-clause-stop : goal.else_at-returns-in_err-block-clause-stop
else_at-returns-in_err-block-clause-stop t c =
    exits else_form _ _ c.in_err-block.field-0.0 c.from_residual.ensures.1
    (else_halts _ c.in-Some.ensures c.in_err-block.ensures.stop)

pub if_at-returns-in_err-test-clause-stop : goal.if_at-returns-in_err-test-clause-stop
if_at-returns-in_err-test-clause-stop t c =
    exits stmt_form _ _ c.in_err-test.field-0.0 c.from_residual.ensures.1
    (if_test_halts _ _ c.in_err-test.ensures.stop)

pub if_at-returns-in_err-yes-clause-stop : goal.if_at-returns-in_err-yes-clause-stop
if_at-returns-in_err-yes-clause-stop t c =
    exits stmt_form _ _ c.in_err-yes.field-0.0 c.from_residual-in_err-yes.ensures.1
    (if_block_halts _ c.in_ok-test.ensures.read c.in_err-yes.ensures.stop)

pub if_at-returns-in_err-no-clause-stop : goal.if_at-returns-in_err-no-clause-stop
if_at-returns-in_err-no-clause-stop t c =
    exits stmt_form _ _ c.in_err-no.field-0.0 c.from_residual-in_err-no.ensures.1
    (if_else_halts _ c.in_ok-test.ensures.read c.in_ok-yes.ensures.read c.in_err-no.ensures.stop)

pub if_at-returns-clause-read : goal.if_at-returns-clause-read
if_at-returns-clause-read t c =
    if_read c.in_ok-test.ensures.read c.in_ok-yes.ensures.read c.in_ok-no.ensures.read

pub stmts_at-returns-in-Some-clause-read : goal.stmts_at-returns-in-Some-clause-read
stmts_at-returns-in-Some-clause-read t c =
    row_read _ _ _ c.row.stmts c.row.invariant c.in-Some.ensures

pub stmts_at-returns-in_err-stmt-clause-stop : goal.stmts_at-returns-in_err-stmt-clause-stop
stmts_at-returns-in_err-stmt-clause-stop t c =
    exits stmts_form _ _ c.in_err-stmt.field-0.0 c.from_residual.ensures.1
    (row_halts _ _ c.row.stmts _ c.row.invariant c.in_default.ensures c.in_err-stmt.ensures.stop)

pub stmts_at-row-preserved : goal.stmts_at-row-preserved
stmts_at-row-preserved t c =
    subst (λ z. RowRead c.args.tokens.now z c.in_ok-stmt.more.now) (sym c.in_ok-push.ensures.ok)
    (row_more _ _ _ c.row.stmts c.in_ok-stmt.stmt c.row.invariant c.in_default.ensures c.in_ok-stmt.ensures.read
    c.in_ok-stmt.ensures.shorter)

pub try_at-returns-in_err-body-clause-stop : goal.try_at-returns-in_err-body-clause-stop
try_at-returns-in_err-body-clause-stop t c =
    exits stmt_form _ _ c.in_err-body.field-0.0 c.from_residual.ensures.1
    (try_body_halts _ _ c.in_err-body.ensures.stop)

pub try_at-returns-in_err-rest-clause-stop : goal.try_at-returns-in_err-rest-clause-stop
try_at-returns-in_err-rest-clause-stop t c =
    exits stmt_form _ _ c.in_err-rest.field-0.0 c.from_residual-in_err-rest.ensures.1
    (catch_halts _ c.in_ok-body.ensures.read c.in_err-rest.ensures.stop)

pub try_at-returns-in_err-name-clause-stop : goal.try_at-returns-in_err-name-clause-stop
try_at-returns-in_err-name-clause-stop t c =
    exits stmt_form _ _ c.in_err-name.field-0.0 c.from_residual-in_err-name.ensures.1
    (catch_name_halts _ c.in_ok-body.ensures.read c.in_ok-rest.ensures.read c.in_err-name.ensures.stop)

pub try_at-returns-in_err-caught-clause-stop : goal.try_at-returns-in_err-caught-clause-stop
try_at-returns-in_err-caught-clause-stop t c =
    exits stmt_form _ _ c.in_err-caught.field-0.0 c.from_residual-in_err-caught.ensures.1
    (caught_halts _ c.in_ok-body.ensures.read c.in_ok-rest.ensures.read c.in_ok-name.ensures.read c.in_err-caught.ensures.stop)

pub try_at-returns-clause-read : goal.try_at-returns-clause-read
try_at-returns-clause-read t c =
    try_read c.in_ok-body.ensures.read c.in_ok-rest.ensures.read c.in_ok-name.ensures.read c.in_ok-caught.ensures.read

pub while_at-returns-in_err-test-clause-stop : goal.while_at-returns-in_err-test-clause-stop
while_at-returns-in_err-test-clause-stop t c =
    exits stmt_form _ _ c.in_err-test.field-0.0 c.from_residual.ensures.1
    (while_test_halts _ _ c.in_err-test.ensures.stop)

pub while_at-returns-in_err-body-clause-stop : goal.while_at-returns-in_err-body-clause-stop
while_at-returns-in_err-body-clause-stop t c =
    exits stmt_form _ _ c.in_err-body.field-0.0 c.from_residual-in_err-body.ensures.1
    (while_body_halts _ c.in_ok-test.ensures.read c.in_err-body.ensures.stop)

pub while_at-returns-clause-read : goal.while_at-returns-clause-read
while_at-returns-clause-read t c =
    while_read c.in_ok-test.ensures.read c.in_ok-body.ensures.read
