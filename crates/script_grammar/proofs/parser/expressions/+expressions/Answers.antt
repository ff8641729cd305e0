-- Each exit of an expression's reading says where the expression cannot be read on.
use Rattle.std.proofs.Common.{sym, subst, true, false}
use Rattle.std.specs.Option.{is_some}
use Rattle.script_grammar.specs.Forms.{Reads}
use Rattle.script_grammar.specs.ExpressionForms.{head_form, closed_form, suffix_form, suffixes_form, arg_form, args_form, more_args_form, some_args_form, expr_form}
use Rattle.script_grammar.specs.declared.parser.tokens.SuffixStart.TheVariants as start
use Rattle.script_grammar.proofs.Exits.{exits, halts_as}
use Rattle.script_grammar.proofs.Steps.{head_halts, suffixes_of_halts, expr_read, value_halts, close_halts, operand_halts, left_halts, operator_halts, right_halts, binary_read, convert_open_halts, convert_value_halts, new_open_halts, target_halts, new_args_halts, new_of_read}
use Rattle.script_grammar.proofs.RowSteps.{SuffixesRead, ArgsRead, suffixes_more, suffixes_halts, suffixes_read, start_halts, start_reads, key_halts, bracket_halts, index_read, call_halts, member_halts, member_args_halts, args_halts, more_comma_halts, more_args_halts, args_start, arg_halts, some_args_read, comma_halts, args_more, arg_value_halts, unnamed_halts, unnamed_stops, colon_stops, colon_value_halts, arg_name_halts, arg_colon_halts, named_value_halts}
use Rattle.script_grammar.proofs.parser.expressions.+expressions.Goals as goal

pub arg_at-returns-in_err-value-clause-stop : goal.arg_at-returns-in_err-value-clause-stop
arg_at-returns-in_err-value-clause-stop t c =
    exits (arg_form c.args.named) _ _ c.in_err-value.field-0.0 c.from_residual.ensures.1
    (unnamed_halts _ _ _ c.if-named.false (arg_value_halts _ _ c.in_err-value.ensures.stop))

pub arg_at-returns-in_default-bare_name-clause-stop : goal.arg_at-returns-in_default-bare_name-clause-stop
arg_at-returns-in_default-bare_name-clause-stop t c =
    unnamed_stops _ _ _ c.if-named.false (colon_stops c.in_ok-value.ensures.read c.in-Some.ensures c.in_default-bare_name.ensures)

pub arg_at-returns-in_err-value-2-clause-stop : goal.arg_at-returns-in_err-value-2-clause-stop
arg_at-returns-in_err-value-2-clause-stop t c =
    exits (arg_form c.args.named) _ _ c.in_err-value-2.field-0.0 c.from_residual-in_err-value-2.ensures.1
    (unnamed_halts _ _ _ c.if-named.false (colon_value_halts _ c.in_ok-value.ensures.read c.in-Some-bare_name.ensures c.in-Some.ensures
    c.in_err-value-2.ensures.stop))

pub args_at-returns-clause-stop : goal.args_at-returns-clause-stop
args_at-returns-clause-stop t c =
    halts_as args_form (some_args_form false) _ _ c.some_args_at.result (λ h stop. args_halts _ h c.in_default.ensures stop)
    c.some_args_at.ensures.stop

pub closed_at-returns-in_err-value-clause-stop : goal.closed_at-returns-in_err-value-clause-stop
closed_at-returns-in_err-value-clause-stop t c =
    exits closed_form _ _ c.in_err-value.field-0.0 c.from_residual.ensures.1
    (value_halts _ _ c.in_err-value.ensures.stop)

pub closed_at-returns-in_err-rest-clause-stop : goal.closed_at-returns-in_err-rest-clause-stop
closed_at-returns-in_err-rest-clause-stop t c =
    exits closed_form _ _ c.in_err-rest.field-0.0 c.from_residual-in_err-rest.ensures.1
    (close_halts _ c.in_ok-value.ensures.read c.in_err-rest.ensures.stop)

pub convert_at-returns-in_err-rest-clause-stop : goal.convert_at-returns-in_err-rest-clause-stop
convert_at-returns-in_err-rest-clause-stop t c =
    exits head_form _ _ c.in_err-rest.field-0.0 c.from_residual.ensures.1
    (convert_open_halts _ _ _ c.requires.written c.in_err-rest.ensures.stop)

pub convert_at-returns-in_err-value-clause-stop : goal.convert_at-returns-in_err-value-clause-stop
convert_at-returns-in_err-value-clause-stop t c =
    exits head_form _ _ c.in_err-value.field-0.0 c.from_residual-in_err-value.ensures.1
    (convert_value_halts _ _ c.requires.written c.in_ok-rest.ensures.read c.in_err-value.ensures.stop)

pub expr_at-returns-in_err-head-clause-stop : goal.expr_at-returns-in_err-head-clause-stop
expr_at-returns-in_err-head-clause-stop t c =
    exits expr_form _ _ c.in_err-head.field-0.0 c.from_residual.ensures.1
    (head_halts _ _ c.in_err-head.ensures.stop)

pub expr_at-returns-in_err-suffixes-clause-stop : goal.expr_at-returns-in_err-suffixes-clause-stop
expr_at-returns-in_err-suffixes-clause-stop t c =
    exits expr_form _ _ c.in_err-suffixes.field-0.0 c.from_residual-in_err-suffixes.ensures.1
    (suffixes_of_halts _ c.in_ok-head.ensures.read c.in_err-suffixes.ensures.stop)

pub expr_at-returns-clause-read : goal.expr_at-returns-clause-read
expr_at-returns-clause-read t c =
    expr_read c.in_ok-head.ensures.read c.in_ok-suffixes.ensures.read

pub member_at-returns-in_err-name-clause-stop : goal.member_at-returns-in_err-name-clause-stop
member_at-returns-in_err-name-clause-stop t c =
    exits (suffix_form start.Dot) _ _ c.in_err-name.field-0.0 c.from_residual.ensures.1
    (member_halts _ _ c.in_err-name.ensures.stop)

pub member_at-returns-in_err-args-in-Some-clause-stop : goal.member_at-returns-in_err-args-in-Some-clause-stop
member_at-returns-in_err-args-in-Some-clause-stop t c =
    exits (suffix_form start.Dot) _ _ c.in_err-args-in-Some.field-0.0 c.from_residual-in_err-args-in-Some.ensures.1
    (member_args_halts _ c.in_ok-name.ensures.read c.in-Some.ensures c.in_err-args-in-Some.ensures.stop)

pub more_args_at-returns-in_err-rest-clause-stop : goal.more_args_at-returns-in_err-rest-clause-stop
more_args_at-returns-in_err-rest-clause-stop t c =
    exits (more_args_form false) _ _ c.in_err-rest.field-0.0 c.from_residual.ensures.1
    (more_comma_halts _ _ c.in_default.ensures c.in_err-rest.ensures.stop)

pub more_args_at-returns-clause-stop : goal.more_args_at-returns-clause-stop
more_args_at-returns-clause-stop t c =
    halts_as (more_args_form false) (some_args_form false) _ _ c.some_args_at.result
    (λ h stop. more_args_halts h c.in_default.ensures c.in_ok-rest.ensures.read stop) c.some_args_at.ensures.stop

pub named_arg_at-returns-in_err-name-clause-stop : goal.named_arg_at-returns-in_err-name-clause-stop
named_arg_at-returns-in_err-name-clause-stop t c =
    exits (arg_form true) _ _ c.in_err-name.field-0.0 c.from_residual.ensures.1
    (arg_name_halts _ _ c.in_err-name.ensures.stop)

pub named_arg_at-returns-in_err-rest-clause-stop : goal.named_arg_at-returns-in_err-rest-clause-stop
named_arg_at-returns-in_err-rest-clause-stop t c =
    exits (arg_form true) _ _ c.in_err-rest.field-0.0 c.from_residual-in_err-rest.ensures.1
    (arg_colon_halts _ c.in_ok-name.ensures.read c.in_err-rest.ensures.stop)

pub named_arg_at-returns-in_err-value-clause-stop : goal.named_arg_at-returns-in_err-value-clause-stop
named_arg_at-returns-in_err-value-clause-stop t c =
    exits (arg_form true) _ _ c.in_err-value.field-0.0 c.from_residual-in_err-value.ensures.1
    (named_value_halts _ c.in_ok-name.ensures.read c.in_ok-rest.ensures.read c.in_err-value.ensures.stop)

pub new_at-returns-in_err-rest-clause-stop : goal.new_at-returns-in_err-rest-clause-stop
new_at-returns-in_err-rest-clause-stop t c =
    exits head_form _ _ c.in_err-rest.field-0.0 c.from_residual.ensures.1
    (new_open_halts _ _ c.in_err-rest.ensures.stop)

pub new_at-returns-in_err-target-clause-stop : goal.new_at-returns-in_err-target-clause-stop
new_at-returns-in_err-target-clause-stop t c =
    exits head_form _ _ c.in_err-target.field-0.0 c.from_residual-in_err-target.ensures.1
    (target_halts _ c.in_ok-rest.ensures.read c.in_default.ensures c.in_err-target.ensures.stop)

pub new_at-returns-in_err-args-clause-stop : goal.new_at-returns-in_err-args-clause-stop
new_at-returns-in_err-args-clause-stop t c =
    exits head_form _ _ c.in_err-args.field-0.0 c.from_residual-in_err-args.ensures.1
    (new_args_halts _ c.in_ok-rest.ensures.read c.in_default.ensures c.in_ok-target.ensures.read c.in_err-args.ensures.stop)

pub new_at-returns-clause-read : goal.new_at-returns-clause-read
new_at-returns-clause-read t c =
    new_of_read c.in_ok-rest.ensures.read c.in_default.ensures c.in_ok-target.ensures.read c.in_ok-args.ensures.read c.in_ok-target-2.ensures

pub operation_at-returns-in_err-value-clause-stop : goal.operation_at-returns-in_err-value-clause-stop
operation_at-returns-in_err-value-clause-stop t c =
    exits head_form _ _ c.in_err-value.field-0.0 c.from_residual.ensures.1
    (operand_halts _ _ c.in-Some.ensures c.in_err-value.ensures.stop)

pub operation_at-returns-in_err-left-clause-stop : goal.operation_at-returns-in_err-left-clause-stop
operation_at-returns-in_err-left-clause-stop t c =
    exits head_form _ _ c.in_err-left.field-0.0 c.from_residual-in_err-left.ensures.1
    (left_halts _ _ c.in_default.ensures c.in_err-left.ensures.stop)

pub operation_at-returns-in_err-op-clause-stop : goal.operation_at-returns-in_err-op-clause-stop
operation_at-returns-in_err-op-clause-stop t c =
    exits head_form _ _ c.in_err-op.field-0.0 c.from_residual-in_err-op.ensures.1
    (operator_halts _ c.in_default.ensures c.in_ok-left.ensures.read c.in_err-op.ensures.stop)

pub operation_at-returns-in_err-right-clause-stop : goal.operation_at-returns-in_err-right-clause-stop
operation_at-returns-in_err-right-clause-stop t c =
    exits head_form _ _ c.in_err-right.field-0.0 c.from_residual-in_err-right.ensures.1
    (right_halts _ c.in_default.ensures c.in_ok-left.ensures.read c.in_ok-op.ensures.read c.in_err-right.ensures.stop)

pub operation_at-returns-clause-read : goal.operation_at-returns-clause-read
operation_at-returns-clause-read t c =
    binary_read c.in_default.ensures c.in_ok-left.ensures.read c.in_ok-op.ensures.read c.in_ok-right.ensures.read c.in_ok-left-2.ensures

pub some_args_at-row-init : goal.some_args_at-row-init
some_args_at-row-init t c =
    subst (λ z. ArgsRead c.args.tokens.now z false c.args.tokens.now) (sym c.new-args.ensures) (args_start c.args.tokens.now)

pub some_args_at-returns-in_err-arg-clause-stop : goal.some_args_at-returns-in_err-arg-clause-stop
some_args_at-returns-in_err-arg-clause-stop t c =
    exits (some_args_form false) _ _ c.in_err-arg.field-0.0 c.from_residual.ensures.1
    (arg_halts _ c.row.invariant c.in_err-arg.ensures.stop)

pub some_args_at-returns-in-Some-clause-read : goal.some_args_at-returns-in-Some-clause-read
some_args_at-returns-in-Some-clause-read t c =
    subst (λ z. Reads (some_args_form false) c.args.tokens.now z c.in-Some.rest.now) (sym c.in_ok-push.ensures.ok)
    (some_args_read c.row.invariant c.in_ok-arg.ensures.read c.in-Some.ensures)

pub some_args_at-returns-in_err-rest-clause-stop : goal.some_args_at-returns-in_err-rest-clause-stop
some_args_at-returns-in_err-rest-clause-stop t c =
    exits (some_args_form false) _ _ c.in_err-rest.field-0.0 c.from_residual-in_err-rest.ensures.1
    (comma_halts _ c.row.invariant c.in_ok-arg.ensures.read c.in_default.ensures c.in_err-rest.ensures.stop)

pub some_args_at-row-preserved : goal.some_args_at-row-preserved
some_args_at-row-preserved t c =
    subst (λ z. ArgsRead c.args.tokens.now c.push.new.self z c.in_ok-rest.rest.now) (sym c.is_some-named.ensures)
    (subst (λ z. ArgsRead c.args.tokens.now z (is_some c.in_ok-arg.arg.name) c.in_ok-rest.rest.now) (sym c.in_ok-push.ensures.ok)
    (args_more c.row.invariant c.in_ok-arg.ensures.read c.in_default.ensures c.in_ok-rest.ensures.read c.in_ok-arg.ensures.shorter
    c.in_ok-rest.ensures.shorter))

pub suffix_at-returns-in_err-key-in-Bracket-clause-stop : goal.suffix_at-returns-in_err-key-in-Bracket-clause-stop
suffix_at-returns-in_err-key-in-Bracket-clause-stop t c =
    exits (suffix_form c.args.start) _ _ c.in_err-key-in-Bracket.field-0.0 c.from_residual.ensures.1
    (start_halts _ start.Bracket _ _ c.in-Bracket.is (key_halts _ _ c.in_err-key-in-Bracket.ensures.stop))

pub suffix_at-returns-in_err-rest-in-Bracket-clause-stop : goal.suffix_at-returns-in_err-rest-in-Bracket-clause-stop
suffix_at-returns-in_err-rest-in-Bracket-clause-stop t c =
    exits (suffix_form c.args.start) _ _ c.in_err-rest-in-Bracket.field-0.0 c.from_residual-in_err-rest-in-Bracket.ensures.1
    (start_halts _ start.Bracket _ _ c.in-Bracket.is (bracket_halts _ c.in_ok-key-in-Bracket.ensures.read c.in_err-rest-in-Bracket.ensures.stop))

pub suffix_at-returns-in_err-args-in-Parenthesis-clause-stop : goal.suffix_at-returns-in_err-args-in-Parenthesis-clause-stop
suffix_at-returns-in_err-args-in-Parenthesis-clause-stop t c =
    exits (suffix_form c.args.start) _ _ c.in_err-args-in-Parenthesis.field-0.0 c.from_residual-in_err-args-in-Parenthesis.ensures.1
    (start_halts _ start.Parenthesis _ _ c.in-Parenthesis.is (call_halts _ _ c.in_err-args-in-Parenthesis.ensures.stop))

pub suffix_at-returns-in_ok-rest-in-Bracket-clause-read : goal.suffix_at-returns-in_ok-rest-in-Bracket-clause-read
suffix_at-returns-in_ok-rest-in-Bracket-clause-read t c =
    start_reads _ start.Bracket _ _ _ c.in-Bracket.is (index_read c.in_ok-key-in-Bracket.ensures.read c.in_ok-rest-in-Bracket.ensures.read)

pub suffixes_at-returns-in_err-suffix-clause-stop : goal.suffixes_at-returns-in_err-suffix-clause-stop
suffixes_at-returns-in_err-suffix-clause-stop t c =
    exits (suffixes_form false) _ _ c.in_err-suffix.field-0.0 c.from_residual.ensures.1
    (suffixes_halts _ _ _ c.row.suffixes _ _ c.row.invariant c.in-Some.ensures c.in_err-suffix.ensures.stop)

pub suffixes_at-row-preserved : goal.suffixes_at-row-preserved
suffixes_at-row-preserved t c =
    subst (λ z. SuffixesRead c.args.tokens.now z c.in_ok-suffix.more.now) (sym c.in_ok-push.ensures.ok)
    (suffixes_more _ _ _ _ c.row.suffixes _ c.in_ok-suffix.suffix c.row.invariant c.in-Some.ensures c.in_ok-suffix.ensures.read
    c.in_ok-suffix.ensures.shorter)

pub suffixes_at-returns-clause-read : goal.suffixes_at-returns-clause-read
suffixes_at-returns-clause-read t c =
    suffixes_read _ _ c.row.suffixes c.row.invariant c.in_default.ensures
