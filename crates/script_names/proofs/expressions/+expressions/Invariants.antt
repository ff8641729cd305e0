use Rattle.std.proofs.Common.{◌≡◌, ◌++◌, [], take, drop}
use Rattle.std.specs.List.{flat_map}
use Rattle.script_names.specs.Names.{row_after}
use Rattle.script_names.specs.Expressions.{args_flags, arguments, flags_of_suffix}
use Rattle.script_names.proofs.expressions.+expressions.Given as goal

abbrev pub invariant-judge_expr-loop-suffix : goal.invariant-judge_expr-loop-suffix
invariant-judge_expr-loop-suffix l = l.flags ≡ l.initial.flags ++ flat_map (flags_of_suffix l.items l.scope) (take l.suffix-index l.suffix-items)

-- what was judged, with the arguments that are left, is all
abbrev pub invariant-judge_arguments-loop-arg : goal.invariant-judge_arguments-loop-arg
invariant-judge_arguments-loop-arg l =
    l.flags ++ row_after l.comma (args_flags l.earlier (arguments l.items l.scope (drop l.arg-index l.args)))
    ≡ l.initial.flags ++ row_after l.initial.comma (args_flags [] (arguments l.items l.scope l.args))
