use Rattle.task_compile.proofs.TargetCases.{set_index_case}
use Rattle.task_compile.proofs.members.compile_set_index.Goals as goal

pub returns-clause-code : goal.returns-clause-code
returns-clause-code c =
    set_index_case c.args.scope.now.items c.args.scope.now.locals c.args.site.now c.in_ok-number.number c.compile_expr.new.site c.new_site.new.site c.compile_expr-2.new.site c.args.target.now c.args.key.now c.args.value.now
    c.in_ok-target.target c.in_ok-key.key c.in_ok-value.value
    c.in_ok-number.ensures.number c.in_ok-number.ensures.next c.in_ok-target.ensures.sites c.in_ok-key.ensures.sites c.in_ok-target.ensures.code c.in_ok-key.ensures.code c.in_ok-value.ensures.code
