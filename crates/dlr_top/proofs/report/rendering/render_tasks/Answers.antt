use Rattle.std.proofs.Common.{◌≡◌, ◌<◌, length, get_or, ap, ◌∙◌, subst, arith}
use Rattle.script_program.specs.Programs.{script_of}
use Rattle.dlr_top.proofs.Lines.{tasks_more, refused_here}
use Rattle.dlr_top.proofs.report.rendering.render_tasks.Goals as goal

pub loop-at-preserved : goal.loop-at-preserved
loop-at-preserved c =
    let task : c.task-item.result ≡ get_or (script_of c.args.program.now).tasks c.loop-at.at c.task-item.result =
    c.task-item.is ∙ ap (λ z. get_or z c.loop-at.at c.task-item.result) c.tasks-task-items.ensures.tasks in
    let end : c.index-ends-at.result ≡ get_or c.args.report.now.tasks c.loop-at.at c.index-ends-at.result =
    c.index-ends-at.is ∙ ap (λ z. get_or z c.loop-at.at c.index-ends-at.result) c.as_slice-ends.ensures in
    let within : c.loop-at.at < length (script_of c.args.program.now).tasks = subst (λ z. c.loop-at.at < length z) c.tasks-task-items.ensures.tasks c.loop-at-test.true in
    let within_ends : c.loop-at.at < length c.args.report.now.tasks = omega (arith, c.requires) in
    tasks_more (script_of c.args.program.now).tasks c.args.report.now.tasks c.loop-at.at c.task-item.result c.index-ends-at.result c.args.out.now.items c.loop-at.out.items c.render_task.new.out.items
    within within_ends task end c.loop-at.invariant c.in_ok-render_task.ensures.appended

pub returns-in_err-render_task-clause-begins : goal.returns-in_err-render_task-clause-begins
returns-in_err-render_task-clause-begins c =
    refused_here c.from_residual.result c.args.out.now.items c.loop-at.out.items c.render_task.new.out.items _
    c.loop-at.invariant c.in_err-render_task.ensures.begins
