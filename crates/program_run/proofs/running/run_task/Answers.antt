use Rattle.task_walk.specs.Comings.{told}
use Rattle.program_run.proofs.Ready.{is_for, task_does, task_fits}
use Rattle.program_run.proofs.TaskRuns.{task_asked, task_begun, task_grew, task_ran}
use Rattle.program_run.proofs.running.run_task.Goals as goal

pub run_code-requires-clause-world : goal.run_code-requires-clause-world
run_code-requires-clause-world g c =
    is_for c.args.program.now c.args.task (g.W.World.tale c.args.world.now).by c.script.result.now c.numbering-numbering.result.now
    c.requires.task c.script.ensures.script c.numbering-numbering.ensures.numbering
    (record { binders = c.as_slice.result; sites = c.as_slice-2.result; functions = c.as_slice-3.result }) c.in_ok-script.script.functions
    c.as_slice.ensures c.as_slice-2.ensures c.as_slice-3.ensures c.in_ok-script.ensures.params c.in_ok-script.ensures.functions

pub run_code-requires-clause-fits : goal.run_code-requires-clause-fits
run_code-requires-clause-fits g c =
    task_fits c.args.program.now c.args.task (g.W.World.tale c.args.world.now).by c.script.result.now c.numbering-numbering.result.now
    c.requires.task c.script.ensures.script c.numbering-numbering.ensures.numbering
    c.in_ok-script.script c.as_slice-4.result.now c.index-as_slice-task.result c.as_slice-4.ensures
    c.in_ok-script.ensures.count c.index-as_slice-task.is c.in_ok-script.ensures.tasks

pub returns-clause-ran : goal.returns-clause-ran
returns-clause-ran g c =
    let does = task_does c.args.program.now c.args.task (g.W.World.tale c.args.world.now).by c.script.result.now c.numbering-numbering.result.now
    c.requires.task c.script.ensures.script c.numbering-numbering.ensures.numbering
    c.in_ok-script.script c.as_slice-3.result.now c.as_slice-4.result.now c.index-as_slice-task.result c.as_slice-4.ensures
    c.in_ok-script.ensures.count c.index-as_slice-task.is c.as_slice-3.ensures c.in_ok-script.ensures.runs in
    task_ran c.args.program.now c.args.task c.args.turns (record { binders = c.as_slice.result; sites = c.as_slice-2.result; functions = c.as_slice-3.result })
    c.index-as_slice-task.result (told (g.W.World.tale c.args.world.now) c.args.printed.now) (told (g.W.World.tale c.run_code.new.world) c.run_code.new.printed)
    c.requires.task.plan does c.run_code.result (g.W.World.answered c.args.world.now) (g.W.World.answered c.run_code.new.world)
    c.run_code.ensures.ran

pub returns-clause-answered : goal.returns-clause-answered
returns-clause-answered g c =
    let does = task_does c.args.program.now c.args.task (g.W.World.tale c.args.world.now).by c.script.result.now c.numbering-numbering.result.now
    c.requires.task c.script.ensures.script c.numbering-numbering.ensures.numbering
    c.in_ok-script.script c.as_slice-3.result.now c.as_slice-4.result.now c.index-as_slice-task.result c.as_slice-4.ensures
    c.in_ok-script.ensures.count c.index-as_slice-task.is c.as_slice-3.ensures c.in_ok-script.ensures.runs in
    task_asked c.args.program.now c.args.task c.args.turns (record { binders = c.as_slice.result; sites = c.as_slice-2.result; functions = c.as_slice-3.result })
    c.index-as_slice-task.result (told (g.W.World.tale c.args.world.now) c.args.printed.now) (told (g.W.World.tale c.run_code.new.world) c.run_code.new.printed)
    c.requires.task.plan does c.run_code.result (g.W.World.answered c.args.world.now) (g.W.World.answered c.run_code.new.world)
    c.run_code.ensures.ran

pub returns-clause-grew : goal.returns-clause-grew
returns-clause-grew g c =
    task_grew (record { binders = c.as_slice.result; sites = c.as_slice-2.result; functions = c.as_slice-3.result }) c.index-as_slice-task.result c.args.turns c.run_code.result
    (told (g.W.World.tale c.args.world.now) c.args.printed.now) (told (g.W.World.tale c.run_code.new.world) c.run_code.new.printed)
    (g.W.World.answered c.args.world.now) (g.W.World.answered c.run_code.new.world) c.run_code.ensures.ran

pub returns-clause-begun : goal.returns-clause-begun
returns-clause-begun g c =
    task_begun (record { binders = c.as_slice.result; sites = c.as_slice-2.result; functions = c.as_slice-3.result }) c.index-as_slice-task.result c.args.turns c.run_code.result
    (told (g.W.World.tale c.args.world.now) c.args.printed.now) (told (g.W.World.tale c.run_code.new.world) c.run_code.new.printed)
    (g.W.World.answered c.args.world.now) (g.W.World.answered c.run_code.new.world) c.run_code.ensures.ran
