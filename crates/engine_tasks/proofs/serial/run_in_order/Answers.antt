use Rattle.std.proofs.Common.{◌≡◌, ◌∙◌, ◌<◌, ℕ, length, ap, sym, subst, arith}
use Rattle.script_program.specs.declared.program.Program.{Program}
use Rattle.script_program.specs.Programs.{script_of}
use Rattle.dlr_engine.specs.declared.pass.Pass.{Pass}
use Rattle.dlr_engine.specs.declared.run.Run.{Run}
use Rattle.dlr_engine.specs.Engines.{run_of}
use Rattle.dlr_engine.specs.Passes.{made_in, number_of, program_in, IsPassOf}
use Rattle.engine_tasks.specs.TaskRuns.{AreRunIn, HasPlainNumbers}
use Rattle.engine_tasks.specs.Worlds.{Serves}
use Rattle.engine_tasks.proofs.Reports.{none_in_order, one_more_in_order}
use Rattle.engine_tasks.proofs.serial.run_in_order.Goals as goal

pub loop-task-init : goal.loop-task-init
loop-task-init g c = record {
  engine = ap run_of c.new-world.ensures.engine;
  number = ap number_of c.new-world.ensures.pass ∙ c.requires.one.0;
  made = ap made_in c.new-world.ensures.pass ∙ c.requires.one.1;
  few = omega (arith, c.new-world.ensures.count);
  run = none_in_order c.args.options.now (run_of c.args.engine.now) _ _ _ c.new-tasks.ensures c.new-world.ensures.pass c.requires.new;
}

pub run_one-requires-clause-task : goal.run_one-requires-clause-task
run_one-requires-clause-task g c =
    let size : length c.tasks.result.now ≡ length (script_of (program_in (run_of c.args.engine.now))).tasks =
    ap length c.tasks.ensures.tasks ∙ ap (λ (p : Program). length (script_of p).tasks) c.program.ensures in
    subst (λ (r : Run). c.loop-task.task < length (script_of (program_in r)).tasks) (sym c.loop-task.invariant.engine)
    (omega (arith, c.loop-task-test.true, c.loop-task.auto.task-end, size, c.tasks.ensures.few))

pub run_one-requires-clause-serves : goal.run_one-requires-clause-serves
run_one-requires-clause-serves g c = subst (Serves c.args.options.now) (sym c.loop-task.invariant.engine) c.requires.serves

pub run_one-requires-clause-few : goal.run_one-requires-clause-few
run_one-requires-clause-few g c = omega (arith, c.loop-task.invariant.few, c.loop-task-test.true, c.loop-task.auto.task-end, c.tasks.ensures.few)

pub loop-task-preserved : goal.loop-task-preserved
loop-task-preserved g c =
    let old = c.loop-task.world in
    let new = c.run_one.new.world in
    let invariant = c.loop-task.invariant in
    record {
      engine = c.run_one.ensures.engine ∙ invariant.engine;
      number = c.run_one.ensures.pass.0 ∙ invariant.number;
      made = c.run_one.ensures.pass.1 ∙ invariant.made;
      few = omega (arith, c.run_one.ensures.few, invariant.few);
      run = one_more_in_order c.args.options.now (run_of c.args.engine.now) (run_of old.engine.now) (run_of new.engine.now) c.loop-task.task c.loop-task.tasks _
          c.in_ok-run_one.field-0 old.pass new.pass invariant.engine c.run_one.ensures.engine invariant.number invariant.made c.run_one.ensures.pass
          invariant.run c.in_ok-run_one.ensures.ran new.plain c.in_ok-push.ensures.ok;
    }

pub returns-clause-own : goal.returns-clause-own
returns-clause-own g c = subst (λ (r : Run). IsPassOf r c.into_pass.result) c.loop-task.invariant.engine c.into_pass.ensures.own

pub returns-clause-number : goal.returns-clause-number
returns-clause-number g c = ap number_of c.into_pass.ensures.pass ∙ c.loop-task.invariant.number

pub returns-clause-plain : goal.returns-clause-plain
returns-clause-plain g c =
    let made = ap made_in c.into_pass.ensures.pass ∙ c.loop-task.invariant.made in
    subst (λ (r : Run). HasPlainNumbers (program_in r) c.into_pass.result) c.loop-task.invariant.engine (c.into_pass.ensures.plain made)

pub returns-clause-run : goal.returns-clause-run
returns-clause-run g c =
    let size : length c.tasks.result.now ≡ length (script_of (program_in (run_of c.args.engine.now))).tasks =
    ap length c.tasks.ensures.tasks ∙ ap (λ (p : Program). length (script_of p).tasks) c.program.ensures in
    let all : c.loop-task.task ≡ length (script_of (program_in (run_of c.args.engine.now))).tasks =
    omega (arith, c.loop-task-test.false, c.loop-task.auto.task-end, size, c.tasks.ensures.few) in
    subst (λ (q : ℕ × Pass). AreRunIn (program_in (run_of c.args.engine.now)) c.args.options.now q.0 c.loop-task.tasks q.1)
    (λ i. (all i, sym c.into_pass.ensures.pass i)) c.loop-task.invariant.run
