use Rattle.dlr_engine.specs.Engines.{run_of}
use Rattle.engine_tasks.proofs.Closings.{has_closed}
use Rattle.engine_tasks.proofs.Finishes.{finished_passes}
use Rattle.engine_tasks.proofs.Reports.{lawful_beside}
use Rattle.engine_tasks.proofs.beside.run_beside.Goals as goal
use Rattle.std.proofs.Common.{◌∙◌, ap, length}

pub close-requires : goal.close-requires
close-requires g c = record {
  passes = finished_passes c.args.options.now (run_of c.in_ok-engine.engine) c.in_ok-engine.passes.items c.in_ok-run_all.field-0.items c.in_ok-tasks.tasks
      c.in_ok-tasks.passes.items c.in_ok-engine.ensures.passes c.in_ok-run_all.ensures c.in_ok-tasks.ensures;
}

pub returns : goal.returns
returns g c =
    let run = run_of c.in_ok-engine.engine in
    let start = c.in_ok-engine.ensures in
    let end = c.close.ensures in
    let has = has_closed run c.args.program.now c.args.options.now c.in_ok-tasks.passes.items c.close.result start.program start.limit end.count end.rows
    end.numbers end.levels in
    record {
      lawful = lawful_beside c.args.program.now c.args.options.now run c.in_ok-engine.passes.items c.in_ok-run_all.field-0.items c.in_ok-tasks.tasks
          c.in_ok-tasks.passes.items c.close.result start.program (start.count ∙ ap length c.tasks.ensures.tasks) c.requires.apart start.passes start.new
          c.in_ok-run_all.ensures c.in_ok-tasks.ensures has;
    }
