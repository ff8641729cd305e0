use Rattle.dlr_engine.specs.Engines.{run_of}
use Rattle.engine_tasks.proofs.Tales.{none_answered, one_answered}
use Rattle.engine_tasks.proofs.world.EngineWorldWorld.operate.Goals as goal

pub returns-in-Ok-clause-answers : goal.returns-in-Ok-clause-answers
returns-in-Ok-clause-answers g c =
    let world = c.args.self.now in
    one_answered (run_of world.engine.now) world.task c.args.site world.count c.args.operands.now world.pass c.operate.new.pass c.in-Ok.answer
    c.requires.proper c.operate.ensures.taken c.in-Ok.ensures.answered

pub returns-in-Err-clause-refused : goal.returns-in-Err-clause-refused
returns-in-Err-clause-refused g c =
    let world = c.args.self.now in
    none_answered (run_of world.engine.now) world.task world.count world.pass c.operate.new.pass c.operate.ensures.taken c.in-Err.ensures.refused
