use Rattle.dlr_engine.specs.Passes.{drawn_of}
use Rattle.engine_tasks.proofs.Tales.{last_numbers}
use Rattle.engine_tasks.proofs.world.EngineWorld.drawn_after.Goals as goal

pub returns : goal.returns
returns g c = last_numbers c.numbers_in.result c.args.count c.drawn.result.now (drawn_of c.args.self.now.pass) c.drawn.ensures c.numbers_in.ensures
