use Rattle.std.proofs.Common.{◌≡◌, map, take}
use Rattle.dlr_engine.specs.Draws.{number_drawn}
use Rattle.engine_tasks.proofs.world.numbers_in.Given as goal

abbrev pub invariant-loop-draw : goal.invariant-loop-draw
invariant-loop-draw l = l.numbers ≡ map number_drawn (take l.draw-index l.draws)
