use Rattle.std.proofs.Common.{◌≡◌, ◌<◌, ◌≤◌, ℕ, MatchOption, rules, subst}
use Rattle.dlr_engine.specs.Engines.{run_of}
use Rattle.engine_tasks.proofs.Tales.{one_drawn, plain_drawn}
use Rattle.engine_tasks.proofs.world.EngineWorldWorld.draw.Goals as goal

pub invariant_of-self : goal.invariant_of-self
invariant_of-self g c =
    let world = c.args.self.now in
    record {
      own = c.draw.ensures.own;
      calls = search rules;
      asked = search rules;
      plain = plain_drawn (run_of world.engine.now) world.task c.in-Ok.number world.pass c.draw.new.pass c.draw.ensures.same c.in-Ok.ensures.drawn
          c.in-Ok.ensures.alone world.plain;
    }

pub returns-in-Ok-clause-drawn : goal.returns-in-Ok-clause-drawn
returns-in-Ok-clause-drawn g c =
    let world = c.args.self.now in (
      c.in-Ok.number,
      (
        one_drawn (run_of world.engine.now) world.task world.count c.in-Ok.number world.pass c.draw.new.pass c.draw.ensures.same c.in-Ok.ensures.drawn,
        subst (λ (limit : ℕ). MatchOption c.below.result (limit ≤ c.in-Ok.number) (λ m. (m ≡ c.in-Ok.number) × (c.in-Ok.number < limit)))
            c.limit.ensures c.below.ensures,
      ),
    )
