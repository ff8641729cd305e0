use Rattle.known_rules.specs.Guarding.{Passes}
use Rattle.known_rules.specs.Knowledge.{rules_in}
use Rattle.dlr_engine.proofs.Permuting.{searched}
use Rattle.dlr_engine.proofs.choosing.choose_again.Goals as goal

pub returns-else-class-first-clause-among : goal.returns-else-class-first-clause-among
returns-else-class-first-clause-among c =
    searched (Passes c.args.operands.now c.args.class) (rules_in c.args.known.now) (rules_in c.find.new.self) c.find.result
    c.find.ensures.same c.find.ensures.found
