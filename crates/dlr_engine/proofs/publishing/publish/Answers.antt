use Rattle.dlr_engine.proofs.Published.{leaves_unrefused}
use Rattle.dlr_engine.proofs.publishing.publish.Goals as goal

pub returns-in-At-clause-leaves : goal.returns-in-At-clause-leaves
returns-in-At-clause-leaves g c =
    leaves_unrefused c.args.known.now c.publish.new.self c.args.bound c.publish.result c.args.dropped.now c.in-At.is c.publish.ensures.published
