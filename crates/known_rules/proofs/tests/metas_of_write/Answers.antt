use Rattle.known_rules.proofs.WritesBound.{write_metas}
use Rattle.known_rules.proofs.tests.metas_of_write.Goals as goal

pub returns : goal.returns
returns c =
    write_metas c.args.class.now c.args.key.now c.in_ok-first.first c.in_ok-second.second c.in_ok-third.third c.in_ok-first.ensures
    c.in_ok-second.ensures c.in_ok-third.ensures
