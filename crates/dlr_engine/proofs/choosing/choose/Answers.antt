use Rattle.known_rules.specs.Guarding.{Passes}
use Rattle.known_rules.specs.Knowledge.{rules_in}
use Rattle.dlr_engine.proofs.Permuting.{comes_after, comes_then, grown, searched}
use Rattle.dlr_engine.proofs.choosing.choose.Goals as goal

pub returns-clause-among : goal.returns-clause-among
returns-clause-among c =
    let others = c.args.has_others in let old = rules_in c.args.known.now in
    let first = rules_in c.choose_again-chosen.new.known in let more = rules_in c.learn.new.self in
    let new = rules_in c.find.new.self in
    let same = searched (Passes c.args.operands.now c.args.class) more new c.find.result c.find.ensures.same c.find.ensures.found in
    comes_after others old first new c.choose_again-chosen.ensures.among
    (comes_then others first more new (grown others first more c.if-not-has_others.false c.learn.ensures.grows) same)
