use Rattle.expando_class.specs.Class.{names_of}
use Rattle.rule_model.specs.Claims.{changed}
use Rattle.rule.proofs.ClassLists.{none_there}
use Rattle.rule.proofs.class_lists.agrees_at.Goals as goal

pub returns-in-None : goal.returns-in-None
returns-in-None c =
    none_there (names_of c.args.after.now) (changed (names_of c.args.class.now) c.args.claimed.now.name c.args.claimed.now.place) c.args.place c.size-size.result c.size-size.ensures.size c.in-None.ensures
