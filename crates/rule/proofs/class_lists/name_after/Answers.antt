use Rattle.std.proofs.Common.{ap, ◌∙◌}
use Rattle.std.specs.Option.{option_copied, option_map}
use Rattle.std.specs.Str.{chars}
use Rattle.std.proofs.lemmas.Str.{chars-encodes}
use Rattle.expando_class.specs.Class.{names_of}
use Rattle.rule.proofs.ClassLists.{at_end, before_end}
use Rattle.rule.proofs.class_lists.name_after.Goals as goal

pub returns-in-None : goal.returns-in-None
returns-in-None c =
    at_end (names_of c.args.class.now) c.args.claimed.now.name (chars c.as_str.result.now) c.args.claimed.now.place c.args.place c.size.result c.in-None.is c.if-place-size.true c.size.ensures.size
    (ap chars c.as_str.ensures.bytes ∙ chars-encodes c.args.claimed.now.name c.as_str.ensures.proper.0)

pub returns-in-None-2 : goal.returns-in-None-2
returns-in-None-2 c =
    before_end (option_map chars (option_copied c.name_at-in-None-2.result)) (names_of c.args.class.now) c.args.claimed.now.name c.args.claimed.now.place c.args.place c.size.result c.in-None-2.is c.if-place-size.false c.size.ensures.size
    c.name_at-in-None-2.ensures
