use Rattle.std.proofs.Common.{ap, ◌∙◌}
use Rattle.std.specs.Str.{chars}
use Rattle.std.proofs.lemmas.Str.{chars-encodes}
use Rattle.expando_class.specs.Class.{names_of}
use Rattle.rule.proofs.ClassLists.{placed_at, placed_nowhere}
use Rattle.rule.proofs.class_lists.is_placed.Goals as goal

pub returns-in-Some : goal.returns-in-Some
returns-in-Some c =
    placed_at (names_of c.args.class.now) c.args.name.now (chars c.as_str.result.now) c.args.place c.in-Some.place c.is_at.result c.in-Some.is
    (ap chars c.as_str.ensures.bytes ∙ chars-encodes c.args.name.now c.as_str.ensures.proper.0) c.is_at.ensures

pub returns-in-None : goal.returns-in-None
returns-in-None c =
    placed_nowhere (names_of c.args.class.now) c.args.name.now (chars c.as_str-in-None.result.now) c.args.place c.place_of.result c.is_none.result c.in-None.is
    (ap chars c.as_str-in-None.ensures.bytes ∙ chars-encodes c.args.name.now c.as_str-in-None.ensures.proper.0)
    c.place_of.ensures.some c.place_of.ensures.none c.is_none.ensures
