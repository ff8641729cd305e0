-- The place of the name's characters.
use Rattle.std.proofs.Common.{ap, ◌∙◌}
use Rattle.std.specs.Str.{chars}
use Rattle.std.proofs.lemmas.Str.{chars-encodes}
use Rattle.expando_class.specs.Class.{names_of}
use Rattle.object_history.proofs.MemberRules.{placed_by}
use Rattle.object_history.proofs.tests.member_rule.place_in.Goals as goal

pub returns : goal.returns
returns c =
    placed_by (names_of c.args.class.now) (chars c.as_str.result.now) c.args.name.now c.place_of.result
    (ap chars c.as_str.ensures.bytes ∙ chars-encodes c.args.name.now c.as_str.ensures.proper.0) c.place_of.ensures.some c.place_of.ensures.none
