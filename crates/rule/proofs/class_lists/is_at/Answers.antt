use Rattle.std.proofs.Common.{slice_get}
use Rattle.expando_class.specs.Class.{names_of}
use Rattle.std.specs.Str.{chars}
use Rattle.rule.proofs.ClassLists.{found_name, none_past}
use Rattle.rule.proofs.class_lists.is_at.Goals as goal

pub returns-then-place-size : goal.returns-then-place-size
returns-then-place-size c =
    found_name (slice_get (names_of c.args.class.now) c.args.place) c.name_at.result.now c.args.name.now c.eq.result c.name_at.ensures c.name_at.utf8 c.utf8.name c.eq.ensures

pub returns-else-place-size : goal.returns-else-place-size
returns-else-place-size c = none_past (names_of c.args.class.now) c.args.place c.size.result (chars c.args.name.now) c.size.ensures.size c.if-place-size.false
