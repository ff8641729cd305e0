use Rattle.std.proofs.Common.{rules, sym, ◌∙◌}
use Rattle.std.proofs.lemmas.Str.{chars_from_encodes}
use Rattle.script_places.proofs.Readable.{readable_text, readable_none}
use Rattle.script_places.proofs.position.characters_of.Goals as goal

pub returns-in-Ok : goal.returns-in-Ok
returns-in-Ok c = rw (readable_text c.args.bytes.now c.in-Ok.ensures.cases.1) (search (rules, chars_from_encodes))

pub returns-in-Err : goal.returns-in-Err
returns-in-Err c = c.new.ensures.items ∙ sym (readable_none c.args.bytes.now c.in-Err.ensures.cases.0)
