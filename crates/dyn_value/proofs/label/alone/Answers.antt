use Rattle.dyn_value.proofs.Encoding.{chars_made, chars_label}
use Rattle.dyn_value.proofs.label.alone.Goals as goal

pub returns-clause-characters : goal.returns-clause-characters
returns-clause-characters c =
    let label = c.args.label.now in
    chars_made c.from_str.result label label (chars_label label c.requires.ascii) c.from_str.ensures.ok
