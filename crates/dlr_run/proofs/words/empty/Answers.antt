use Rattle.std.proofs.Common.{◌∙◌}
use Rattle.std.proofs.lemmas.Str.{chars-nil}
use Rattle.dlr_run.proofs.words.empty.Goals as goal

pub returns : goal.returns
returns c = (rw c.in-Some.is at c.in_ok-word.ensures.characters) ∙ chars-nil
