-- The bytes of the name are those of the word exactly where it is the word.
use Rattle.std.proofs.Common.{◌∙◌}
use Rattle.fallback.proofs.LengthNames.{length_by_bytes}
use Rattle.fallback.proofs.rows.is_length.Goals as goal

pub returns : goal.returns
returns c = c.eq.ensures ∙ length_by_bytes c.args.name.now c.as_str.result.now c.as_str.ensures.proper.0 c.as_str.ensures.bytes
