use Rattle.std.proofs.Common.{◌≡◌, ◌∷◌, string_bytes}
use Rattle.std.specs.List.{flat_map}
use Rattle.std.specs.Str.{chars}
use Rattle.dyn_value.specs.Texts.{escaped}
use Rattle.dyn_value.proofs.quote.quoted.Given as goal

abbrev pub invariant-loop-character : goal.invariant-loop-character
invariant-loop-character l = chars (string_bytes l.quoted) ≡ 34 ∷ flat_map escaped l.yielded
