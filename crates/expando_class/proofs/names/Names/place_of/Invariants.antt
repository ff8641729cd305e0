use Rattle.std.proofs.Common.{◌≢◌}
use Rattle.std.specs.List.{AllWithin}
use Rattle.std.specs.String.{string_bytes}
use Rattle.expando_class.proofs.names.Names.place_of.Given as goal

abbrev pub invariant-loop-place : goal.invariant-loop-place
invariant-loop-place l = AllWithin (λ text. string_bytes text ≢ l.name) l.other-items 0 l.place
