use Rattle.std.proofs.Common.{◌≡◌, map, take, string_bytes}
use Rattle.dlr_run.specs.HandedOn.{handed_on}
use Rattle.dlr_run.proofs.words.texts.Given as goal

abbrev pub invariant-loop-arg : goal.invariant-loop-arg
invariant-loop-arg l = l.words.items ≡ map (λ arg. handed_on (string_bytes arg)) (take l.arg-index l.args)
