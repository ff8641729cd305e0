use Rattle.std.proofs.Common.{◌≡◌, ◌++◌, take, encode_utf8_all}
use Rattle.std.specs.List.{flat_map}
use Rattle.standard_binders.specs.Arguments.{name_text}
use Rattle.standard_binders.proofs.call_info.append_names.Given as goal

abbrev pub invariant-loop-name : goal.invariant-loop-name
invariant-loop-name l = l.out.items ≡ l.initial.out.items ++ encode_utf8_all (flat_map name_text (take l.name-index l.names))
