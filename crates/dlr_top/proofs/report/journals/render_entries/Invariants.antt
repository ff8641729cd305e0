use Rattle.std.proofs.Common.{◌≡◌, ◌++◌, take}
use Rattle.std.specs.Prelude.{encode_utf8_all}
use Rattle.std.specs.List.{flat_map}
use Rattle.dlr_top.specs.Rendering.{entry_text}
use Rattle.dlr_top.proofs.report.journals.render_entries.Given as goal

abbrev pub invariant-loop-entry : goal.invariant-loop-entry
invariant-loop-entry l = l.out.items ≡ l.initial.out.items ++ encode_utf8_all (flat_map (entry_text l.program) (take l.entry-index l.journal))
