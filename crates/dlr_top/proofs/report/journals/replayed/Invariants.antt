use Rattle.std.proofs.Common.{◌≡◌, [], take}
use Rattle.object_model.specs.Journals.{members_after}
use Rattle.dlr_top.proofs.report.journals.replayed.Given as goal

abbrev pub invariant-loop-entry : goal.invariant-loop-entry
invariant-loop-entry l = l.members ≡ members_after l.binders [] (take l.entry-index l.journal)
