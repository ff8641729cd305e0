use Rattle.std.proofs.Common.{◌≡◌, ◌++◌, length}
use Rattle.script_names.specs.Scripts.{item_names, items_flags, judged}
use Rattle.script_names.proofs.scripts.judged_tokens.Given as goal

-- what was judged, with the items that are left, is all
abbrev pub invariant-loop-items : goal.invariant-loop-items
invariant-loop-items l = l.flags ++ items_flags (item_names l.script) l.earlier l.items l.shared l.functions l.tasks ≡ judged l.script

abbrev pub decreases-loop-items : goal.decreases-loop-items
decreases-loop-items l = length l.items
