use Rattle.std.proofs.Common.{◌≡◌}
use Rattle.expando_class.specs.Pass.{IsPassOf}
use Rattle.object_history.specs.Rows.{table_of, tag_of}
use Rattle.object_history.proofs.tests.scripts.play.Given as goal

abbrev pub invariant-loop-number : goal.invariant-loop-number
invariant-loop-number g l = IsPassOf l.table l.classes × (table_of l.row ≡ l.table) × (table_of l.initial.row ≡ l.table) × ((tag_of l.row).binders.now ≡ l.binders)
