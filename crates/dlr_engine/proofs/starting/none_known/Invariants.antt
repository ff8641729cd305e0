use Rattle.std.proofs.Common.{◌≡◌, length}
use Rattle.dlr_engine.specs.Knowing.{KnowsNone}
use Rattle.dlr_engine.proofs.Settings.{KnowsFirst}
use Rattle.dlr_engine.proofs.starting.none_known.Given as goal

abbrev pub invariant-loop-number : goal.invariant-loop-number
invariant-loop-number l = (length l.known.items ≡ l.number) × KnowsFirst l.caches l.binders l.funs.params l.table l.known.items l.number × KnowsNone l.known.items
