use Rattle.std.proofs.Common.{◌≡◌, ◌≤◌, ◌+◌, length, vec_capacity}
use Rattle.dlr_engine.specs.Passes.{IsNew, IsPartOf, made_in, number_of}
use Rattle.dlr_engine.proofs.PassMaking.{AreOthers}
use Rattle.dlr_engine.proofs.run.Run.passes_from.Given as goal

abbrev pub invariant-loop-number : goal.invariant-loop-number
invariant-loop-number l =
    IsPartOf l.self l.first × (number_of l.first ≡ 0) × (made_in l.first ≡ l._number) × IsNew l.first
    × AreOthers l.self l.passes.items × (length l.passes.items + 1 ≡ l._number) × (l.self.passes ≤ vec_capacity l.passes)
