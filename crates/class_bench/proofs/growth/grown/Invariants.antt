use Rattle.std.proofs.Common.{◌≡◌, ◌≤◌, All, length, vec_capacity}
use Rattle.expando_class.specs.Pass.{IsPassOf}
use Rattle.class_bench.specs.Growths.{IsGrowthOf}
use Rattle.class_bench.proofs.growth.grown.Given as goal

abbrev pub invariant-loop-number : goal.invariant-loop-number
invariant-loop-number g l = IsPassOf l.table l.pass × All (IsGrowthOf l.table) l.growths.items × (length l.growths.items ≡ l.number) × (700 ≤ vec_capacity l.growths)
