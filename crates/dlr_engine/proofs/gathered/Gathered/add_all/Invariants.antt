use Rattle.std.proofs.Common.{◌≡◌, ◌≤◌, ◌+◌, ◌*◌, ◌^◌, ◌++◌, length, map, vec_capacity}
use Rattle.turn_rows.specs.Passes.{IsPassOf, logs_of}
use Rattle.dlr_engine.specs.Levels.{added, all_levels, total}
use Rattle.dlr_engine.specs.Passes.{drawn_of, levels_of, log_in}
use Rattle.dlr_engine.proofs.gathered.Gathered.add_all.Given as goal

abbrev pub invariant-loop-pass : goal.invariant-loop-pass
invariant-loop-pass l =
    IsPassOf l.rows l.self.rows
    × (logs_of l.self.rows ≡ logs_of l.initial.self.rows ++ map log_in l.yielded)
    × (l.self.drawn.items ≡ l.initial.self.drawn.items ++ map drawn_of l.yielded)
    × (l.self.levels ≡ added l.initial.self.levels (all_levels (map levels_of l.yielded)))
    × (total l.self.levels ≤ (length l.yielded + 1) * 2 ^ 60)
    × (vec_capacity l.self.drawn ≡ vec_capacity l.initial.self.drawn)
