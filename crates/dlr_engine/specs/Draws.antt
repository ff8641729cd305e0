-- Numbers that were drawn.
use Rattle.std.specs.Prelude.{ℕ}
use Rattle.dlr_engine.specs.declared.pass.Drawn.{Drawn}

abbrev pub number_drawn : Drawn → ℕ
number_drawn d = d.number

-- the number that was drawn for the task
abbrev pub drawn_for : ℕ → ℕ → Drawn
drawn_for task number = record { task = task; number = number }
