-- The draws of a seed.
use Rattle.std.specs.Prelude.{ℕ, zero, suc, ◌+◌, ◌*◌, ◌/◌, ◌%◌, List, map}
use Rattle.std.specs.List.{range_with_len}

-- the state before the first draw
abbrev pub first_state : ℕ → ℕ
first_state seed = seed % 2147483648

-- the state that a draw makes of the state before it
abbrev pub next_state : ℕ → ℕ
next_state x = (x * 1103515245 + 12345) % 2147483648

-- the number that a draw gives, by the state that it made
abbrev pub number_at : ℕ → ℕ
number_at x = x / 65536 % 32768

-- the state after so many draws
unfoldable pub state_after : ℕ → ℕ → ℕ
state_after x zero = x
state_after x (suc n) = next_state (state_after x n)

-- the draw of this number, from 0
abbrev pub draw : ℕ → ℕ → ℕ
draw x n = number_at (state_after x (suc n))

-- the first draws, so many of them
abbrev pub draws : ℕ → ℕ → List ℕ
draws x count = map (draw x) (range_with_len 0 count)
