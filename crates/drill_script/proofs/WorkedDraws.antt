-- The first draws and statements of seed 1, worked out.
use Rattle.std.proofs.Common.{◌≡◌, [], ◌∷◌, refl}
use Rattle.drill_script.specs.declared.statement.Statement.TheVariants.{Delete, Print, SetSum}
use Rattle.drill_script.specs.Draws.{draws, first_state, state_after}
use Rattle.drill_script.specs.Statements.{statement_at}

first_draws : draws (first_state 1) 8 ≡ 16838 ∷ 5758 ∷ 10113 ∷ 17515 ∷ 31051 ∷ 5627 ∷ 23010 ∷ 7419 ∷ []
unfolding state_after
first_draws = refl

first_statement : statement_at (first_state 1) 0 ≡ Delete 6
unfolding state_after
first_statement = refl

second_statement : statement_at (first_state 1) 1 ≡ SetSum 3 27
unfolding state_after
second_statement = refl

third_statement : statement_at (first_state 1) 2 ≡ Delete 3
unfolding state_after
third_statement = refl

-- the second task begins with the 251st statement
first_of_the_second_task : statement_at (first_state 1) 250 ≡ Print 0
unfolding state_after
first_of_the_second_task = refl
