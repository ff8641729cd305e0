-- The draws are those of the numbers 0, 1 and 2.
use Rattle.std.proofs.Common.{◌≡◌, ◌∙◌, ap}
use Rattle.drill_script.specs.Draws.{draw, next_state, number_at, state_after}
use Rattle.drill_script.specs.Statements.{chosen}
use Rattle.drill_script.proofs.statement.Statement.drawn.Goals as goal

second : (c : goal.After-chosen) → c.next-member.new.self.state ≡ next_state (next_state c.args.draws.now.state)
second c = c.next-member.ensures.state ∙ ap next_state c.next-form.ensures.state

third : (c : goal.After-chosen)
    → c.next-value.new.self.state ≡ next_state (next_state (next_state c.args.draws.now.state))
third c = c.next-value.ensures.state ∙ ap next_state (second c)

pub returns-clause-statement : goal.returns-clause-statement
unfolding state_after
returns-clause-statement c =
    let x = c.args.draws.now.state in
    let form : c.next-form.result ≡ draw x 0 = c.next-form.ensures.number ∙ ap number_at c.next-form.ensures.state in
    let member : c.next-member.result ≡ draw x 1 = c.next-member.ensures.number ∙ ap number_at (second c) in
    let value : c.next-value.result ≡ draw x 2 = c.next-value.ensures.number ∙ ap number_at (third c) in
    c.chosen.ensures ∙ (λ i. chosen (form i) (member i) (value i))

pub returns-clause-state : goal.returns-clause-state
unfolding state_after
returns-clause-state c = third c
