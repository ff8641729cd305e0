-- The statements of each task take the draws after those of the task before it.
use Rattle.std.proofs.Common.{◌≡◌, ◌∙◌, ◌+◌, ◌*◌, ◌++◌, ap, sym, refl, string_bytes, append-nil, arith}
use Rattle.std.specs.Prelude.{codes}
use Rattle.drill_script.specs.Draws.{state_after}
use Rattle.drill_script.specs.Script.{drill_text, statements_text, task_text, tasks_text}
use Rattle.drill_script.proofs.Appending.{continued}
use Rattle.drill_script.proofs.Growing.{tasks_next}
use Rattle.drill_script.proofs.Further.{state_further, statements_further}
use Rattle.drill_script.proofs.script.drill_script.Goals as goal

pub loop-task-init : goal.loop-task-init
unfolding state_after tasks_text
loop-task-init c = record { text = sym (append-nil (string_bytes c.push_str.new.self)); state = refl }

pub loop-task-preserved : goal.loop-task-preserved
loop-task-preserved c =
    let x = c.new-draws.result.state in
    let n = c.loop-task.task in
    let before = string_bytes c.push_str.new.self in
    let here : 250 * n + 0 ≡ 250 * n = omega arith in
    let after : 3 * (250 * n) + 750 ≡ 3 * (250 * (n + 1)) = omega arith in
    let gained = c.in_ok-push_task.ensures in
    let own : statements_text c.loop-task.draws.state 0 250 ≡ statements_text x (250 * n) 250 =
    ap (λ s. statements_text s 0 250) c.loop-task.invariant.state
    ∙ statements_further x (250 * n) 0 250 ∙ ap (λ k. statements_text x k 250) here in
    record {
      text =
          gained.text ∙ (λ i. c.loop-task.invariant.text i ++ task_text n (own i))
          ∙ continued before (tasks_text x n) (task_text n (statements_text x (250 * n) 250))
          (tasks_text x (n + 1)) (tasks_next x n);
      state =
          gained.state ∙ ap (λ s. state_after s 750) c.loop-task.invariant.state
          ∙ state_further x (3 * (250 * n)) 750 ∙ ap (state_after x) after;
    }

pub returns : goal.returns
unfolding drill_text
returns c =
    let x = c.new-draws.result.state in
    let all : c.loop-task.task ≡ 8 = omega arith in
    let first : string_bytes c.push_str.new.self ≡ codes "shared s;\n" =
    c.in_ok-push_str.ensures.bytes ∙ ap (λ t. t ++ codes "shared s;\n") c.in_ok-script.ensures.bytes in
    ap (λ v. v.items) c.into_bytes.ensures.value ∙ c.loop-task.invariant.text
    ∙ (λ i. first i ++ tasks_text (c.new-draws.ensures i) (all i))
