-- Joined, the two passes are all that were made.
use Rattle.std.proofs.Common.{◌≡◌, ◌∙◌, ◌+◌, ◌∷◌, ◌++◌, List, ap, subst, sym, ℕ}
use Rattle.turn_rows.specs.declared.view.Log.{Log}
use Rattle.turn_rows.specs.Passes.{HasAll, kept_of, log_of}
use Rattle.object_history.specs.declared.object_row.ObjectRow.{ObjectRow}
use Rattle.object_history.proofs.TwoPasses.{has_two}
use Rattle.object_history.proofs.tests.workers.work_together.Goals as goal

pub close-requires-clause-all : goal.close-requires-clause-all
close-requires-clause-all g c =
    let pass = c.work_beside-pass.result.0 in let other = c.work_beside-pass.result.1 in
    let rows = c.in_ok-rows.ensures in let split = c.split-other.ensures in let log = split.counted.0 in
    let first = c.work_beside-pass.ensures.first in let second = c.work_beside-pass.ensures.second in
    let kept : kept_of c.join.new.pass ≡ log_of other ∷ kept_of other = c.join.ensures.kept
    ∙ ap (λ (cs : List (Log ObjectRow)). cs ++ log_of other ∷ kept_of other) (first.1.2 ∙ split.counted.1 ∙ rows.alone) in
    subst (λ (cs : List (Log ObjectRow)). HasAll (log_of c.join.new.pass ∷ cs)) (sym kept)
    (has_two (log_of c.join.new.pass) (log_of other) (kept_of other)
    (ap (λ (d : Log ObjectRow). d.number) c.join.ensures.log ∙ first.1.0 ∙ ap (λ (d : Log ObjectRow). d.number) log ∙ rows.first.0)
    (ap (λ (d : Log ObjectRow). d.made) c.join.ensures.log ∙ first.1.1 ∙ ap (λ (d : Log ObjectRow). d.made) log ∙ ap (λ (n : ℕ). n + 1) rows.first.1)
    (second.1.0 ∙ split.number ∙ rows.first.1))
