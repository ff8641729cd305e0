use Rattle.std.proofs.Common.{◌∙◌, ◌≤◌, ℕ, List, length, sym, ap, subst, arith}
use Rattle.dyn_value.specs.declared.entry.Entry.{Entry}
use Rattle.object_history.specs.declared.object_row.ObjectRow.{ObjectRow}
use Rattle.turn_rows.specs.declared.view.Log.{Log}
use Rattle.turn_rows.specs.Passes.{AllDrawn, AllLast, HasAll, tag_state}
use Rattle.dlr_engine.specs.Closing.{AreDrawn, IsClosedRow}
use Rattle.dlr_engine.proofs.Gathering.{are_drawn, has_all}
use Rattle.dlr_engine.proofs.Histories.{closed_row, closing, taken_count}
use Rattle.dlr_engine.proofs.run.Run.close.Goals as goal

pub close-states-requires-clause-all : goal.close-states-requires-clause-all
close-states-requires-clause-all c =
    let run = c.args.self in
    subst HasAll (sym c.gather-all.ensures.logs) (has_all run c.args.passes.items run.some_passes c.requires.passes)

pub returns-clause-count : goal.returns-clause-count
returns-clause-count c =
    let run = c.args.self in let all : run.tag.limit ≤ length c.close-states.result.items = omega (arith, run.roomy, c.close-states.ensures.rows) in
    ap length (c.from_vec.ensures ∙ c.journals_of.ensures) ∙ taken_count run.tag.limit c.close-states.result.items all

pub returns-clause-rows : goal.returns-clause-rows
returns-clause-rows c = λ row inside.
    let run = c.args.self in let ps = c.args.passes.items in let states = c.close-states.result.items in
    let all : run.tag.limit ≤ length states = omega (arith, run.roomy, c.close-states.ensures.rows) in
    subst (λ (js : List (List Entry)). IsClosedRow run.tag.binders.now ps row js) (sym (c.from_vec.ensures ∙ c.journals_of.ensures))
    (closed_row run.tag run.table (tag_state run.rows) run ps run.tag.limit states run.tagged run.some_passes c.requires.passes all
    (subst (λ (cs : List (Log ObjectRow)). AllLast closing (tag_state run.rows) cs states) c.gather-all.ensures.logs c.close-states.ensures.states)
    row inside)

pub returns-clause-numbers : goal.returns-clause-numbers
returns-clause-numbers c =
    let run = c.args.self in let ps = c.args.passes.items in
    subst (λ (shared : ℕ). AreDrawn shared ps) run.shared
    (are_drawn run _ ps run.some_passes c.requires.passes (subst (AllDrawn _) c.gather-all.ensures.logs c.close-states.ensures.draws))
