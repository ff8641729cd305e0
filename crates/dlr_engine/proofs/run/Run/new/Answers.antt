use Rattle.std.proofs.Common.{◌∙◌, ◌≤◌, ◌+◌, length, ap, arith, rules}
use Rattle.object_history.specs.declared.tag.RowTag.{RowTag}
use Rattle.turn_rows.specs.Passes.{tag_state}
use Rattle.dlr_engine.proofs.Starts.{tag_is}
use Rattle.dlr_engine.proofs.run.Run.new.Goals as goal

pub invariant_of-run : goal.invariant_of-run
invariant_of-run c =
    let limit = length c.shared.result.now + c.args.objects in let states = c.in_ok-states.states.items in
    let tag : RowTag = record { binders = c.binders.result; functions = c.len.result; limit = limit } in
    let some : 1 ≤ length states = omega (arith, c.row_count_for.ensures.some, c.in_ok-states.ensures.count) in
    record {
      binders = c.binders.ensures.binders;
      cached = search rules;
      counted = c.len.ensures ∙ ap length c.requires.functions;
      tagged = tag_is tag c.in_ok-table.table (tag_state c.in_ok-rows.rows) states some c.in_ok-states.ensures.tag c.in_ok-rows.ensures.tag;
      roomy = omega (arith, c.row_count_for.ensures.all, c.in_ok-states.ensures.count, c.in_ok-rows.ensures.rows);
      spared = search rules;
      spared_drawn = search rules;
      few_passes = c.requires.few_passes;
      some_passes = c.requires.some;
      shared = c.in_ok-rows.ensures.shared ∙ ap length c.shared.ensures.shared;
    }
