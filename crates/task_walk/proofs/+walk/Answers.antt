use Rattle.std.proofs.Common.{◌≡◌, suc, ◌+◌, ◌≤◌, List, [], ◌∷◌, ◌++◌, length, drop, get_or, false, refl, ap, sym, ◌∙◌, subst, arith, map}
use Rattle.std.proofs.Common.{sum, flat_map, true}
use Rattle.std.proofs.lemmas.Result.{err_from_is_err_and}
use Rattle.dyn_value.specs.declared.fault.Fault.TheVariants.{Depth, NoOperator}
use Rattle.dyn_value.specs.declared.value.Value.{Value}
use Rattle.dyn_value.specs.declared.value.Value.TheVariants as value
use Rattle.task_code.specs.declared.code.FunctionCode.{FunctionCode}
use Rattle.task_code.specs.declared.code.NodeSuffix.TheVariants as suffix
use Rattle.task_code.specs.Acts.{Gives, Fails, catches, on_fault}
use Rattle.task_code.specs.Codes.{node_act, info_at, invoked, created, asks, block_act, body_act, next_after, step_act, steps_act}
use Rattle.task_code.specs.Costs.{node_cost, node_uses, AtSite, step_cost, step_uses, steps_cost, steps_uses}
use Rattle.task_code.specs.declared.code.Step.TheVariants as step
use Rattle.task_walk.specs.declared.stop.Stop.TheVariants as stop
use Rattle.task_walk.specs.Comings.{told}
use Rattle.task_walk.specs.Parts.{AreAfter, AreValues, IsProperNumber, part_act, part_cost, part_uses, suffix_cost, suffix_uses, caught_act}
use Rattle.task_walk.specs.Parts.{optional_uses}
use Rattle.task_walk.specs.Tales.{Teller, Tale, AreProper, IsProperAnswer, IsProperValue}
use Rattle.task_walk.specs.declared.part.Part.{Part}
use Rattle.task_walk.specs.Walks.{IsProperFlow}
use Rattle.task_walk.proofs.Bodies.{ready_called, call_gave, call_stopped, call_turnless, call_deep, call_lost}
use Rattle.task_walk.proofs.CallFacts.{few_asked, site_there, proper_there, answers_same, onto_same, function_called, function_made, args_left}
use Rattle.task_walk.proofs.CallFacts.{names_there, replaced_some, replaced_proper, ready_replaced, ready_same, next_site, called_some, called_proper}
use Rattle.task_walk.proofs.CallFacts.{kept_proper, kept_value, kept_answer, none_there, some_there}
use Rattle.task_walk.proofs.CalledWith.{after_none, after_more, args_none, args_deep, args_whole}
use Rattle.task_walk.proofs.Creations.{draw_stopped, create_stopped, create_whole, ready_drawn}
use Rattle.task_walk.proofs.ExpressionHeads as heads
use Rattle.task_walk.proofs.ExpressionHeads.{literal_whole, local_whole, unary_deep, binary_deep, unary_whole, binary_whole, new_stopped, new_whole}
use Rattle.task_walk.proofs.ExpressionParts.{opened_within, walked_part, walked_shut}
use Rattle.task_walk.proofs.ExpressionSuffixes.{suffix_kept, suffix_stopped, suffixes_done}
use Rattle.task_walk.proofs.ExpressionValues.{ready_head, head_stopped, ready_suffixes, value_whole}
use Rattle.task_walk.proofs.Goings.{going_start}
use Rattle.task_walk.proofs.HeadUses.{literal_proper, ready_unary, ready_binary, ready_new, ready_new_of}
use Rattle.task_walk.proofs.Invocations.{outcome_ended, invoke_called, ready_answered, site_here}
use Rattle.task_walk.proofs.Items.{ready_item}
use Rattle.task_walk.proofs.NewObjects.{new_of_deep, ready_target, target_stopped, target_lost, ready_rest, ready_args, args_stopped, ready_made}
use Rattle.task_walk.proofs.NewObjects.{new_of_whole}
use Rattle.task_walk.proofs.OperationForms.{parts_begun, values_none, ready_parts, operation_stopped, ready_operation, operands_proper}
use Rattle.task_walk.proofs.OperationForms.{operation_whole}
use Rattle.task_walk.proofs.Operands.{one_more, operand_kept, operand_stopped, operand_lost, operands_done}
use Rattle.task_walk.proofs.Outcomes.{walked_refused}
use Rattle.task_walk.proofs.SuffixCalls.{ready_member_args, ready_call_args, ready_member_asked, ready_call_asked, ready_read, ready_invoked}
use Rattle.task_walk.proofs.SuffixCalls.{member_args_stopped, call_args_stopped, member_read_stopped, member_call_whole, call_whole}
use Rattle.task_walk.proofs.SuffixForms.{ready_member, member_whole, index_deep, ready_key, index_stopped, ready_index, index_whole}
use Rattle.task_walk.proofs.Underway.{walked_proper, lost_here}
use Rattle.task_walk.proofs.Forms.{act-step-Set, cost-step-Set, uses-step-Set, act-step-Return, cost-step-Return, uses-step-Return, act-step-Print}
use Rattle.task_walk.proofs.Forms.{cost-step-Print, uses-step-Print, act-step-Plain, cost-step-Plain, uses-step-Plain, cost-step-While}
use Rattle.task_walk.proofs.Forms.{uses-step-While, cost-step-Try, uses-step-Try}
use Rattle.task_walk.proofs.Trying.{walked_failed, walked_kept, walked_passed}
use Rattle.task_walk.proofs.Walkings.{walked_lost, walked_stopped, walked_then, ready_after}
use Rattle.task_walk.proofs.StatementRows.{step_kept, step_returned, step_stopped, steps_done}
use Rattle.task_walk.proofs.StatementTests.{block_deep, block_walked, if_cost, if_none, if_other, if_stopped, if_uses, if_yes, ready_block, ready_no}
use Rattle.task_walk.proofs.StatementTests.{ready_test, ready_value, ready_yes}
use Rattle.task_walk.proofs.StatementLoops.{ready_entered, ready_round, while_again, while_body_stopped, while_cost, while_entered, while_no_turn}
use Rattle.task_walk.proofs.StatementLoops.{while_over, while_returned, while_starts, while_stopped, while_uses}
use Rattle.task_walk.proofs.StatementTries.{caught_walked, ready_caught, ready_tried, ready_with, walked_unended}
use Rattle.task_walk.proofs.StatementForms.{act_delete_index, act_delete_member, act_set_index, act_set_member, cost_delete_index, cost_delete_member}
use Rattle.task_walk.proofs.StatementForms.{cost_set_index, cost_set_member, ready_form, step_operated, step_unoperated, uses_delete_index}
use Rattle.task_walk.proofs.StatementForms.{uses_delete_member, uses_set_index, uses_set_member}
use Rattle.task_walk.proofs.StatementSteps.{cost_if, if_whole, plain_whole, print_lost, print_whole, prints, return_whole, returns, set_lost}
use Rattle.task_walk.proofs.StatementSteps.{set_whole, sets, try_whole, uses_if, value_stopped, while_whole}
use Rattle.task_walk.proofs.+walk.Goals as goal

pub calls::call-returns-in_err-frame : goal.calls::call-returns-in_err-frame
calls::call-returns-in_err-frame g t c =
    let none = c.in_err-frame.ensures.none in
    let out = err_from_is_err_and c.from_residual.result c.from_residual.ensures.1 in
    rw (out.1, out.2, none.0) (call_turnless _ c.args.code.now.functions.now c.args.function
    (record { count = length c.args.args.now; names = c.args.names.now }) c.args.args.now c.args.levels c.args.frame.now _ _ none.1 refl
    c.requires.ready.proper)

pub calls::call-returns-in_err-inner : goal.calls::call-returns-in_err-inner
calls::call-returns-in_err-inner g t c =
    let none = c.in_err-inner.ensures.none in
    let out = err_from_is_err_and c.from_residual-in_err-inner.result c.from_residual-in_err-inner.ensures.1 in
    rw (out.1, out.2, none.0) (call_deep _ c.args.code.now.functions.now c.args.function (record { count = length c.args.args.now; names = c.args.names.now })
    c.args.args.now c.args.levels c.in_ok-frame.field-0 c.args.frame.now _ _ c.in_ok-frame.ensures.after none.1 refl c.requires.ready.proper)

pub calls::call-returns-in_err-locals : goal.calls::call-returns-in_err-locals
calls::call-returns-in_err-locals g t c =
    let out = err_from_is_err_and c.from_residual-in_err-locals.result c.from_residual-in_err-locals.ensures.1 in
    rw (out.1, out.2) (call_lost _ c.args.code.now.functions.now c.args.function (record { count = length c.args.args.now; names = c.args.names.now })
    c.args.args.now c.args.levels c.in_ok-frame.field-0 c.args.frame.now _ _ c.in_ok-frame.ensures.after refl c.requires.ready.proper)

pub calls::call-run_steps-ended-requires : goal.calls::call-run_steps-ended-requires
calls::call-run_steps-ended-requires g t c κs within = (
  omega (arith, c.decreases, c.in_ok-inner.ensures.inner),
  (
    within.0,
    (
      within.1.0,
      (
        within.1.1,
        ready_called c.args.code.now (g.W.World.tale c.args.world.now) c.args.frame.now c.args.function
            c.index-code-function.result c.as_slice-2.result.now c.in_ok-frame.field-0 c.in_ok-locals.locals c.requires.ready c.in_ok-frame.ensures.after
            c.requires.function c.index-code-function.is (c.as_slice-2.ensures ∙ ap (λ (x : FunctionCode). x.body.0) (sym c.index-code-function.is))
            (c.in_ok-locals.ensures.proper (g.W.World.tale c.args.world.now).by c.requires.args),
      ),
    ),
  ),
)

pub calls::call-returns-in_err-ended : goal.calls::call-returns-in_err-ended
calls::call-returns-in_err-ended g t c =
    let out = err_from_is_err_and c.from_residual-in_err-ended.result c.from_residual-in_err-ended.ensures.1 in
    rw (out.1, out.2) (call_stopped c.in_err-ended.field-0.0 c.args.code.now c.args.function c.index-code-function.result c.as_slice.result.now
    c.as_slice-2.result.now (record { count = length c.args.args.now; names = c.args.names.now }) c.args.args.now c.in_ok-locals.locals c.args.levels
    c.in_ok-inner.inner c.in_ok-frame.field-0 c.args.frame.now _ _ _ _ _ c.requires.ready c.requires.function c.index-code-function.is
    (c.as_slice.ensures ∙ ap (λ (x : FunctionCode). x.params) (sym c.index-code-function.is))
    (c.as_slice-2.ensures ∙ ap (λ (x : FunctionCode). x.body.0) (sym c.index-code-function.is)) c.in_ok-locals.ensures.values c.in_ok-inner.ensures.inner
    c.in_ok-frame.ensures.after c.in_err-ended.ensures)

pub calls::call-returns-in-Next : goal.calls::call-returns-in-Next
calls::call-returns-in-Next g t c =
    call_gave c.args.code.now c.args.function c.index-code-function.result c.as_slice.result.now c.as_slice-2.result.now
    (record { count = length c.args.args.now; names = c.args.names.now }) c.args.args.now c.in_ok-locals.locals c.args.levels c.in_ok-inner.inner
    c.in_ok-frame.field-0 c.args.frame.now c.in_ok-ended.field-0 _ _ _ _ _ _ c.requires.ready c.requires.function c.index-code-function.is
    (c.as_slice.ensures ∙ ap (λ (x : FunctionCode). x.params) (sym c.index-code-function.is))
    (c.as_slice-2.ensures ∙ ap (λ (x : FunctionCode). x.body.0) (sym c.index-code-function.is)) c.in_ok-locals.ensures.values c.in_ok-inner.ensures.inner
    c.in_ok-frame.ensures.after c.in_ok-ended.ensures c.in-Next.is

pub calls::call-returns : goal.calls::call-returns
calls::call-returns g t c =
    call_gave c.args.code.now c.args.function c.index-code-function.result c.as_slice.result.now c.as_slice-2.result.now
    (record { count = length c.args.args.now; names = c.args.names.now }) c.args.args.now c.in_ok-locals.locals c.args.levels c.in_ok-inner.inner
    c.in_ok-frame.field-0 c.args.frame.now c.in_ok-ended.field-0 _ _ _ _ _ _ c.requires.ready c.requires.function c.index-code-function.is
    (c.as_slice.ensures ∙ ap (λ (x : FunctionCode). x.params) (sym c.index-code-function.is))
    (c.as_slice-2.ensures ∙ ap (λ (x : FunctionCode). x.body.0) (sym c.index-code-function.is)) c.in_ok-locals.ensures.values c.in_ok-inner.ensures.inner
    c.in_ok-frame.ensures.after c.in_ok-ended.ensures c.in-Returned.is

pub calls::create-operate-requires-clause-few : goal.calls::create-operate-requires-clause-few
calls::create-operate-requires-clause-few g t c =
    few_asked c.args.code.now (g.W.World.tale c.args.world.now) _ _ c.args.frame.now c.requires.ready

pub calls::create-operate-requires-clause-site : goal.calls::create-operate-requires-clause-site
calls::create-operate-requires-clause-site g t c =
    site_there c.args.code.now (g.W.World.tale c.args.world.now) c.args.site _ c.args.operands c.as_slice.result.now c.args.frame.now c.as_slice.ensures
    c.requires.ready

pub calls::create-operate-requires-clause-proper : goal.calls::create-operate-requires-clause-proper
calls::create-operate-requires-clause-proper g t c =
    proper_there (g.W.World.tale c.args.world.now).by c.args.operands c.as_slice.result.now c.as_slice.ensures c.requires.operands

pub calls::create-returns-in_err-function : goal.calls::create-returns-in_err-function
calls::create-returns-in_err-function g t c =
    let out = err_from_is_err_and c.from_residual.result c.from_residual.ensures.1 in
    rw (out.1, out.2) (walked_refused (g.W.World.tale c.args.world.now).by c.args.code.now.functions.now c.args.levels _ _ _ c.args.frame.now
    (told (g.W.World.tale c.args.world.now) c.args.printed.now) (told (g.W.World.tale c.operate.new.self) c.args.printed.now) _ _
    (ap (λ (m : Tale). told m c.args.printed.now) c.in_err-function.ensures.refused) c.in_err-function.ensures.kept refl c.requires.ready.proper)

pub calls::create-draw_object-requires : goal.calls::create-draw_object-requires
calls::create-draw_object-requires g t c =
    let answers = answers_same c.args.site c.args.operands c.as_slice.result.now c.in_ok-function.field-0 (g.W.World.tale c.args.world.now)
    (g.W.World.tale c.operate.new.self) c.as_slice.ensures c.in_ok-function.ensures.answers in
    record {
      ready = ready_answered c.args.code.now _ 2 1 c.args.frame.now (g.W.World.tale c.args.world.now) (g.W.World.tale c.operate.new.self) c.args.site
          c.args.operands c.in_ok-function.field-0 c.requires.ready answers (omega arith);
    }

pub calls::create-returns-in_err-object-in-Make : goal.calls::create-returns-in_err-object-in-Make
calls::create-returns-in_err-object-in-Make g t c =
    let answers = answers_same c.args.site c.args.operands c.as_slice.result.now c.in_ok-function.field-0 (g.W.World.tale c.args.world.now)
    (g.W.World.tale c.operate.new.self) c.as_slice.ensures c.in_ok-function.ensures.answers in
    let had = onto_same c.args.site c.args.operands c.as_slice.result.now (g.W.World.answered c.args.world.now) (g.W.World.answered c.operate.new.self)
    c.as_slice.ensures c.in_ok-function.ensures.answered in
    let out = err_from_is_err_and c.from_residual-in_err-object-in-Make.result c.from_residual-in_err-object-in-Make.ensures.1 in
    rw (out.1, out.2) (draw_stopped c.in_err-object-in-Make.field-0.0 c.args.code.now.functions.now c.args.levels c.args.site c.args.operands
    c.in_ok-function.field-0 c.in-Make.function c.args.frame.now c.args.frame.now (g.W.World.tale c.args.world.now) (g.W.World.tale c.operate.new.self)
    c.args.printed.now (told (g.W.World.tale c.draw_object.new.world) c.args.printed.now) _ _ _ answers had c.in_ok-function.ensures.answer
    c.requires.ready.proper c.in-Make.is (c.in_err-object-in-Make.ensures c.args.levels c.args.printed.now))

pub calls::create-set-requires : goal.calls::create-set-requires
calls::create-set-requires g t c =
    c.requires.some

pub calls::create-names_of-requires : goal.calls::create-names_of-requires
calls::create-names_of-requires g t c =
    site_here c.args.code.now (g.W.World.tale c.args.world.now) c.args.site (length c.args.operands) 2 c.args.frame.now c.requires.ready

pub calls::create-call-requires : goal.calls::create-call-requires
calls::create-call-requires g t c κs within =
    let answers = answers_same c.args.site c.args.operands c.as_slice.result.now c.in_ok-function.field-0 (g.W.World.tale c.args.world.now)
    (g.W.World.tale c.operate.new.self) c.as_slice.ensures c.in_ok-function.ensures.answers in
    let drawn = c.in_ok-object-in-Make.ensures c.args.levels c.args.printed.now in
    let set = c.as_slice-in-Make.ensures ∙ c.set.ensures in (
      omega (arith, c.decreases),
      (
        within.0,
        (
          within.1.0,
          (
            within.1.1,
            (
              function_made c.args.code.now (g.W.World.tale c.args.world.now) _ _ c.args.frame.now c.in_ok-function.field-0 c.in-Make.function c.requires.ready
                  c.in_ok-function.ensures.answer c.in-Make.is,
              (
                replaced_proper (g.W.World.tale c.draw_object.new.world).by c.args.operands c.as_slice-in-Make.result.now (value.Obj c.in_ok-object-in-Make.object)
                    (kept_proper _ _ _ _ _ _ c.in_ok-object-in-Make.object c.args.operands _ _ _ _ _ _ drawn
                    (kept_answer c.args.site c.args.operands c.args.operands c.in_ok-function.field-0 (g.W.World.tale c.args.world.now)
                    (g.W.World.tale c.operate.new.self) answers c.requires.operands))
                    (walked_proper _ _ _ _ IsProperNumber _ c.in_ok-object-in-Make.object _ _ _ _ _ _ drawn) set,
                ready_drawn c.args.code.now c.args.code.now.functions.now c.args.levels c.in_ok-object-in-Make.object c.args.frame.now
                    (told (g.W.World.tale c.operate.new.self) c.args.printed.now) (told (g.W.World.tale c.draw_object.new.world) c.args.printed.now) _ _
                    (ready_answered c.args.code.now _ 2 1 c.args.frame.now (g.W.World.tale c.args.world.now) (g.W.World.tale c.operate.new.self) c.args.site
                    c.args.operands c.in_ok-function.field-0 c.requires.ready answers (omega arith)) drawn,
              ),
            ),
          ),
        ),
      ),
    )

pub calls::create-returns-in_err-call-in-Make : goal.calls::create-returns-in_err-call-in-Make
calls::create-returns-in_err-call-in-Make g t c =
    let answers = answers_same c.args.site c.args.operands c.as_slice.result.now c.in_ok-function.field-0 (g.W.World.tale c.args.world.now)
    (g.W.World.tale c.operate.new.self) c.as_slice.ensures c.in_ok-function.ensures.answers in
    let had = onto_same c.args.site c.args.operands c.as_slice.result.now (g.W.World.answered c.args.world.now) (g.W.World.answered c.operate.new.self)
    c.as_slice.ensures c.in_ok-function.ensures.answered in
    let drawn = c.in_ok-object-in-Make.ensures c.args.levels c.args.printed.now in
    let set = c.as_slice-in-Make.ensures ∙ c.set.ensures in
    let named = names_there c.args.code.now (g.W.World.tale c.draw_object.new.world) c.args.site c.names_of.result.now
    (ap (λ (b : Teller). b.plan) (drawn.same ∙ ap (λ (m : Tale). m.by) c.in_ok-function.ensures.answers.tale) ∙ c.requires.ready.world.plan)
    c.names_of.ensures in
    let out = err_from_is_err_and c.from_residual-in_err-call-in-Make.result c.from_residual-in_err-call-in-Make.ensures.1 in
    rw (out.1, out.2) (create_stopped c.in_err-call-in-Make.field-0.0 c.args.code.now.functions.now c.args.levels c.args.site c.args.operands
    c.as_slice-in-Make.result.now c.in_ok-function.field-0 c.in-Make.function c.in_ok-object-in-Make.object c.names_of.result.now c.args.frame.now _
    (g.W.World.tale c.args.world.now) (g.W.World.tale c.operate.new.self) (g.W.World.tale c.draw_object.new.world) c.args.printed.now _ _ _ _ _ answers had
    c.in_ok-function.ensures.answer c.requires.ready.proper c.in-Make.is drawn named set c.requires.some c.in_err-call-in-Make.ensures)

pub calls::create-returns-in-Make : goal.calls::create-returns-in-Make
calls::create-returns-in-Make g t c =
    let answers = answers_same c.args.site c.args.operands c.as_slice.result.now c.in_ok-function.field-0 (g.W.World.tale c.args.world.now)
    (g.W.World.tale c.operate.new.self) c.as_slice.ensures c.in_ok-function.ensures.answers in
    let had = onto_same c.args.site c.args.operands c.as_slice.result.now (g.W.World.answered c.args.world.now) (g.W.World.answered c.operate.new.self)
    c.as_slice.ensures c.in_ok-function.ensures.answered in
    let drawn = c.in_ok-object-in-Make.ensures c.args.levels c.args.printed.now in
    let set = c.as_slice-in-Make.ensures ∙ c.set.ensures in
    let named = names_there c.args.code.now (g.W.World.tale c.draw_object.new.world) c.args.site c.names_of.result.now
    (ap (λ (b : Teller). b.plan) (drawn.same ∙ ap (λ (m : Tale). m.by) c.in_ok-function.ensures.answers.tale) ∙ c.requires.ready.world.plan)
    c.names_of.ensures in
    create_whole c.args.code.now.functions.now c.args.levels c.args.site c.args.operands c.as_slice-in-Make.result.now c.in_ok-function.field-0
    c.in-Make.function c.in_ok-object-in-Make.object c.in_ok-call-in-Make.field-0 c.names_of.result.now c.args.frame.now _ (g.W.World.tale c.args.world.now)
    (g.W.World.tale c.operate.new.self) (g.W.World.tale c.draw_object.new.world) c.args.printed.now _ _ _ _ _ answers had c.in_ok-function.ensures.answer
    c.requires.ready.proper c.in-Make.is drawn named set c.requires.some c.in_ok-call-in-Make.ensures

pub calls::create-returns-in-Value : goal.calls::create-returns-in-Value
calls::create-returns-in-Value g t c =
    let answers = answers_same c.args.site c.args.operands c.as_slice.result.now c.in_ok-function.field-0 (g.W.World.tale c.args.world.now)
    (g.W.World.tale c.operate.new.self) c.as_slice.ensures c.in_ok-function.ensures.answers in
    let had = onto_same c.args.site c.args.operands c.as_slice.result.now (g.W.World.answered c.args.world.now) (g.W.World.answered c.operate.new.self)
    c.as_slice.ensures c.in_ok-function.ensures.answered in
    outcome_ended c.args.code.now.functions.now c.args.levels c.args.site c.args.operands c.in_ok-function.field-0
    (λ a. created a (info_at a.plan c.args.site) (drop 1 c.args.operands) c.args.levels c.args.frame.now) 2 (Fails NoOperator) c.args.frame.now
    (g.W.World.tale c.args.world.now) (g.W.World.tale c.operate.new.self) c.args.printed.now _ _ answers had c.in_ok-function.ensures.answer
    c.requires.ready.proper
    (λ a. ap (λ w. created a (info_at a.plan c.args.site) (drop 1 c.args.operands) c.args.levels c.args.frame.now w) (sym c.in-Value.is)) tt (omega arith)

pub calls::create-returns-in-Call : goal.calls::create-returns-in-Call
calls::create-returns-in-Call g t c =
    let answers = answers_same c.args.site c.args.operands c.as_slice.result.now c.in_ok-function.field-0 (g.W.World.tale c.args.world.now)
    (g.W.World.tale c.operate.new.self) c.as_slice.ensures c.in_ok-function.ensures.answers in
    let had = onto_same c.args.site c.args.operands c.as_slice.result.now (g.W.World.answered c.args.world.now) (g.W.World.answered c.operate.new.self)
    c.as_slice.ensures c.in_ok-function.ensures.answered in
    outcome_ended c.args.code.now.functions.now c.args.levels c.args.site c.args.operands c.in_ok-function.field-0
    (λ a. created a (info_at a.plan c.args.site) (drop 1 c.args.operands) c.args.levels c.args.frame.now) 2 (Fails NoOperator) c.args.frame.now
    (g.W.World.tale c.args.world.now) (g.W.World.tale c.operate.new.self) c.args.printed.now _ _ answers had c.in_ok-function.ensures.answer
    c.requires.ready.proper
    (λ a. ap (λ w. created a (info_at a.plan c.args.site) (drop 1 c.args.operands) c.args.levels c.args.frame.now w) (sym c.in-Call.is)) tt (omega arith)

pub calls::create-returns : goal.calls::create-returns
calls::create-returns g t c =
    let answers = answers_same c.args.site c.args.operands c.as_slice.result.now c.in_ok-function.field-0 (g.W.World.tale c.args.world.now)
    (g.W.World.tale c.operate.new.self) c.as_slice.ensures c.in_ok-function.ensures.answers in
    let had = onto_same c.args.site c.args.operands c.as_slice.result.now (g.W.World.answered c.args.world.now) (g.W.World.answered c.operate.new.self)
    c.as_slice.ensures c.in_ok-function.ensures.answered in
    outcome_ended c.args.code.now.functions.now c.args.levels c.args.site c.args.operands c.in_ok-function.field-0
    (λ a. created a (info_at a.plan c.args.site) (drop 1 c.args.operands) c.args.levels c.args.frame.now) 2 (Fails c.in-Fault.fault) c.args.frame.now
    (g.W.World.tale c.args.world.now) (g.W.World.tale c.operate.new.self) c.args.printed.now _ _ answers had c.in_ok-function.ensures.answer
    c.requires.ready.proper
    (λ a. ap (λ w. created a (info_at a.plan c.args.site) (drop 1 c.args.operands) c.args.levels c.args.frame.now w) (sym c.in-Fault.is))
    (subst (IsProperAnswer (g.W.World.tale c.args.world.now).by) c.in-Fault.is c.in_ok-function.ensures.answer) (omega arith)

pub calls::invoke-operate-requires-clause-few : goal.calls::invoke-operate-requires-clause-few
calls::invoke-operate-requires-clause-few g t c =
    few_asked c.args.code.now (g.W.World.tale c.args.world.now) _ _ c.args.frame.now c.requires.ready

pub calls::invoke-operate-requires-clause-site : goal.calls::invoke-operate-requires-clause-site
calls::invoke-operate-requires-clause-site g t c =
    site_there c.args.code.now (g.W.World.tale c.args.world.now) c.args.site _ c.args.operands c.as_slice.result.now c.args.frame.now c.as_slice.ensures
    c.requires.ready

pub calls::invoke-operate-requires-clause-proper : goal.calls::invoke-operate-requires-clause-proper
calls::invoke-operate-requires-clause-proper g t c =
    proper_there (g.W.World.tale c.args.world.now).by c.args.operands c.as_slice.result.now c.as_slice.ensures c.requires.operands

pub calls::invoke-returns-in_err-value : goal.calls::invoke-returns-in_err-value
calls::invoke-returns-in_err-value g t c =
    let out = err_from_is_err_and c.from_residual.result c.from_residual.ensures.1 in
    rw (out.1, out.2) (walked_refused (g.W.World.tale c.args.world.now).by c.args.code.now.functions.now c.args.levels _ _ _ c.args.frame.now
    (told (g.W.World.tale c.args.world.now) c.args.printed.now) (told (g.W.World.tale c.operate.new.self) c.args.printed.now) _ _
    (ap (λ (m : Tale). told m c.args.printed.now) c.in_err-value.ensures.refused) c.in_err-value.ensures.kept refl c.requires.ready.proper)

pub calls::invoke-returns-in-Value : goal.calls::invoke-returns-in-Value
calls::invoke-returns-in-Value g t c =
    let answers = answers_same c.args.site c.args.operands c.as_slice.result.now c.in_ok-value.field-0 (g.W.World.tale c.args.world.now)
    (g.W.World.tale c.operate.new.self) c.as_slice.ensures c.in_ok-value.ensures.answers in
    let had = onto_same c.args.site c.args.operands c.as_slice.result.now (g.W.World.answered c.args.world.now) (g.W.World.answered c.operate.new.self)
    c.as_slice.ensures c.in_ok-value.ensures.answered in
    outcome_ended c.args.code.now.functions.now c.args.levels c.args.site c.args.operands c.in_ok-value.field-0
    (λ a. invoked a (info_at a.plan c.args.site) (drop 1 c.args.operands) c.args.levels c.args.frame.now) 1 (Gives c.in-Value.value) c.args.frame.now
    (g.W.World.tale c.args.world.now) (g.W.World.tale c.operate.new.self) c.args.printed.now _ _ answers had c.in_ok-value.ensures.answer
    c.requires.ready.proper
    (λ a. ap (λ w. invoked a (info_at a.plan c.args.site) (drop 1 c.args.operands) c.args.levels c.args.frame.now w) (sym c.in-Value.is))
    (subst (IsProperAnswer (g.W.World.tale c.args.world.now).by) c.in-Value.is c.in_ok-value.ensures.answer) (omega arith)

pub calls::invoke-split_at-requires : goal.calls::invoke-split_at-requires
calls::invoke-split_at-requires g t c =
    omega (arith, ap length c.as_slice-in-Call.ensures, c.requires.some)

pub calls::invoke-names_of-requires : goal.calls::invoke-names_of-requires
calls::invoke-names_of-requires g t c =
    site_here c.args.code.now (g.W.World.tale c.args.world.now) c.args.site (length c.args.operands) 1 c.args.frame.now c.requires.ready

pub calls::invoke-call-requires : goal.calls::invoke-call-requires
calls::invoke-call-requires g t c κs within =
    let answers = answers_same c.args.site c.args.operands c.as_slice.result.now c.in_ok-value.field-0 (g.W.World.tale c.args.world.now)
    (g.W.World.tale c.operate.new.self) c.as_slice.ensures c.in_ok-value.ensures.answers in (
      omega (arith, c.decreases),
      (
        within.0,
        (
          within.1.0,
          (
            within.1.1,
            (
              function_called c.args.code.now (g.W.World.tale c.args.world.now) _ _ c.args.frame.now c.in_ok-value.field-0 c.in-Call.function c.requires.ready
                  c.in_ok-value.ensures.answer c.in-Call.is,
              (
                args_left c.args.site c.args.operands c.args.operands c.as_slice-in-Call.result.now c.split_at.result.1.now c.in_ok-value.field-0
                    (g.W.World.tale c.args.world.now) (g.W.World.tale c.operate.new.self) answers c.requires.operands c.as_slice-in-Call.ensures
                    c.split_at.ensures.back,
                ready_answered c.args.code.now _ 1 0 c.args.frame.now (g.W.World.tale c.args.world.now) (g.W.World.tale c.operate.new.self) c.args.site
                    c.args.operands c.in_ok-value.field-0 c.requires.ready answers (omega arith),
              ),
            ),
          ),
        ),
      ),
    )

pub calls::invoke-returns-in-Call : goal.calls::invoke-returns-in-Call
calls::invoke-returns-in-Call g t c =
    let answers = answers_same c.args.site c.args.operands c.as_slice.result.now c.in_ok-value.field-0 (g.W.World.tale c.args.world.now)
    (g.W.World.tale c.operate.new.self) c.as_slice.ensures c.in_ok-value.ensures.answers in
    let had = onto_same c.args.site c.args.operands c.as_slice.result.now (g.W.World.answered c.args.world.now) (g.W.World.answered c.operate.new.self)
    c.as_slice.ensures c.in_ok-value.ensures.answered in
    invoke_called c.args.code.now.functions.now c.args.levels c.args.site c.args.operands c.in_ok-value.field-0 c.in-Call.function c.names_of.result.now
    c.split_at.result.1.now _ c.args.frame.now _ (g.W.World.tale c.args.world.now) (g.W.World.tale c.operate.new.self) c.args.printed.now _ _ _ _ answers had
    c.in_ok-value.ensures.answer c.requires.ready.proper c.in-Call.is
    (names_there c.args.code.now (g.W.World.tale c.args.world.now) c.args.site c.names_of.result.now c.requires.ready.world.plan c.names_of.ensures)
    (c.split_at.ensures.back ∙ ap (drop 1) c.as_slice-in-Call.ensures) c.call.ensures

pub calls::invoke-returns-in-Make : goal.calls::invoke-returns-in-Make
calls::invoke-returns-in-Make g t c =
    let answers = answers_same c.args.site c.args.operands c.as_slice.result.now c.in_ok-value.field-0 (g.W.World.tale c.args.world.now)
    (g.W.World.tale c.operate.new.self) c.as_slice.ensures c.in_ok-value.ensures.answers in
    let had = onto_same c.args.site c.args.operands c.as_slice.result.now (g.W.World.answered c.args.world.now) (g.W.World.answered c.operate.new.self)
    c.as_slice.ensures c.in_ok-value.ensures.answered in
    outcome_ended c.args.code.now.functions.now c.args.levels c.args.site c.args.operands c.in_ok-value.field-0
    (λ a. invoked a (info_at a.plan c.args.site) (drop 1 c.args.operands) c.args.levels c.args.frame.now) 1 (Fails NoOperator) c.args.frame.now
    (g.W.World.tale c.args.world.now) (g.W.World.tale c.operate.new.self) c.args.printed.now _ _ answers had c.in_ok-value.ensures.answer
    c.requires.ready.proper
    (λ a. ap (λ w. invoked a (info_at a.plan c.args.site) (drop 1 c.args.operands) c.args.levels c.args.frame.now w) (sym c.in-Make.is)) tt (omega arith)

pub calls::invoke-returns : goal.calls::invoke-returns
calls::invoke-returns g t c =
    let answers = answers_same c.args.site c.args.operands c.as_slice.result.now c.in_ok-value.field-0 (g.W.World.tale c.args.world.now)
    (g.W.World.tale c.operate.new.self) c.as_slice.ensures c.in_ok-value.ensures.answers in
    let had = onto_same c.args.site c.args.operands c.as_slice.result.now (g.W.World.answered c.args.world.now) (g.W.World.answered c.operate.new.self)
    c.as_slice.ensures c.in_ok-value.ensures.answered in
    outcome_ended c.args.code.now.functions.now c.args.levels c.args.site c.args.operands c.in_ok-value.field-0
    (λ a. invoked a (info_at a.plan c.args.site) (drop 1 c.args.operands) c.args.levels c.args.frame.now) 1 (Fails c.in-Fault.fault) c.args.frame.now
    (g.W.World.tale c.args.world.now) (g.W.World.tale c.operate.new.self) c.args.printed.now _ _ answers had c.in_ok-value.ensures.answer
    c.requires.ready.proper
    (λ a. ap (λ w. invoked a (info_at a.plan c.args.site) (drop 1 c.args.operands) c.args.levels c.args.frame.now w) (sym c.in-Fault.is))
    (subst (IsProperAnswer (g.W.World.tale c.args.world.now).by) c.in-Fault.is c.in_ok-value.ensures.answer) (omega arith)

pub calls::new_of-returns-in_err-inner : goal.calls::new_of-returns-in_err-inner
calls::new_of-returns-in_err-inner g t c =
    let none = c.in_err-inner.ensures.none in
    let out = err_from_is_err_and c.from_residual.result c.from_residual.ensures.1 in
    rw (out.1, out.2, none.0) (new_of_deep _ c.args.code.now.functions.now c.args.levels c.args.site c.args.target.now c.args.args.now c.args.frame.now _ _
    none.1 refl c.requires.ready.proper)

pub calls::new_of-value_of-requires : goal.calls::new_of-value_of-requires
calls::new_of-value_of-requires g t c κs within = (
  omega (arith, c.decreases, c.in_ok-inner.ensures.inner),
  (
    within.0,
    (
      within.1.0,
      (
        within.1.1,
        ready_target c.args.code.now (g.W.World.tale c.args.world.now) c.args.site (suc (length c.args.args.now))
            c.args.target.now c.args.args.now c.args.frame.now c.requires.ready,
      ),
    ),
  ),
)

pub calls::new_of-returns-in_err-first : goal.calls::new_of-returns-in_err-first
calls::new_of-returns-in_err-first g t c =
    let out = err_from_is_err_and c.from_residual-in_err-first.result c.from_residual-in_err-first.ensures.1 in
    rw (out.1, out.2) (target_stopped c.in_err-first.field-0.0 _ c.args.code.now.functions.now c.args.levels c.in_ok-inner.inner c.args.site c.args.target.now
    c.args.args.now _ _ _ _ _ _ c.in_ok-inner.ensures.inner c.in_err-first.ensures)

pub calls::new_of-returns-in_err-push : goal.calls::new_of-returns-in_err-push
calls::new_of-returns-in_err-push g t c =
    let out = err_from_is_err_and c.from_residual-in_err-push.result c.from_residual-in_err-push.ensures.1 in
    rw (out.1, out.2) (target_lost _ c.args.code.now.functions.now c.args.levels c.in_ok-inner.inner c.args.site c.args.target.now c.args.args.now
    c.in_ok-first.first _ _ _ _ _ _ c.in_ok-inner.ensures.inner c.in_ok-first.ensures)

pub calls::new_of-with_arguments-requires : goal.calls::new_of-with_arguments-requires
calls::new_of-with_arguments-requires g t c κs within =
    let kept = c.in_ok-push.ensures.ok ∙ ap (λ (vs : List Value). vs ++ c.in_ok-first.first ∷ []) c.new-operands.ensures in
    let ready = ready_rest c.args.code.now c.args.code.now.functions.now c.in_ok-inner.inner c.args.site (suc (length c.args.args.now)) c.args.target.now
    c.args.args.now c.in_ok-first.first _ _ _ _ _ _ c.requires.ready c.in_ok-first.ensures in (
      omega (arith, c.decreases, c.in_ok-inner.ensures.inner),
      (
        within.0,
        (
          within.1.0,
          (
            within.1.1,
            (
              proper_there (g.W.World.tale c.value_of.new.world).by (c.in_ok-first.first ∷ []) c.push.new.self kept
                  (walked_proper _ _ _ _ IsProperValue _ c.in_ok-first.first _ _ _ _ _ _ c.in_ok-first.ensures, tt),
              ready_args c.args.code.now (g.W.World.tale c.value_of.new.world) c.args.site (suc (length c.args.args.now)) c.args.args.now c.value_of.new.frame
                  ready,
            ),
          ),
        ),
      ),
    )

pub calls::new_of-returns-in_err-operands : goal.calls::new_of-returns-in_err-operands
calls::new_of-returns-in_err-operands g t c =
    let kept = c.in_ok-push.ensures.ok ∙ ap (λ (vs : List Value). vs ++ c.in_ok-first.first ∷ []) c.new-operands.ensures in
    let out = err_from_is_err_and c.from_residual-in_err-operands.result c.from_residual-in_err-operands.ensures.1 in
    rw (out.1, out.2) (args_stopped c.in_err-operands.field-0.0 _ c.args.code.now.functions.now c.args.levels c.in_ok-inner.inner c.args.site
    c.args.target.now c.args.args.now c.in_ok-first.first c.push.new.self _ _ _ _ _ _ _ _ _ c.in_ok-inner.ensures.inner kept c.in_ok-first.ensures
    c.in_err-operands.ensures)

pub calls::new_of-create-requires : goal.calls::new_of-create-requires
calls::new_of-create-requires g t c κs within =
    let kept = c.in_ok-push.ensures.ok ∙ ap (λ (vs : List Value). vs ++ c.in_ok-first.first ∷ []) c.new-operands.ensures in
    let ready = ready_rest c.args.code.now c.args.code.now.functions.now c.in_ok-inner.inner c.args.site (suc (length c.args.args.now)) c.args.target.now
    c.args.args.now c.in_ok-first.first _ _ _ _ _ _ c.requires.ready c.in_ok-first.ensures in (
      omega (arith, c.decreases),
      (
        within.0,
        (
          within.1.0,
          (
            within.1.1,
            (
              called_some _ _ _ _ _ _ c.in_ok-first.first _ c.in_ok-operands.operands _ _ _ _ _ _ kept c.in_ok-operands.ensures,
              (
                called_proper _ _ _ _ _ _ _ c.in_ok-operands.operands _ _ _ _ _ _ c.in_ok-operands.ensures,
                ready_made c.args.code.now c.args.code.now.functions.now c.in_ok-inner.inner c.args.site c.args.args.now c.in_ok-first.first c.push.new.self
                    c.in_ok-operands.operands _ _ _ _ _ _ kept ready c.in_ok-operands.ensures,
              ),
            ),
          ),
        ),
      ),
    )

pub calls::new_of-returns : goal.calls::new_of-returns
calls::new_of-returns g t c =
    let kept = c.in_ok-push.ensures.ok ∙ ap (λ (vs : List Value). vs ++ c.in_ok-first.first ∷ []) c.new-operands.ensures in
    new_of_whole _ c.args.code.now.functions.now c.args.levels c.in_ok-inner.inner c.args.site c.args.target.now c.args.args.now c.in_ok-first.first
    c.push.new.self c.in_ok-operands.operands _ _ _ _ _ _ _ _ _ _ _ _ _ c.in_ok-inner.ensures.inner kept c.in_ok-first.ensures c.in_ok-operands.ensures
    c.create.ensures

pub expressions::called_with-returns-in_err-push : goal.expressions::called_with-returns-in_err-push
expressions::called_with-returns-in_err-push g t c =
    let out = err_from_is_err_and c.from_residual.result c.from_residual.ensures.1 in
    rw (out.1, out.2) (lost_here _ c.args.code.now.functions.now c.args.levels _ _ _ c.args.frame.now _ _ refl c.requires.ready.proper)

pub expressions::called_with-returns-then-is_empty : goal.expressions::called_with-returns-then-is_empty
expressions::called_with-returns-then-is_empty g t c =
    let kept = c.in_ok-push.ensures.ok ∙ ap (λ (vs : List Value). vs ++ c.args.target ∷ []) c.new-operands.ensures in
    args_none _ c.args.code.now.functions.now c.args.levels c.args.args.now c.args.target c.push.new.self c.args.frame.now _ _
    (none_there (length c.args.args.now) c.is_empty.result c.is_empty.ensures c.if-is_empty.true) kept c.requires.target refl c.requires.ready.proper

pub expressions::called_with-returns-in_err-inner : goal.expressions::called_with-returns-in_err-inner
expressions::called_with-returns-in_err-inner g t c =
    let none = c.in_err-inner.ensures.none in
    let out = err_from_is_err_and c.from_residual-in_err-inner.result c.from_residual-in_err-inner.ensures.1 in
    rw (out.1, out.2, none.0) (args_deep _ c.args.code.now.functions.now c.args.levels c.args.args.now c.args.target c.args.frame.now _ _
    (some_there (length c.args.args.now) c.is_empty.result c.is_empty.ensures c.if-is_empty.false) none.1 refl c.requires.ready.proper)

pub expressions::called_with-with_arguments-requires : goal.expressions::called_with-with_arguments-requires
expressions::called_with-with_arguments-requires g t c κs within =
    let kept = c.in_ok-push.ensures.ok ∙ ap (λ (vs : List Value). vs ++ c.args.target ∷ []) c.new-operands.ensures in (
      omega (arith, c.decreases, c.in_ok-inner.ensures.inner),
      (
        within.0,
        (
          within.1.0,
          (
            within.1.1,
            (
              proper_there (g.W.World.tale c.args.world.now).by (c.args.target ∷ []) c.push.new.self kept
                  (c.requires.target, tt),
              c.requires.ready,
            ),
          ),
        ),
      ),
    )

pub expressions::called_with-returns : goal.expressions::called_with-returns
expressions::called_with-returns g t c =
    let kept = c.in_ok-push.ensures.ok ∙ ap (λ (vs : List Value). vs ++ c.args.target ∷ []) c.new-operands.ensures in
    args_whole _ c.args.code.now.functions.now c.args.levels c.in_ok-inner.inner c.args.args.now c.args.target c.push.new.self _ _ _ _ _ _ _
    (some_there (length c.args.args.now) c.is_empty.result c.is_empty.ensures c.if-is_empty.false) c.in_ok-inner.ensures.inner kept c.with_arguments.ensures

pub expressions::head_value-returns-in_err-copy-in-Literal : goal.expressions::head_value-returns-in_err-copy-in-Literal
expressions::head_value-returns-in_err-copy-in-Literal g t c =
    let out = err_from_is_err_and c.from_residual.result c.from_residual.ensures.1 in
    rw (out.1, out.2) (lost_here _ c.args.code.now.functions.now c.args.levels _ _ _ c.args.frame.now _ _ refl c.requires.ready.proper)

pub expressions::head_value-returns-in_err-local_value-in-Local : goal.expressions::head_value-returns-in_err-local_value-in-Local
expressions::head_value-returns-in_err-local_value-in-Local g t c =
    let out = err_from_is_err_and c.from_residual-in_err-local_value-in-Local.result c.from_residual-in_err-local_value-in-Local.ensures.1 in
    rw (out.1, out.2) (lost_here _ c.args.code.now.functions.now c.args.levels _ _ _ c.args.frame.now _ _ refl c.requires.ready.proper)

pub expressions::head_value-returns-in_err-inner-in-Unary : goal.expressions::head_value-returns-in_err-inner-in-Unary
expressions::head_value-returns-in_err-inner-in-Unary g t c =
    let none = c.in_err-inner-in-Unary.ensures.none in
    let out = err_from_is_err_and c.from_residual-in_err-inner-in-Unary.result c.from_residual-in_err-inner-in-Unary.ensures.1 in
    rw (out.1, out.2, none.0) (unary_deep _ c.args.code.now.functions.now c.args.levels c.args.head.now c.in-Unary.site c.in-Unary.value c.args.frame.now _ _
    c.in-Unary.is none.1 refl c.requires.ready.proper)

pub expressions::head_value-operation-requires : goal.expressions::head_value-operation-requires
expressions::head_value-operation-requires g t c κs within = (
  omega (arith, c.decreases, c.in_ok-inner-in-Unary.ensures.inner),
  (
    within.0,
    (
      within.1.0,
      (
        within.1.1,
        ready_unary c.args.code.now (g.W.World.tale c.args.world.now) c.args.head.now c.in-Unary.site c.in-Unary.value
            (record { node = c.get.result; opens = false }) c.args.frame.now c.in-Unary.is c.get.ensures c.requires.ready,
      ),
    ),
  ),
)

pub expressions::head_value-returns-in_err-inner-in-Binary : goal.expressions::head_value-returns-in_err-inner-in-Binary
expressions::head_value-returns-in_err-inner-in-Binary g t c =
    let none = c.in_err-inner-in-Binary.ensures.none in
    let out = err_from_is_err_and c.from_residual-in_err-inner-in-Binary.result c.from_residual-in_err-inner-in-Binary.ensures.1 in
    rw (out.1, out.2, none.0) (binary_deep _ c.args.code.now.functions.now c.args.levels c.args.head.now c.in-Binary.site c.in-Binary.left c.in-Binary.right
    c.args.frame.now _ _ c.in-Binary.is none.1 refl c.requires.ready.proper)

pub expressions::head_value-operation-requires-in-Binary : goal.expressions::head_value-operation-requires-in-Binary
expressions::head_value-operation-requires-in-Binary g t c κs within = (
  omega (arith, c.decreases, c.in_ok-inner-in-Binary.ensures.inner),
  (
    within.0,
    (
      within.1.0,
      (
        within.1.1,
        ready_binary c.args.code.now (g.W.World.tale c.args.world.now) c.args.head.now c.in-Binary.site c.in-Binary.left
            c.in-Binary.right (record { node = c.get-in-Binary.result; opens = false }) (record { node = c.get-in-Binary-2.result; opens = false })
            c.args.frame.now c.in-Binary.is c.get-in-Binary.ensures c.get-in-Binary-2.ensures c.requires.ready,
      ),
    ),
  ),
)

pub expressions::head_value-draw_object-requires : goal.expressions::head_value-draw_object-requires
expressions::head_value-draw_object-requires g t c =
    record { ready = ready_new c.args.code.now (g.W.World.tale c.args.world.now) c.args.head.now c.args.frame.now c.in-New.is c.requires.ready }

pub expressions::head_value-returns-in_err-draw_object-in-New : goal.expressions::head_value-returns-in_err-draw_object-in-New
expressions::head_value-returns-in_err-draw_object-in-New g t c =
    let out = err_from_is_err_and c.from_residual-in_err-draw_object-in-New.result c.from_residual-in_err-draw_object-in-New.ensures.1 in
    rw (out.1, out.2) (new_stopped c.in_err-draw_object-in-New.field-0.0 _ c.args.code.now.functions.now c.args.levels c.args.head.now c.args.frame.now
    c.args.frame.now _ _ _ _ c.in-New.is (c.in_err-draw_object-in-New.ensures c.args.levels c.args.printed.now))

pub expressions::head_value-new_of-requires : goal.expressions::head_value-new_of-requires
expressions::head_value-new_of-requires g t c κs within = (
  omega (arith, c.decreases),
  (
    within.0,
    (
      within.1.0,
      (
        within.1.1,
        ready_new_of c.args.code.now (g.W.World.tale c.args.world.now) c.args.head.now c.in-NewOf.site c.in-NewOf.target
            c.get-in-NewOf.result.now c.in-NewOf.args c.as_slice-in-NewOf.result.now c.args.frame.now c.in-NewOf.is c.get-in-NewOf.ensures
            c.as_slice-in-NewOf.ensures c.requires.ready,
      ),
    ),
  ),
)

pub expressions::head_value-returns-in_ok-copy-in-Literal : goal.expressions::head_value-returns-in_ok-copy-in-Literal
expressions::head_value-returns-in_ok-copy-in-Literal g t c =
    literal_whole _ c.args.code.now.functions.now c.args.levels c.args.head.now c.in-Literal.value c.in_ok-copy-in-Literal.field-0 c.args.frame.now _ _
    c.in-Literal.is c.in_ok-copy-in-Literal.ensures (literal_proper c.args.code.now (g.W.World.tale c.args.world.now) c.args.head.now c.in-Literal.value
    c.args.frame.now c.in-Literal.is c.requires.ready) refl c.requires.ready.proper

pub expressions::head_value-returns-in_ok-local_value-in-Local : goal.expressions::head_value-returns-in_ok-local_value-in-Local
expressions::head_value-returns-in_ok-local_value-in-Local g t c =
    local_whole _ c.args.code.now.functions.now c.args.levels c.args.head.now c.in-Local.number c.in_ok-local_value-in-Local.field-0 c.args.frame.now _ _
    c.in-Local.is (c.in_ok-local_value-in-Local.ensures.value ∙ ap (λ (vs : List Value). get_or vs c.in-Local.number value.Nil) c.as_slice.ensures)
    (c.in_ok-local_value-in-Local.ensures.proper (g.W.World.tale c.args.world.now).by
    (subst (AreProper (g.W.World.tale c.args.world.now).by) (sym c.as_slice.ensures) c.requires.ready.proper)) refl c.requires.ready.proper

pub expressions::head_value-returns-in_ok-inner-in-Unary : goal.expressions::head_value-returns-in_ok-inner-in-Unary
expressions::head_value-returns-in_ok-inner-in-Unary g t c =
    unary_whole _ c.args.code.now.functions.now c.args.levels c.in_ok-inner-in-Unary.inner c.args.head.now c.in-Unary.site c.in-Unary.value
    (record { node = c.get.result; opens = false }) _ _ _ _ _ _ _ c.in-Unary.is c.in_ok-inner-in-Unary.ensures.inner refl c.get.ensures c.operation.ensures

pub expressions::head_value-returns-in_ok-inner-in-Binary : goal.expressions::head_value-returns-in_ok-inner-in-Binary
expressions::head_value-returns-in_ok-inner-in-Binary g t c =
    binary_whole _ c.args.code.now.functions.now c.args.levels c.in_ok-inner-in-Binary.inner c.args.head.now c.in-Binary.site c.in-Binary.left
    c.in-Binary.right (record { node = c.get-in-Binary.result; opens = false }) (record { node = c.get-in-Binary-2.result; opens = false }) _ _ _ _ _ _ _
    c.in-Binary.is c.in_ok-inner-in-Binary.ensures.inner refl c.get-in-Binary.ensures refl c.get-in-Binary-2.ensures c.operation-in-Binary.ensures

pub expressions::head_value-returns-in_ok-draw_object-in-New : goal.expressions::head_value-returns-in_ok-draw_object-in-New
expressions::head_value-returns-in_ok-draw_object-in-New g t c =
    new_whole _ c.args.code.now.functions.now c.args.levels c.args.head.now c.in_ok-draw_object-in-New.field-0 c.args.frame.now _ _ _ _ c.in-New.is
    (c.in_ok-draw_object-in-New.ensures c.args.levels c.args.printed.now)

pub expressions::head_value-returns-in-NewOf : goal.expressions::head_value-returns-in-NewOf
expressions::head_value-returns-in-NewOf g t c =
    heads.new_of_whole _ c.args.code.now.functions.now c.args.levels c.args.head.now c.in-NewOf.site c.in-NewOf.target c.get-in-NewOf.result.now
    c.in-NewOf.args c.as_slice-in-NewOf.result.now _ _ _ _ _ _ _ c.in-NewOf.is c.get-in-NewOf.ensures c.as_slice-in-NewOf.ensures c.new_of.ensures

pub expressions::operation-values_of_parts-requires : goal.expressions::operation-values_of_parts-requires
expressions::operation-values_of_parts-requires g t c κs within = (
  omega (arith, c.decreases),
  (
    within.0,
    (
      within.1.0,
      (
        within.1.1,
        ready_parts c.args.code.now (g.W.World.tale c.args.world.now) c.args.site c.args.parts.now c.args.frame.now
            c.requires.ready,
      ),
    ),
  ),
)

pub expressions::operation-returns-in_err-operands : goal.expressions::operation-returns-in_err-operands
expressions::operation-returns-in_err-operands g t c =
    let out = err_from_is_err_and c.from_residual.result c.from_residual.ensures.1 in
    rw (out.1, out.2) (operation_stopped c.in_err-operands.field-0.0 _ c.args.code.now.functions.now c.args.levels c.args.site c.args.parts.now _ _ _ _ _ _
    c.in_err-operands.ensures)

pub expressions::operation-ask-requires-clause-ready : goal.expressions::operation-ask-requires-clause-ready
expressions::operation-ask-requires-clause-ready g t c =
    ready_operation c.args.code.now c.args.code.now.functions.now c.args.levels c.args.site c.args.parts.now c.in_ok-operands.operands c.as_slice.result.now _
    _ _ _ _ _ c.requires.ready c.as_slice.ensures c.in_ok-operands.ensures

pub expressions::operation-ask-requires-clause-proper : goal.expressions::operation-ask-requires-clause-proper
expressions::operation-ask-requires-clause-proper g t c =
    operands_proper _ c.args.code.now.functions.now c.args.levels c.args.parts.now c.in_ok-operands.operands c.as_slice.result.now _ _ _ _ _ _
    c.as_slice.ensures c.in_ok-operands.ensures

pub expressions::operation-returns : goal.expressions::operation-returns
expressions::operation-returns g t c =
    operation_whole _ c.args.code.now.functions.now c.args.levels c.args.site c.args.parts.now c.in_ok-operands.operands c.as_slice.result.now _ _ _ _ _ _ _ _
    _ _ c.as_slice.ensures c.in_ok-operands.ensures (c.ask.ensures c.args.levels c.values_of_parts.new.printed)

pub expressions::suffix_value-ask-requires-clause-ready : goal.expressions::suffix_value-ask-requires-clause-ready
expressions::suffix_value-ask-requires-clause-ready g t c =
    ready_member c.args.code.now (g.W.World.tale c.args.world.now) c.args.suffix.now c.in-Member.site c.args.frame.now c.in-Member.is c.requires.ready

pub expressions::suffix_value-ask-requires-clause-proper : goal.expressions::suffix_value-ask-requires-clause-proper
expressions::suffix_value-ask-requires-clause-proper g t c =
    (c.requires.target, tt)

pub expressions::suffix_value-called_with-requires : goal.expressions::suffix_value-called_with-requires
expressions::suffix_value-called_with-requires g t c κs within =
    let is = c.in-MemberCall.is ∙ ap (λ xs. suffix.MemberCall c.in-MemberCall.site xs) (sym c.as_slice.ensures) in (
      omega (arith, c.decreases),
      (
        within.0,
        (
          within.1.0,
          (
            within.1.1,
            (
              c.requires.target,
              ready_member_args c.args.code.now (g.W.World.tale c.args.world.now) c.args.suffix.now
                  c.in-MemberCall.site c.as_slice.result.now c.args.frame.now is c.requires.ready,
            ),
          ),
        ),
      ),
    )

pub expressions::suffix_value-returns-in_err-operands-in-MemberCall : goal.expressions::suffix_value-returns-in_err-operands-in-MemberCall
expressions::suffix_value-returns-in_err-operands-in-MemberCall g t c =
    let is = c.in-MemberCall.is ∙ ap (λ xs. suffix.MemberCall c.in-MemberCall.site xs) (sym c.as_slice.ensures) in
    let out = err_from_is_err_and c.from_residual.result c.from_residual.ensures.1 in
    rw (out.1, out.2) (member_args_stopped c.in_err-operands-in-MemberCall.field-0.0 _ c.args.code.now.functions.now c.args.levels c.args.suffix.now
    c.in-MemberCall.site c.as_slice.result.now c.args.target _ _ _ _ _ _ is c.in_err-operands-in-MemberCall.ensures)

pub expressions::suffix_value-ask-requires-in-MemberCall-clause-ready : goal.expressions::suffix_value-ask-requires-in-MemberCall-clause-ready
expressions::suffix_value-ask-requires-in-MemberCall-clause-ready g t c =
    let is = c.in-MemberCall.is ∙ ap (λ xs. suffix.MemberCall c.in-MemberCall.site xs) (sym c.as_slice.ensures) in
    let ready = ready_member_asked c.args.code.now c.args.code.now.functions.now c.args.levels c.args.suffix.now c.in-MemberCall.site c.as_slice.result.now
    c.args.target c.in_ok-operands-in-MemberCall.operands _ _ _ _ _ _ is c.requires.ready c.in_ok-operands-in-MemberCall.ensures in
    ready_same c.args.code.now (g.W.World.tale c.called_with.new.world) c.in-MemberCall.site 1 c.in_ok-operands-in-MemberCall.operands
    c.as_slice-in-MemberCall.result.now c.called_with.new.frame c.as_slice-in-MemberCall.ensures
    (ready_read c.args.code.now (g.W.World.tale c.called_with.new.world) c.in-MemberCall.site (length c.in_ok-operands-in-MemberCall.operands)
    c.called_with.new.frame ready)

pub expressions::suffix_value-ask-requires-in-MemberCall-clause-proper : goal.expressions::suffix_value-ask-requires-in-MemberCall-clause-proper
expressions::suffix_value-ask-requires-in-MemberCall-clause-proper g t c =
    proper_there (g.W.World.tale c.called_with.new.world).by c.in_ok-operands-in-MemberCall.operands c.as_slice-in-MemberCall.result.now
    c.as_slice-in-MemberCall.ensures (called_proper _ _ _ _ _ _ _ c.in_ok-operands-in-MemberCall.operands _ _ _ _ _ _ c.in_ok-operands-in-MemberCall.ensures)

pub expressions::suffix_value-returns-in_err-function-in-MemberCall : goal.expressions::suffix_value-returns-in_err-function-in-MemberCall
expressions::suffix_value-returns-in_err-function-in-MemberCall g t c =
    let is = c.in-MemberCall.is ∙ ap (λ xs. suffix.MemberCall c.in-MemberCall.site xs) (sym c.as_slice.ensures) in
    let out = err_from_is_err_and c.from_residual-in_err-function-in-MemberCall.result c.from_residual-in_err-function-in-MemberCall.ensures.1 in
    rw (out.1, out.2) (member_read_stopped c.in_err-function-in-MemberCall.field-0.0 _ c.args.code.now.functions.now c.args.levels c.args.suffix.now
    c.in-MemberCall.site c.as_slice.result.now c.args.target c.in_ok-operands-in-MemberCall.operands c.as_slice-in-MemberCall.result.now _ _ _ _ _ _ _ _ _ is
    c.as_slice-in-MemberCall.ensures c.in_ok-operands-in-MemberCall.ensures (c.in_err-function-in-MemberCall.ensures c.args.levels c.called_with.new.printed))

pub expressions::suffix_value-set-requires : goal.expressions::suffix_value-set-requires
expressions::suffix_value-set-requires g t c =
    called_some _ _ _ _ _ _ c.args.target _ c.in_ok-operands-in-MemberCall.operands _ _ _ _ _ _ refl c.in_ok-operands-in-MemberCall.ensures

pub expressions::suffix_value-overflow_add-site : goal.expressions::suffix_value-overflow_add-site
expressions::suffix_value-overflow_add-site g t c =
    let is = c.in-MemberCall.is ∙ ap (λ xs. suffix.MemberCall c.in-MemberCall.site xs) (sym c.as_slice.ensures) in
    let ready = ready_member_asked c.args.code.now c.args.code.now.functions.now c.args.levels c.args.suffix.now c.in-MemberCall.site c.as_slice.result.now
    c.args.target c.in_ok-operands-in-MemberCall.operands _ _ _ _ _ _ is c.requires.ready c.in_ok-operands-in-MemberCall.ensures in
    omega (
      arith,
      next_site c.args.code.now (g.W.World.tale c.called_with.new.world) c.in-MemberCall.site (length c.in_ok-operands-in-MemberCall.operands)
          c.called_with.new.frame ready,
    )

pub expressions::suffix_value-invoke-requires : goal.expressions::suffix_value-invoke-requires
expressions::suffix_value-invoke-requires g t c κs within =
    let is = c.in-MemberCall.is ∙ ap (λ xs. suffix.MemberCall c.in-MemberCall.site xs) (sym c.as_slice.ensures) in
    let ready = ready_member_asked c.args.code.now c.args.code.now.functions.now c.args.levels c.args.suffix.now c.in-MemberCall.site c.as_slice.result.now
    c.args.target c.in_ok-operands-in-MemberCall.operands _ _ _ _ _ _ is c.requires.ready c.in_ok-operands-in-MemberCall.ensures in
    let read = c.in_ok-function-in-MemberCall.ensures c.args.levels c.called_with.new.printed in (
      omega (arith, c.decreases),
      (
        within.0,
        (
          within.1.0,
          (
            within.1.1,
            (
              replaced_some c.in_ok-operands-in-MemberCall.operands c.set.new.self c.in_ok-function-in-MemberCall.function
                  (called_some _ _ _ _ _ _ c.args.target _ c.in_ok-operands-in-MemberCall.operands _ _ _ _ _ _ refl c.in_ok-operands-in-MemberCall.ensures)
                  c.set.ensures,
              (
                replaced_proper (g.W.World.tale c.ask-in-MemberCall.new.world).by c.in_ok-operands-in-MemberCall.operands c.set.new.self
                    c.in_ok-function-in-MemberCall.function (kept_proper _ _ _ _ _ _ c.in_ok-function-in-MemberCall.function c.in_ok-operands-in-MemberCall.operands
                    _ _ _ _ _ _ read (called_proper _ _ _ _ _ _ _ c.in_ok-operands-in-MemberCall.operands _ _ _ _ _ _ c.in_ok-operands-in-MemberCall.ensures))
                    (walked_proper _ _ _ _ IsProperValue _ c.in_ok-function-in-MemberCall.function _ _ _ _ _ _ read) c.set.ensures,
                ready_replaced c.args.code.now (g.W.World.tale c.ask-in-MemberCall.new.world) (c.in-MemberCall.site + 1) 1 c.in_ok-operands-in-MemberCall.operands
                    c.set.new.self c.in_ok-function-in-MemberCall.function c.ask-in-MemberCall.new.frame c.set.ensures
                    (ready_invoked c.args.code.now c.args.code.now.functions.now c.args.levels c.in-MemberCall.site (length c.in_ok-operands-in-MemberCall.operands)
                    c.as_slice-in-MemberCall.result.now c.in_ok-function-in-MemberCall.function _ _ _ _ _ _ ready read),
              ),
            ),
          ),
        ),
      ),
    )

pub expressions::suffix_value-returns-in_err-inner-in-Index : goal.expressions::suffix_value-returns-in_err-inner-in-Index
expressions::suffix_value-returns-in_err-inner-in-Index g t c =
    let none = c.in_err-inner-in-Index.ensures.none in
    let out = err_from_is_err_and c.from_residual-in_err-inner-in-Index.result c.from_residual-in_err-inner-in-Index.ensures.1 in
    rw (out.1, out.2, none.0) (index_deep _ c.args.code.now.functions.now c.args.levels c.args.suffix.now c.in-Index.site c.in-Index.key c.args.target
    c.args.frame.now _ _ c.in-Index.is none.1 refl c.requires.ready.proper)

pub expressions::suffix_value-value_of-requires : goal.expressions::suffix_value-value_of-requires
expressions::suffix_value-value_of-requires g t c κs within = (
  omega (arith, c.decreases, c.in_ok-inner-in-Index.ensures.inner),
  (
    within.0,
    (
      within.1.0,
      (
        within.1.1,
        ready_key c.args.code.now (g.W.World.tale c.args.world.now) c.args.suffix.now c.in-Index.site c.in-Index.key
            c.args.frame.now c.in-Index.is c.requires.ready,
      ),
    ),
  ),
)

pub expressions::suffix_value-returns-in_err-key-in-Index : goal.expressions::suffix_value-returns-in_err-key-in-Index
expressions::suffix_value-returns-in_err-key-in-Index g t c =
    let out = err_from_is_err_and c.from_residual-in_err-key-in-Index.result c.from_residual-in_err-key-in-Index.ensures.1 in
    rw (out.1, out.2) (index_stopped c.in_err-key-in-Index.field-0.0 _ c.args.code.now.functions.now c.args.levels c.in_ok-inner-in-Index.inner
    c.args.suffix.now c.in-Index.site c.in-Index.key c.args.target _ _ _ _ _ _ c.in-Index.is c.in_ok-inner-in-Index.ensures.inner
    c.in_err-key-in-Index.ensures)

pub expressions::suffix_value-ask-requires-in-Index-clause-ready : goal.expressions::suffix_value-ask-requires-in-Index-clause-ready
expressions::suffix_value-ask-requires-in-Index-clause-ready g t c =
    ready_index c.args.code.now c.args.code.now.functions.now c.in_ok-inner-in-Index.inner c.args.suffix.now c.in-Index.site c.in-Index.key
    c.in_ok-key-in-Index.key _ _ _ _ _ _ c.in-Index.is c.requires.ready c.in_ok-key-in-Index.ensures

pub expressions::suffix_value-ask-requires-in-Index-clause-proper : goal.expressions::suffix_value-ask-requires-in-Index-clause-proper
expressions::suffix_value-ask-requires-in-Index-clause-proper g t c = (
  kept_value _ _ _ _ _ _ c.in_ok-key-in-Index.key c.args.target _ _ _ _ _ _ c.in_ok-key-in-Index.ensures c.requires.target,
  (walked_proper _ _ _ _ IsProperValue _ c.in_ok-key-in-Index.key _ _ _ _ _ _ c.in_ok-key-in-Index.ensures, tt),
)

pub expressions::suffix_value-called_with-requires-in-Call : goal.expressions::suffix_value-called_with-requires-in-Call
expressions::suffix_value-called_with-requires-in-Call g t c κs within =
    let is = c.in-Call.is ∙ ap (λ xs. suffix.Call c.in-Call.site xs) (sym c.as_slice-in-Call.ensures) in (
      omega (arith, c.decreases),
      (
        within.0,
        (
          within.1.0,
          (
            within.1.1,
            (
              c.requires.target,
              ready_call_args c.args.code.now (g.W.World.tale c.args.world.now) c.args.suffix.now
                  c.in-Call.site c.as_slice-in-Call.result.now c.args.frame.now is c.requires.ready,
            ),
          ),
        ),
      ),
    )

pub expressions::suffix_value-returns-in_err-operands-in-Call : goal.expressions::suffix_value-returns-in_err-operands-in-Call
expressions::suffix_value-returns-in_err-operands-in-Call g t c =
    let is = c.in-Call.is ∙ ap (λ xs. suffix.Call c.in-Call.site xs) (sym c.as_slice-in-Call.ensures) in
    let out = err_from_is_err_and c.from_residual-in_err-operands-in-Call.result c.from_residual-in_err-operands-in-Call.ensures.1 in
    rw (out.1, out.2) (call_args_stopped c.in_err-operands-in-Call.field-0.0 _ c.args.code.now.functions.now c.args.levels c.args.suffix.now c.in-Call.site
    c.as_slice-in-Call.result.now c.args.target _ _ _ _ _ _ is c.in_err-operands-in-Call.ensures)

pub expressions::suffix_value-invoke-requires-in-Call : goal.expressions::suffix_value-invoke-requires-in-Call
expressions::suffix_value-invoke-requires-in-Call g t c κs within =
    let is = c.in-Call.is ∙ ap (λ xs. suffix.Call c.in-Call.site xs) (sym c.as_slice-in-Call.ensures) in (
      omega (arith, c.decreases),
      (
        within.0,
        (
          within.1.0,
          (
            within.1.1,
            (
              called_some _ _ _ _ _ _ c.args.target _ c.in_ok-operands-in-Call.operands _ _ _ _ _ _ refl c.in_ok-operands-in-Call.ensures,
              (
                called_proper _ _ _ _ _ _ _ c.in_ok-operands-in-Call.operands _ _ _ _ _ _ c.in_ok-operands-in-Call.ensures,
                ready_call_asked c.args.code.now c.args.code.now.functions.now c.args.levels c.args.suffix.now c.in-Call.site c.as_slice-in-Call.result.now
                    c.args.target c.in_ok-operands-in-Call.operands _ _ _ _ _ _ is c.requires.ready c.in_ok-operands-in-Call.ensures,
              ),
            ),
          ),
        ),
      ),
    )

pub expressions::suffix_value-returns-in-Member : goal.expressions::suffix_value-returns-in-Member
expressions::suffix_value-returns-in-Member g t c =
    member_whole _ c.args.code.now.functions.now c.args.levels c.args.suffix.now c.in-Member.site c.args.target _ _ _ _ _ _ _ c.in-Member.is
    (c.ask.ensures c.args.levels c.args.printed.now)

pub expressions::suffix_value-returns-in_ok-function-in-MemberCall : goal.expressions::suffix_value-returns-in_ok-function-in-MemberCall
expressions::suffix_value-returns-in_ok-function-in-MemberCall g t c =
    member_call_whole _ c.args.code.now.functions.now c.args.levels c.args.suffix.now c.in-MemberCall.site c.as_slice.result.now c.args.target
    c.in_ok-function-in-MemberCall.function c.in_ok-operands-in-MemberCall.operands c.as_slice-in-MemberCall.result.now c.set.new.self _ _ _ _ _ _ _ _ _ _ _ _
    _ (c.in-MemberCall.is ∙ ap (λ xs. suffix.MemberCall c.in-MemberCall.site xs) (sym c.as_slice.ensures)) c.as_slice-in-MemberCall.ensures c.set.ensures
    c.in_ok-operands-in-MemberCall.ensures (c.in_ok-function-in-MemberCall.ensures c.args.levels c.called_with.new.printed) c.invoke.ensures

pub expressions::suffix_value-returns-in_ok-key-in-Index : goal.expressions::suffix_value-returns-in_ok-key-in-Index
expressions::suffix_value-returns-in_ok-key-in-Index g t c =
    index_whole _ c.args.code.now.functions.now c.args.levels c.in_ok-inner-in-Index.inner c.args.suffix.now c.in-Index.site c.in-Index.key c.args.target
    c.in_ok-key-in-Index.key _ _ _ _ _ _ _ _ _ _ c.in-Index.is c.in_ok-inner-in-Index.ensures.inner c.in_ok-key-in-Index.ensures
    (c.ask-in-Index.ensures c.args.levels c.value_of.new.printed)

pub expressions::suffix_value-returns-in_ok-operands-in-Call : goal.expressions::suffix_value-returns-in_ok-operands-in-Call
expressions::suffix_value-returns-in_ok-operands-in-Call g t c =
    let is = c.in-Call.is ∙ ap (λ xs. suffix.Call c.in-Call.site xs) (sym c.as_slice-in-Call.ensures) in
    call_whole _ c.args.code.now.functions.now c.args.levels c.args.suffix.now c.in-Call.site c.as_slice-in-Call.result.now c.args.target
    c.in_ok-operands-in-Call.operands _ _ _ _ _ _ _ _ _ _ is c.in_ok-operands-in-Call.ensures c.invoke-in-Call.ensures

pub expressions::suffixed-loop-suffix-init : goal.expressions::suffixed-loop-suffix-init
expressions::suffixed-loop-suffix-init g t c =
    record { value = c.requires.target; going = going_start _ _ _ _ _ _ _ _ refl c.requires.ready.proper }

pub expressions::suffixed-suffix_value-requires : goal.expressions::suffixed-suffix_value-requires
expressions::suffixed-suffix_value-requires g t c κs within = (
  omega (arith, c.decreases),
  (
    within.0,
    (
      within.1.0,
      (
        within.1.1,
        (
          c.loop-suffix.invariant.value,
          ready_item c.args.code.now suffix_uses suffix_cost c.args.suffixes.now
              c.loop-suffix.suffix-index c.suffix-item.result _ _ _ _ _ _ _ _ _ _ c.requires.ready c.loop-suffix.invariant.going c.loop-suffix-test.true
              c.suffix-item.is,
        ),
      ),
    ),
  ),
)

pub expressions::suffixed-returns-in_err-value : goal.expressions::suffixed-returns-in_err-value
expressions::suffixed-returns-in_err-value g t c =
    let out = err_from_is_err_and c.from_residual.result c.from_residual.ensures.1 in
    rw (out.1, out.2) (suffix_stopped c.in_err-value.field-0.0 _ _ _ _ _ _ _ _ c.args.suffixes.now c.loop-suffix.suffix-index c.suffix-item.result
    c.loop-suffix.value _ _ _ _ _ _ c.loop-suffix-test.true c.suffix-item.is c.loop-suffix.invariant.going c.in_err-value.ensures)

pub expressions::suffixed-loop-suffix-preserved : goal.expressions::suffixed-loop-suffix-preserved
expressions::suffixed-loop-suffix-preserved g t c =
    record {
      value = walked_proper _ _ _ _ IsProperValue _ c.in_ok-value.value _ _ _ _ _ _ c.in_ok-value.ensures;
      going = suffix_kept _ _ _ _ _ _ _ _ c.args.suffixes.now c.loop-suffix.suffix-index c.suffix-item.result c.loop-suffix.value c.in_ok-value.value _ _ _ _
          _ _ c.loop-suffix-test.true c.suffix-item.is c.loop-suffix.invariant.going c.in_ok-value.ensures;
    }

pub expressions::suffixed-returns : goal.expressions::suffixed-returns
expressions::suffixed-returns g t c =
    let past : length c.args.suffixes.now ≤ c.loop-suffix.suffix-index = omega arith in
    suffixes_done _ _ _ _ _ _ _ _ c.args.suffixes.now c.loop-suffix.suffix-index c.loop-suffix.value _ _ _ past c.loop-suffix.invariant.going
    c.loop-suffix.invariant.value

pub expressions::value_of-head_value-requires : goal.expressions::value_of-head_value-requires
expressions::value_of-head_value-requires g t c κs within = (
  omega (arith, c.decreases),
  (within.0, (within.1.0, (within.1.1, ready_head c.args.code.now c.args.node.now c.args.frame.now (g.W.World.tale c.args.world.now) c.requires.ready))),
)

pub expressions::value_of-returns-in_err-head : goal.expressions::value_of-returns-in_err-head
expressions::value_of-returns-in_err-head g t c =
    let out = err_from_is_err_and c.from_residual.result c.from_residual.ensures.1 in
    rw (out.1, out.2) (head_stopped c.in_err-head.field-0.0 _ c.args.code.now.functions.now c.args.levels c.args.node.now _ _ _ _ _ _ c.in_err-head.ensures)

pub expressions::value_of-suffixed-requires : goal.expressions::value_of-suffixed-requires
expressions::value_of-suffixed-requires g t c κs within = (
  omega (arith, c.decreases),
  (
    within.0,
    (
      within.1.0,
      (
        within.1.1,
        (
          walked_proper _ _ _ _ IsProperValue _ c.in_ok-head.head _ _ _ _ _ _ c.in_ok-head.ensures,
          ready_suffixes c.args.code.now c.args.code.now.functions.now c.args.levels c.args.node.now c.as_slice.result.now c.in_ok-head.head _ _ _ _ _ _
              c.requires.ready c.as_slice.ensures c.in_ok-head.ensures,
        ),
      ),
    ),
  ),
)

pub expressions::value_of-returns : goal.expressions::value_of-returns
expressions::value_of-returns g t c =
    value_whole _ c.args.code.now.functions.now c.args.levels c.args.node.now c.as_slice.result.now c.in_ok-head.head _ _ _ _ _ _ _ _ _ _ c.as_slice.ensures
    c.in_ok-head.ensures c.suffixed.ensures

pub expressions::values_of_parts-loop-part-init : goal.expressions::values_of_parts-loop-part-init
expressions::values_of_parts-loop-part-init g t c =
    record {
      values = values_none (g.W.World.tale c.args.world.now).by c.new-operands.result c.new-operands.ensures;
      going = parts_begun _
          c.args.code.now.functions.now c.args.levels c.args.parts.now c.new-operands.result c.args.frame.now _ _ c.new-operands.ensures refl
          c.requires.ready.proper;
    }

pub expressions::values_of_parts-value_of-requires : goal.expressions::values_of_parts-value_of-requires
expressions::values_of_parts-value_of-requires g t c κs within = (
  omega (arith, c.decreases, opened_within c.part-item.result.opens c.args.levels c.in_ok-inner.inner c.in_ok-inner.ensures.inner),
  (
    within.0,
    (
      within.1.0,
      (
        within.1.1,
        ready_item c.args.code.now part_uses part_cost c.args.parts.now c.loop-part.part-index c.part-item.result _ _ _ _ _
            _ _ _ _ _ c.requires.ready c.loop-part.invariant.going c.loop-part-test.true c.part-item.is,
      ),
    ),
  ),
)

pub expressions::values_of_parts-returns-in_err-inner : goal.expressions::values_of_parts-returns-in_err-inner
expressions::values_of_parts-returns-in_err-inner g t c =
    let none = c.in_err-inner.ensures.none in
    let out = err_from_is_err_and c.from_residual.result c.from_residual.ensures.1 in
    rw (out.1, out.2, none.0) (operand_stopped (stop.Fault Depth) _ _ _ _ _ _ _ _ part_act part_cost _ c.args.parts.now c.loop-part.part-index
    c.part-item.result c.loop-part.operands _ _ _ _ _ _ c.loop-part-test.true c.part-item.is c.loop-part.invariant.going
    (walked_shut _ c.args.code.now.functions.now c.part-item.result c.args.levels c.loop-part.frame _ _ none.1 refl
    (subst (λ b. AreProper b c.loop-part.frame.locals) (sym c.loop-part.invariant.going.same) c.loop-part.invariant.going.locals)))

pub expressions::values_of_parts-returns-in_err-operand : goal.expressions::values_of_parts-returns-in_err-operand
expressions::values_of_parts-returns-in_err-operand g t c =
    let out = err_from_is_err_and c.from_residual-in_err-operand.result c.from_residual-in_err-operand.ensures.1 in
    rw (out.1, out.2) (operand_stopped c.in_err-operand.field-0.0 _ _ _ _ _ _ _ _ part_act part_cost _ c.args.parts.now c.loop-part.part-index
    c.part-item.result c.loop-part.operands _ _ _ _ _ _ c.loop-part-test.true c.part-item.is c.loop-part.invariant.going
    (walked_part _ c.args.code.now.functions.now c.part-item.result c.args.levels c.in_ok-inner.inner _ _ _ _ _ _ _ c.in_ok-inner.ensures.inner
    c.in_err-operand.ensures))

pub expressions::values_of_parts-returns-in_err-push : goal.expressions::values_of_parts-returns-in_err-push
expressions::values_of_parts-returns-in_err-push g t c =
    let walked = walked_part _ c.args.code.now.functions.now c.part-item.result c.args.levels c.in_ok-inner.inner _ _ _ _ _ _ _ c.in_ok-inner.ensures.inner
    c.in_ok-operand.ensures in
    let out = err_from_is_err_and c.from_residual-in_err-push.result c.from_residual-in_err-push.ensures.1 in
    rw (out.1, out.2) (operand_lost _ _ _ _ _ _ _ _ part_act part_cost _ c.args.parts.now c.loop-part.part-index c.part-item.result c.loop-part.operands
    c.in_ok-operand.operand _ _ _ _ _ _ c.loop-part-test.true c.part-item.is c.loop-part.invariant.going walked)

pub expressions::values_of_parts-loop-part-preserved : goal.expressions::values_of_parts-loop-part-preserved
expressions::values_of_parts-loop-part-preserved g t c =
    let walked = walked_part _ c.args.code.now.functions.now c.part-item.result c.args.levels c.in_ok-inner.inner _ _ _ _ _ _ _ c.in_ok-inner.ensures.inner
    c.in_ok-operand.ensures in
    record {
      values = one_more c.loop-part.part-index _ _ c.loop-part.operands c.push.new.self c.in_ok-operand.operand c.loop-part.invariant.values
          c.in_ok-operand.ensures.same (walked_proper _ _ _ _ IsProperValue _ c.in_ok-operand.operand _ _ _ _ _ _ c.in_ok-operand.ensures)
          c.in_ok-push.ensures.ok;
      going = operand_kept _ _ _ _ _ _ _ _ part_act part_cost c.args.parts.now c.loop-part.part-index c.part-item.result c.loop-part.operands c.push.new.self
          c.in_ok-operand.operand _ _ _ _ _ _ c.loop-part-test.true c.part-item.is c.in_ok-push.ensures.ok c.loop-part.invariant.going walked;
    }

pub expressions::values_of_parts-returns : goal.expressions::values_of_parts-returns
expressions::values_of_parts-returns g t c =
    let past : length c.args.parts.now ≤ c.loop-part.part-index = omega arith in
    let count : c.loop-part.part-index ≡ length c.args.parts.now = omega arith in
    operands_done _ _ _ _ _ _ _ _ part_act part_cost (AreValues (length c.args.parts.now)) c.args.parts.now c.loop-part.part-index c.loop-part.operands _ _ _
    past c.loop-part.invariant.going (subst (λ n. AreValues n (g.W.World.tale c.loop-part.world).by c.loop-part.operands) count c.loop-part.invariant.values)

pub expressions::with_arguments-loop-arg-init : goal.expressions::with_arguments-loop-arg-init
expressions::with_arguments-loop-arg-init g t c =
    record {
      values = after_none (g.W.World.tale c.args.world.now).by c.args.operands c.requires.operands;
      going = going_start _ _ _ _ _ _ _ _ refl
          c.requires.ready.proper;
    }

pub expressions::with_arguments-value_of-requires : goal.expressions::with_arguments-value_of-requires
expressions::with_arguments-value_of-requires g t c κs within = (
  omega (arith, c.decreases),
  (
    within.0,
    (
      within.1.0,
      (
        within.1.1,
        ready_item c.args.code.now node_uses node_cost c.args.args.now c.loop-arg.arg-index c.arg-item.result _ _ _ _ _ _ _
            _ _ _ c.requires.ready c.loop-arg.invariant.going c.loop-arg-test.true c.arg-item.is,
      ),
    ),
  ),
)

pub expressions::with_arguments-returns-in_err-value : goal.expressions::with_arguments-returns-in_err-value
expressions::with_arguments-returns-in_err-value g t c =
    let out = err_from_is_err_and c.from_residual.result c.from_residual.ensures.1 in
    rw (out.1, out.2) (operand_stopped c.in_err-value.field-0.0 _ _ _ _ _ _ _ _ node_act node_cost _ c.args.args.now c.loop-arg.arg-index c.arg-item.result
    c.loop-arg.values _ _ _ _ _ _ c.loop-arg-test.true c.arg-item.is c.loop-arg.invariant.going c.in_err-value.ensures)

pub expressions::with_arguments-returns-in_err-push : goal.expressions::with_arguments-returns-in_err-push
expressions::with_arguments-returns-in_err-push g t c =
    let out = err_from_is_err_and c.from_residual-in_err-push.result c.from_residual-in_err-push.ensures.1 in
    rw (out.1, out.2) (operand_lost _ _ _ _ _ _ _ _ node_act node_cost _ c.args.args.now c.loop-arg.arg-index c.arg-item.result c.loop-arg.values
    c.in_ok-value.value _ _ _ _ _ _ c.loop-arg-test.true c.arg-item.is c.loop-arg.invariant.going c.in_ok-value.ensures)

pub expressions::with_arguments-loop-arg-preserved : goal.expressions::with_arguments-loop-arg-preserved
expressions::with_arguments-loop-arg-preserved g t c =
    record {
      values = after_more c.args.operands c.loop-arg.arg-index _ _ c.loop-arg.values c.push.new.self c.in_ok-value.value c.loop-arg.invariant.values
          c.in_ok-value.ensures.same (walked_proper _ _ _ _ IsProperValue _ c.in_ok-value.value _ _ _ _ _ _ c.in_ok-value.ensures) c.in_ok-push.ensures.ok;
      going = operand_kept _ _ _ _ _ _ _ _ node_act node_cost c.args.args.now c.loop-arg.arg-index c.arg-item.result c.loop-arg.values c.push.new.self
          c.in_ok-value.value _ _ _ _ _ _ c.loop-arg-test.true c.arg-item.is c.in_ok-push.ensures.ok c.loop-arg.invariant.going c.in_ok-value.ensures;
    }

pub expressions::with_arguments-returns : goal.expressions::with_arguments-returns
expressions::with_arguments-returns g t c =
    let past : length c.args.args.now ≤ c.loop-arg.arg-index = omega arith in
    let count : c.loop-arg.arg-index ≡ length c.args.args.now = omega arith in
    operands_done _ _ _ _ _ _ _ _ node_act node_cost (AreAfter c.args.operands (length c.args.args.now)) c.args.args.now c.loop-arg.arg-index
    c.loop-arg.values _ _ _ past c.loop-arg.invariant.going (subst (λ n. AreAfter c.args.operands n (g.W.World.tale c.loop-arg.world).by c.loop-arg.values)
    count c.loop-arg.invariant.values)

pub statements::run_steps-loop-step-init : goal.statements::run_steps-loop-step-init
statements::run_steps-loop-step-init g t c = record {
  going = going_start _ _ _ (λ a. steps_act (map (step_act a) c.args.steps.now) c.args.levels c.args.frame.now) (sum (map step_cost c.args.steps.now))
      c.args.frame.now _ _ refl c.requires.ready.proper;
}

pub statements::run_steps-run_step-requires : goal.statements::run_steps-run_step-requires
statements::run_steps-run_step-requires g t c κs within = (
  omega (arith, c.decreases),
  (
    within.0,
    (
      within.1.0,
      (
        within.1.1,
        ready_item c.args.code.now step_uses step_cost c.args.steps.now c.loop-step.step-index c.step-item.result _ _ _ _ _ _ _ _ _ _
            c.requires.ready c.loop-step.invariant.going c.loop-step-test.true c.step-item.is,
      ),
    ),
  ),
)

pub statements::run_steps-returns-in_err-run_step : goal.statements::run_steps-returns-in_err-run_step
statements::run_steps-returns-in_err-run_step g t c =
    let out = err_from_is_err_and c.from_residual.result c.from_residual.ensures.1 in
    rw (out.1, out.2) (step_stopped c.in_err-run_step.field-0.0 _ _ _ _ (sum (map step_cost c.args.steps.now)) _ _ _ c.args.steps.now c.loop-step.step-index
    c.step-item.result _ _ _ _ _ _
    c.loop-step-test.true c.step-item.is c.loop-step.invariant.going c.in_err-run_step.ensures)

pub statements::run_steps-returns-in-Returned : goal.statements::run_steps-returns-in-Returned
statements::run_steps-returns-in-Returned g t c =
    step_returned _ _ _ _ (sum (map step_cost c.args.steps.now)) _ _ _ c.args.steps.now c.loop-step.step-index c.step-item.result c.in_ok-run_step.field-0
    c.in-Returned.value _ _ _ _ _ _
    c.loop-step-test.true c.step-item.is c.in-Returned.is c.loop-step.invariant.going c.in_ok-run_step.ensures

pub statements::run_steps-loop-step-preserved : goal.statements::run_steps-loop-step-preserved
statements::run_steps-loop-step-preserved g t c = record {
  going = step_kept _ _ _ _ (sum (map step_cost c.args.steps.now)) _ _ _ c.args.steps.now c.loop-step.step-index c.step-item.result c.in_ok-run_step.field-0 _
      _ _ _ _ _
      c.loop-step-test.true c.step-item.is c.in-Next.is c.loop-step.invariant.going c.in_ok-run_step.ensures;
}

pub statements::run_steps-returns : goal.statements::run_steps-returns
statements::run_steps-returns g t c =
    steps_done _ _ _ _ (sum (map step_cost c.args.steps.now)) _ _ _ c.args.steps.now c.loop-step.step-index _ _ _ c.loop-step-test.false
    c.loop-step.invariant.going

pub statements::run_steps-loop-step-smaller : goal.statements::run_steps-loop-step-smaller
statements::run_steps-loop-step-smaller g t c = omega (arith, c.loop-step-test.true)

pub statements::run_block-returns-in_err-inner : goal.statements::run_block-returns-in_err-inner
statements::run_block-returns-in_err-inner g t c =
    let out = err_from_is_err_and c.from_residual.result c.from_residual.ensures.1 in
    rw (out.1, out.2) (block_deep _ _ _ c.args.block.now _ _ _ _ c.in_err-inner.ensures.none.0 c.in_err-inner.ensures.none.1 refl c.requires.ready.proper)

pub statements::run_block-run_steps-requires : goal.statements::run_block-run_steps-requires
statements::run_block-run_steps-requires g t c κs within = (
  omega (arith, c.decreases, c.in_ok-inner.ensures.inner),
  (
    within.0,
    (
      within.1.0,
      (
        within.1.1,
        ready_block c.args.code.now c.args.block.now c.as_slice.result.now c.args.frame.now (g.W.World.tale c.args.world.now) c.as_slice.ensures
            c.requires.ready,
      ),
    ),
  ),
)

pub statements::run_block-returns : goal.statements::run_block-returns
statements::run_block-returns g t c =
    block_walked _ _ _ c.in_ok-inner.inner c.args.block.now c.as_slice.result.now _ _ _ _ _ _ _ c.as_slice.ensures c.in_ok-inner.ensures.inner
    c.run_steps.ensures

pub statements::test_of-value_of-requires : goal.statements::test_of-value_of-requires
statements::test_of-value_of-requires g t c κs within = (
  omega (arith, c.decreases),
  (
    within.0,
    (
      within.1.0,
      (
        within.1.1,
        ready_value c.args.code.now c.args.site c.args.test.now c.args.frame.now (g.W.World.tale c.args.world.now) c.requires.ready,
      ),
    ),
  ),
)

pub statements::test_of-returns-in_err-value : goal.statements::test_of-returns-in_err-value
statements::test_of-returns-in_err-value g t c =
    let out = err_from_is_err_and c.from_residual.result c.from_residual.ensures.1 in
    rw (out.1, out.2) (walked_stopped c.in_err-value.field-0.0 _ _ _ (λ a. node_act a c.args.test.now c.args.levels c.args.frame.now)
    (λ a v after. asks a.plan c.args.site (v ∷ []) after) IsProperValue IsProperValue
    (node_cost c.args.test.now) (node_cost c.args.test.now + 1) _ _ _ _ _ _ c.in_err-value.ensures (omega arith))

pub statements::test_of-ask-requires-clause-ready : goal.statements::test_of-ask-requires-clause-ready
statements::test_of-ask-requires-clause-ready g t c =
    ready_after c.args.code.now (AtSite c.args.site 1 ∷ node_uses c.args.test.now) (AtSite c.args.site 1 ∷ []) (node_cost c.args.test.now + 1)
    (node_cost c.args.test.now) 1 _ _
    (λ a. node_act a c.args.test.now c.args.levels c.args.frame.now) IsProperValue _ _ _ _ _ _ _ c.requires.ready c.in_ok-value.ensures
    (c.requires.ready.fits.0, tt) (omega arith)

pub statements::test_of-ask-requires-clause-proper : goal.statements::test_of-ask-requires-clause-proper
statements::test_of-ask-requires-clause-proper g t c = (
  walked_proper _ _ _ (λ a. node_act a c.args.test.now c.args.levels c.args.frame.now) IsProperValue (node_cost c.args.test.now) c.in_ok-value.value _ _ _
      _ _ _ c.in_ok-value.ensures,
  tt,
)

pub statements::test_of-returns : goal.statements::test_of-returns
statements::test_of-returns g t c =
    walked_then _ _ _ (λ a. node_act a c.args.test.now c.args.levels c.args.frame.now) (λ a v after. asks a.plan c.args.site (v ∷ []) after) IsProperValue
    IsProperValue (node_cost c.args.test.now) 1 (node_cost c.args.test.now + 1)
    c.in_ok-value.value _ _ _ _ _ _ _ _ _ _ c.in_ok-value.ensures (c.ask.ensures c.args.levels c.value_of.new.printed) (omega arith)

pub statements::run_if-test_of-requires : goal.statements::run_if-test_of-requires
statements::run_if-test_of-requires g t c κs within = (
  omega (arith, c.decreases),
  (
    within.0,
    (
      within.1.0,
      (
        within.1.1,
        ready_test c.args.code.now c.args.site c.args.test.now (steps_uses c.args.yes.now ++ optional_uses c.args.no.now)
            (if_cost c.args.test.now c.args.yes.now c.args.no.now)
            c.args.frame.now (g.W.World.tale c.args.world.now) c.requires.ready (omega arith),
      ),
    ),
  ),
)

pub statements::run_if-returns-in_err-value : goal.statements::run_if-returns-in_err-value
statements::run_if-returns-in_err-value g t c =
    let out = err_from_is_err_and c.from_residual.result c.from_residual.ensures.1 in
    rw (out.1, out.2) (if_stopped c.in_err-value.field-0.0 _ _ _ c.args.site c.args.test.now c.args.yes.now c.args.no.now _ _ _ _ _ _ c.in_err-value.ensures)

pub statements::run_if-run_block-requires : goal.statements::run_if-run_block-requires
statements::run_if-run_block-requires g t c κs within = (
  omega (arith, c.decreases),
  (
    within.0,
    (
      within.1.0,
      (
        within.1.1,
        ready_yes c.args.code.now c.args.site c.args.test.now c.args.yes.now c.args.no.now c.args.levels c.in_ok-value.value _ _ _ _ _ _ c.requires.ready
            c.in_ok-value.ensures,
      ),
    ),
  ),
)

pub statements::run_if-returns-then-is_true : goal.statements::run_if-returns-then-is_true
statements::run_if-returns-then-is_true g t c =
    if_yes _ _ _ c.args.site c.args.test.now c.args.yes.now c.args.no.now c.in_ok-value.value _ _ _ _ _ _ _ _ _ _ (sym c.is_true.ensures ∙ c.if-is_true.true)
    c.in_ok-value.ensures c.run_block.ensures

pub statements::run_if-run_block-requires-in-Some : goal.statements::run_if-run_block-requires-in-Some
statements::run_if-run_block-requires-in-Some g t c κs within = (
  omega (arith, c.decreases),
  (
    within.0,
    (
      within.1.0,
      (
        within.1.1,
        ready_no c.args.code.now c.args.site c.args.test.now c.args.yes.now c.in-Some.block c.args.no.now c.args.levels c.in_ok-value.value _ _ _ _ _ _
            c.in-Some.is c.requires.ready c.in_ok-value.ensures,
      ),
    ),
  ),
)

pub statements::run_if-returns-in-Some : goal.statements::run_if-returns-in-Some
statements::run_if-returns-in-Some g t c =
    if_other _ _ _ c.args.site c.args.test.now c.args.yes.now c.in-Some.block c.args.no.now c.in_ok-value.value _ _ _ _ _ _ _ _ _ _ c.in-Some.is
    (sym c.is_true.ensures ∙ c.if-is_true.false) c.in_ok-value.ensures c.run_block-in-Some.ensures

pub statements::run_if-returns : goal.statements::run_if-returns
statements::run_if-returns g t c =
    if_none _ _ _ c.args.site c.args.test.now c.args.yes.now c.args.no.now c.in_ok-value.value _ _ _ _ _ _ c.in-None.is
    (sym c.is_true.ensures ∙ c.if-is_true.false) c.in_ok-value.ensures

pub statements::run_try-run_block-requires : goal.statements::run_try-run_block-requires
statements::run_try-run_block-requires g t c κs within = (
  omega (arith, c.decreases),
  (
    within.0,
    (
      within.1.0,
      (
        within.1.1,
        ready_tried c.args.code.now c.args.body.now c.args.caught.now c.args.frame.now (g.W.World.tale c.args.world.now) c.requires.ready,
      ),
    ),
  ),
)

pub statements::run_try-run_caught-requires : goal.statements::run_try-run_caught-requires
statements::run_try-run_caught-requires g t c κs within = (
  omega (arith, c.decreases),
  (
    within.0,
    (
      within.1.0,
      (
        within.1.1,
        (
          (rw c.in-Err-Fault.field-0-is at c.in-Err-Fault.ensures).proper,
          ready_caught c.args.code.now c.args.body.now c.args.caught.now c.args.levels _ _ _ _ _ _ _ c.requires.ready c.in-Err-Fault.ensures,
        ),
      ),
    ),
  ),
)

pub statements::run_try-returns-in-Err-Fault : goal.statements::run_try-returns-in-Err-Fault
statements::run_try-returns-in-Err-Fault g t c =
    walked_failed _ _ _ (λ a. block_act (body_act a c.args.body.now) c.args.levels c.args.frame.now)
    (λ a. caught_act a c.args.local c.args.caught.now c.args.levels) IsProperFlow (steps_cost c.args.body.now) (steps_cost c.args.caught.now)
    (steps_cost c.args.body.now + steps_cost c.args.caught.now)
    c.in-Err-Fault.fault _ _ _ _ _ _ _ _ _ _ (rw c.in-Err-Fault.field-0-is at c.in-Err-Fault.ensures) c.run_caught.ensures (omega arith)

pub statements::run_try-returns-in-Ok : goal.statements::run_try-returns-in-Ok
statements::run_try-returns-in-Ok g t c =
    walked_kept _ _ _ (λ a. block_act (body_act a c.args.body.now) c.args.levels c.args.frame.now)
    (λ a. caught_act a c.args.local c.args.caught.now c.args.levels) IsProperFlow (steps_cost c.args.body.now)
    (steps_cost c.args.body.now + steps_cost c.args.caught.now) c.in-Ok.flow _ _ _ _ _ _
    c.in-Ok.ensures (omega arith)

pub statements::run_try-returns-in-Err-Memory : goal.statements::run_try-returns-in-Err-Memory
statements::run_try-returns-in-Err-Memory g t c =
    walked_unended _ _ _ (λ a. block_act (body_act a c.args.body.now) c.args.levels c.args.frame.now)
    (λ a. catches (block_act (body_act a c.args.body.now) c.args.levels c.args.frame.now) (caught_act a c.args.local c.args.caught.now c.args.levels))
    IsProperFlow IsProperFlow
    (steps_cost c.args.body.now) (steps_cost c.args.body.now + steps_cost c.args.caught.now) _ _ _ _ _ _
    (rw c.in-Err-Memory.field-0-is at c.in-Err-Memory.ensures) (omega arith)

pub statements::run_caught-returns-then-not-catches : goal.statements::run_caught-returns-then-not-catches
statements::run_caught-returns-then-not-catches g t c =
    walked_passed _ _ _ (λ a. caught_act a c.args.local c.args.caught.now c.args.levels) IsProperFlow (steps_cost c.args.caught.now) c.args.fault _ _ _
    (sym c.catches.ensures ∙ c.if-not-catches.true) refl c.requires.fault c.requires.ready.proper

pub statements::run_caught-text_of-requires : goal.statements::run_caught-text_of-requires
statements::run_caught-text_of-requires g t c = c.requires.fault

pub statements::run_caught-returns-in_err-text : goal.statements::run_caught-returns-in_err-text
statements::run_caught-returns-in_err-text g t c =
    let out = err_from_is_err_and c.from_residual.result c.from_residual.ensures.1 in
    rw (out.1, out.2) (walked_lost _ _ _ (λ a. on_fault (caught_act a c.args.local c.args.caught.now c.args.levels) (Fails c.args.fault) c.args.frame.now)
    IsProperFlow (steps_cost c.args.caught.now) _ _ _ _ refl (omega arith) c.requires.ready.proper)

pub statements::run_caught-returns-in_err-put_local : goal.statements::run_caught-returns-in_err-put_local
statements::run_caught-returns-in_err-put_local g t c =
    let out = err_from_is_err_and c.from_residual-in_err-put_local.result c.from_residual-in_err-put_local.ensures.1 in
    rw (out.1, out.2) (walked_lost _ _ _ (λ a. on_fault (caught_act a c.args.local c.args.caught.now c.args.levels) (Fails c.args.fault) c.args.frame.now)
    IsProperFlow (steps_cost c.args.caught.now) _ _ _ _ refl (omega arith)
    (c.in_err-put_local.ensures.proper (g.W.World.tale c.args.world.now).by c.requires.ready.proper c.in_ok-text.ensures.proper))

pub statements::run_caught-run_block-requires : goal.statements::run_caught-run_block-requires
statements::run_caught-run_block-requires g t c κs within = (
  omega (arith, c.decreases),
  (
    within.0,
    (
      within.1.0,
      (
        within.1.1,
        ready_with c.args.code.now (steps_uses c.args.caught.now) (steps_cost c.args.caught.now) c.args.frame.now c.put_local.new.locals
            (g.W.World.tale c.args.world.now) c.requires.ready
            (c.in_ok-put_local.ensures.proper (g.W.World.tale c.args.world.now).by c.requires.ready.proper c.in_ok-text.ensures.proper),
      ),
    ),
  ),
)

pub statements::run_caught-returns : goal.statements::run_caught-returns
statements::run_caught-returns g t c =
    caught_walked _ _ _ c.args.local c.args.caught.now c.args.fault c.in_ok-text.text _ _ _ c.put_local.new.locals _ _ _ _
    (sym c.catches.ensures ∙ c.if-not-catches.false) c.in_ok-text.ensures.text c.in_ok-put_local.ensures.put c.run_block.ensures

pub statements::run_while-rounds-init : goal.statements::run_while-rounds-init
statements::run_while-rounds-init g t c = record {
  going = while_starts _ _ _ c.args.site c.args.test.now c.args.body.now c.args.frame.now _ _ refl c.requires.ready.proper;
}

pub statements::run_while-test_of-requires : goal.statements::run_while-test_of-requires
statements::run_while-test_of-requires g t c κs within = (
  omega (arith, c.decreases),
  (
    within.0,
    (
      within.1.0,
      (
        within.1.1,
        ready_round c.args.code.now c.args.levels _ _ _ _ c.args.site c.args.test.now c.args.body.now _ _ _ c.requires.ready c.rounds.invariant.going,
      ),
    ),
  ),
)

pub statements::run_while-returns-in_err-value : goal.statements::run_while-returns-in_err-value
statements::run_while-returns-in_err-value g t c =
    let out = err_from_is_err_and c.from_residual.result c.from_residual.ensures.1 in
    rw (out.1, out.2) (while_stopped c.in_err-value.field-0.0 _ _ _ _ (while_cost c.args.test.now c.args.body.now) _ _ _ c.args.site c.args.test.now
    c.args.body.now _ _ _ _ _ _ c.rounds.invariant.going c.in_err-value.ensures)

pub statements::run_while-returns-then-not-is_true : goal.statements::run_while-returns-then-not-is_true
statements::run_while-returns-then-not-is_true g t c =
    while_over _ _ _ _ (while_cost c.args.test.now c.args.body.now) _ _ _ c.args.site c.args.test.now c.args.body.now c.in_ok-value.value _ _ _ _ _ _
    (sym c.is_true.ensures ∙ c.if-not-is_true.true) c.rounds.invariant.going c.in_ok-value.ensures

pub statements::run_while-returns-in_err-frame : goal.statements::run_while-returns-in_err-frame
statements::run_while-returns-in_err-frame g t c =
    let out = err_from_is_err_and c.from_residual-in_err-frame.result c.from_residual-in_err-frame.ensures.1 in
    rw (out.1, out.2) (while_no_turn _ _ _ _ (while_cost c.args.test.now c.args.body.now) _ _ _ c.args.site c.args.test.now c.args.body.now
    c.in_ok-value.value _ _ _ _ _ _ _ (sym c.is_true.ensures ∙ c.if-not-is_true.false)
    c.in_err-frame.ensures.none.0 c.in_err-frame.ensures.none.1 c.rounds.invariant.going c.in_ok-value.ensures)

pub statements::run_while-run_block-requires : goal.statements::run_while-run_block-requires
statements::run_while-run_block-requires g t c κs within = (
  omega (arith, c.decreases),
  (
    within.0,
    (
      within.1.0,
      (
        within.1.1,
        ready_entered c.args.code.now c.args.levels _ _ _ _ c.args.site c.args.test.now c.args.body.now _ _ _ c.requires.ready
            (while_entered _ _ _ _ (while_cost c.args.test.now c.args.body.now) _ _ _ c.args.site c.args.test.now c.args.body.now c.in_ok-value.value _ _
            c.in_ok-frame.field-0 _ _ _ _ (sym c.is_true.ensures ∙ c.if-not-is_true.false)
            c.in_ok-frame.ensures.after c.requires.ready.cheap c.rounds.invariant.going c.in_ok-value.ensures),
      ),
    ),
  ),
)

pub statements::run_while-returns-in_err-run_block : goal.statements::run_while-returns-in_err-run_block
statements::run_while-returns-in_err-run_block g t c =
    let out = err_from_is_err_and c.from_residual-in_err-run_block.result c.from_residual-in_err-run_block.ensures.1 in
    rw (out.1, out.2) (while_body_stopped c.in_err-run_block.field-0.0 _ _ _ _ (while_cost c.args.test.now c.args.body.now) _ _ _ c.args.site c.args.test.now
    c.args.body.now _ _ _ _ _ _
    (while_entered _ _ _ _ (while_cost c.args.test.now c.args.body.now) _ _ _ c.args.site c.args.test.now c.args.body.now c.in_ok-value.value _ _
    c.in_ok-frame.field-0 _ _ _ _ (sym c.is_true.ensures ∙ c.if-not-is_true.false)
    c.in_ok-frame.ensures.after c.requires.ready.cheap c.rounds.invariant.going c.in_ok-value.ensures) c.in_err-run_block.ensures)

pub statements::run_while-returns-in-Returned : goal.statements::run_while-returns-in-Returned
statements::run_while-returns-in-Returned g t c =
    while_returned _ _ _ _ (while_cost c.args.test.now c.args.body.now) _ _ _ c.args.site c.args.test.now c.args.body.now c.in_ok-run_block.field-0
    c.in-Returned.answer _ _ _ _ _ _ c.in-Returned.is
    (while_entered _ _ _ _ (while_cost c.args.test.now c.args.body.now) _ _ _ c.args.site c.args.test.now c.args.body.now c.in_ok-value.value _ _
    c.in_ok-frame.field-0 _ _ _ _ (sym c.is_true.ensures ∙ c.if-not-is_true.false)
    c.in_ok-frame.ensures.after c.requires.ready.cheap c.rounds.invariant.going c.in_ok-value.ensures) c.in_ok-run_block.ensures

pub statements::run_while-rounds-preserved-in-Next : goal.statements::run_while-rounds-preserved-in-Next
statements::run_while-rounds-preserved-in-Next g t c = record {
  going = while_again _ _ _ _ (while_cost c.args.test.now c.args.body.now) _ _ _ c.args.site c.args.test.now c.args.body.now c.in_ok-run_block.field-0 _ _ _ _
      _ _ c.in-Next.is
      (while_entered _ _ _ _ (while_cost c.args.test.now c.args.body.now) _ _ _ c.args.site c.args.test.now c.args.body.now c.in_ok-value.value _ _
      c.in_ok-frame.field-0 _ _ _ _ (sym c.is_true.ensures ∙ c.if-not-is_true.false)
      c.in_ok-frame.ensures.after c.requires.ready.cheap c.rounds.invariant.going c.in_ok-value.ensures) c.in_ok-run_block.ensures;
}

pub statements::run_while-rounds-smaller-in-Next : goal.statements::run_while-rounds-smaller-in-Next
statements::run_while-rounds-smaller-in-Next g t c = omega (arith, c.in_ok-value.ensures.fewer, c.in_ok-frame.ensures.after, c.in_ok-run_block.ensures.fewer)

pub statements::run_while-rounds-preserved : goal.statements::run_while-rounds-preserved
statements::run_while-rounds-preserved g t c = record {
  going = while_again _ _ _ _ (while_cost c.args.test.now c.args.body.now) _ _ _ c.args.site c.args.test.now c.args.body.now c.in_ok-run_block.field-0 _ _ _ _
      _ _ c.in-Next.is
      (while_entered _ _ _ _ (while_cost c.args.test.now c.args.body.now) _ _ _ c.args.site c.args.test.now c.args.body.now c.in_ok-value.value _ _
      c.in_ok-frame.field-0 _ _ _ _ (sym c.is_true.ensures ∙ c.if-not-is_true.false)
      c.in_ok-frame.ensures.after c.requires.ready.cheap c.rounds.invariant.going c.in_ok-value.ensures) c.in_ok-run_block.ensures;
}

pub statements::run_while-rounds-smaller : goal.statements::run_while-rounds-smaller
statements::run_while-rounds-smaller g t c = omega (arith, c.in_ok-value.ensures.fewer, c.in_ok-frame.ensures.after, c.in_ok-run_block.ensures.fewer)

pub statements::run_step-value_of-requires : goal.statements::run_step-value_of-requires
statements::run_step-value_of-requires g t c κs within = (
  omega (arith, c.decreases),
  (
    within.0,
    (
      within.1.0,
      (
        within.1.1,
        ready_form c.args.code.now c.args.step.now (step.Set c.in-Set.local c.in-Set.value) (node_uses c.in-Set.value) (node_cost c.in-Set.value) c.args.frame.now
            (g.W.World.tale c.args.world.now) c.requires.ready c.in-Set.is (uses-step-Set c.in-Set.local c.in-Set.value)
            (cost-step-Set c.in-Set.local c.in-Set.value),
      ),
    ),
  ),
)

pub statements::run_step-value_of-requires-in-Return : goal.statements::run_step-value_of-requires-in-Return
statements::run_step-value_of-requires-in-Return g t c κs within = (
  omega (arith, c.decreases),
  (
    within.0,
    (
      within.1.0,
      (
        within.1.1,
        ready_form c.args.code.now c.args.step.now (step.Return c.in-Return.value) (node_uses c.in-Return.value) (node_cost c.in-Return.value) c.args.frame.now
            (g.W.World.tale c.args.world.now) c.requires.ready c.in-Return.is (uses-step-Return c.in-Return.value) (cost-step-Return c.in-Return.value),
      ),
    ),
  ),
)

pub statements::run_step-value_of-requires-in-Print : goal.statements::run_step-value_of-requires-in-Print
statements::run_step-value_of-requires-in-Print g t c κs within = (
  omega (arith, c.decreases),
  (
    within.0,
    (
      within.1.0,
      (
        within.1.1,
        ready_form c.args.code.now c.args.step.now (step.Print c.in-Print.value) (node_uses c.in-Print.value) (node_cost c.in-Print.value) c.args.frame.now
            (g.W.World.tale c.args.world.now) c.requires.ready c.in-Print.is (uses-step-Print c.in-Print.value) (cost-step-Print c.in-Print.value),
      ),
    ),
  ),
)

pub statements::run_step-value_of-requires-in-Plain : goal.statements::run_step-value_of-requires-in-Plain
statements::run_step-value_of-requires-in-Plain g t c κs within = (
  omega (arith, c.decreases),
  (
    within.0,
    (
      within.1.0,
      (
        within.1.1,
        ready_form c.args.code.now c.args.step.now (step.Plain c.in-Plain.value) (node_uses c.in-Plain.value) (node_cost c.in-Plain.value) c.args.frame.now
            (g.W.World.tale c.args.world.now) c.requires.ready c.in-Plain.is (uses-step-Plain c.in-Plain.value) (cost-step-Plain c.in-Plain.value),
      ),
    ),
  ),
)

pub statements::run_step-returns-in_err-value-in-Set : goal.statements::run_step-returns-in_err-value-in-Set
statements::run_step-returns-in_err-value-in-Set g t c =
    let out = err_from_is_err_and c.from_residual.result c.from_residual.ensures.1 in
    rw (out.1, out.2) (value_stopped c.in_err-value-in-Set.field-0.0 _ _ _ c.args.step.now (step.Set c.in-Set.local c.in-Set.value) c.in-Set.value
    (sets c.in-Set.local) _ _ _ _ _ _
    c.in-Set.is (λ a. act-step-Set a c.in-Set.local c.in-Set.value) (cost-step-Set c.in-Set.local c.in-Set.value) c.in_err-value-in-Set.ensures)

pub statements::run_step-returns-in_err-value-in-Return : goal.statements::run_step-returns-in_err-value-in-Return
statements::run_step-returns-in_err-value-in-Return g t c =
    let out = err_from_is_err_and c.from_residual-in_err-value-in-Return.result c.from_residual-in_err-value-in-Return.ensures.1 in
    rw (out.1, out.2) (value_stopped c.in_err-value-in-Return.field-0.0 _ _ _ c.args.step.now (step.Return c.in-Return.value) c.in-Return.value returns _ _ _
    _ _ _
    c.in-Return.is (λ a. act-step-Return a c.in-Return.value) (cost-step-Return c.in-Return.value) c.in_err-value-in-Return.ensures)

pub statements::run_step-returns-in_err-value-in-Print : goal.statements::run_step-returns-in_err-value-in-Print
statements::run_step-returns-in_err-value-in-Print g t c =
    let out = err_from_is_err_and c.from_residual-in_err-value-in-Print.result c.from_residual-in_err-value-in-Print.ensures.1 in
    rw (out.1, out.2) (value_stopped c.in_err-value-in-Print.field-0.0 _ _ _ c.args.step.now (step.Print c.in-Print.value) c.in-Print.value prints _ _ _ _ _ _
    c.in-Print.is (λ a. act-step-Print a c.in-Print.value) (cost-step-Print c.in-Print.value) c.in_err-value-in-Print.ensures)

pub statements::run_step-returns-in_err-value_of-in-Plain : goal.statements::run_step-returns-in_err-value_of-in-Plain
statements::run_step-returns-in_err-value_of-in-Plain g t c =
    let out = err_from_is_err_and c.from_residual-in_err-value_of-in-Plain.result c.from_residual-in_err-value_of-in-Plain.ensures.1 in
    rw (out.1, out.2) (value_stopped c.in_err-value_of-in-Plain.field-0.0 _ _ _ c.args.step.now (step.Plain c.in-Plain.value) c.in-Plain.value
    (λ a. next_after) _ _ _ _ _ _
    c.in-Plain.is (λ a. act-step-Plain a c.in-Plain.value) (cost-step-Plain c.in-Plain.value) c.in_err-value_of-in-Plain.ensures)

pub statements::run_step-returns-in_err-put_local-in-Set : goal.statements::run_step-returns-in_err-put_local-in-Set
statements::run_step-returns-in_err-put_local-in-Set g t c =
    let out = err_from_is_err_and c.from_residual-in_err-put_local-in-Set.result c.from_residual-in_err-put_local-in-Set.ensures.1 in
    rw (out.1, out.2) (set_lost _ _ _ c.args.step.now c.in-Set.local c.in-Set.value c.in_ok-value-in-Set.value _ _ c.put_local.new.locals _ _ _ _ c.in-Set.is
    c.in_err-put_local-in-Set.ensures.proper c.in_ok-value-in-Set.ensures)

pub statements::run_step-returns-in_ok-put_local-in-Set : goal.statements::run_step-returns-in_ok-put_local-in-Set
statements::run_step-returns-in_ok-put_local-in-Set g t c =
    set_whole _ _ _ c.args.step.now c.in-Set.local c.in-Set.value c.in_ok-value-in-Set.value _ _ c.put_local.new.locals _ _ _ _ c.in-Set.is
    c.in_ok-put_local-in-Set.ensures.put c.in_ok-put_local-in-Set.ensures.proper c.in_ok-value-in-Set.ensures

pub statements::run_step-returns-in_ok-value-in-Return : goal.statements::run_step-returns-in_ok-value-in-Return
statements::run_step-returns-in_ok-value-in-Return g t c =
    return_whole _ _ _ c.args.step.now c.in-Return.value c.in_ok-value-in-Return.value _ _ _ _ _ _ c.in-Return.is c.in_ok-value-in-Return.ensures

pub statements::run_step-returns-in_ok-value_of-in-Plain : goal.statements::run_step-returns-in_ok-value_of-in-Plain
statements::run_step-returns-in_ok-value_of-in-Plain g t c =
    plain_whole _ _ _ c.args.step.now c.in-Plain.value c.in_ok-value_of-in-Plain.field-0 _ _ _ _ _ _ c.in-Plain.is c.in_ok-value_of-in-Plain.ensures

pub statements::run_step-returns-in_err-to_text-in-Print : goal.statements::run_step-returns-in_err-to_text-in-Print
statements::run_step-returns-in_err-to_text-in-Print g t c =
    let out = err_from_is_err_and c.from_residual-in_err-to_text-in-Print.result c.from_residual-in_err-to_text-in-Print.ensures.1 in
    rw (out.1, out.2) (print_lost _ _ _ c.args.step.now c.in-Print.value c.in_ok-value-in-Print.value _ _ _ _ _ _ _ c.in-Print.is refl
    c.in_ok-value-in-Print.ensures)

pub statements::run_step-returns-in_err-push-in-Print : goal.statements::run_step-returns-in_err-push-in-Print
statements::run_step-returns-in_err-push-in-Print g t c =
    let out = err_from_is_err_and c.from_residual-in_err-push-in-Print.result c.from_residual-in_err-push-in-Print.ensures.1 in
    rw (out.1, out.2) (print_lost _ _ _ c.args.step.now c.in-Print.value c.in_ok-value-in-Print.value _ _ _ _ _ _ _ c.in-Print.is
    c.in_err-push-in-Print.ensures.refused c.in_ok-value-in-Print.ensures)

pub statements::run_step-returns-in_ok-push-in-Print : goal.statements::run_step-returns-in_ok-push-in-Print
statements::run_step-returns-in_ok-push-in-Print g t c =
    print_whole _ _ _ c.args.step.now c.in-Print.value c.in_ok-value-in-Print.value _ _ _ _ _ _ _ _ c.in-Print.is c.in_ok-to_text-in-Print.ensures.characters
    c.in_ok-push-in-Print.ensures.ok c.in_ok-value-in-Print.ensures

pub statements::run_step-run_if-requires : goal.statements::run_step-run_if-requires
statements::run_step-run_if-requires g t c κs within = (
  omega (arith, c.decreases),
  (
    within.0,
    (
      within.1.0,
      (
        within.1.1,
        ready_form c.args.code.now c.args.step.now (step.If c.in-If.site c.in-If.test c.in-If.yes c.in-If.no)
            (if_uses c.in-If.site c.in-If.test c.in-If.yes c.in-If.no) (if_cost c.in-If.test c.in-If.yes c.in-If.no) c.args.frame.now
            (g.W.World.tale c.args.world.now) c.requires.ready c.in-If.is (uses_if c.in-If.site c.in-If.test c.in-If.yes c.in-If.no)
            (cost_if c.in-If.site c.in-If.test c.in-If.yes c.in-If.no),
      ),
    ),
  ),
)

pub statements::run_step-returns-in-If : goal.statements::run_step-returns-in-If
statements::run_step-returns-in-If g t c =
    if_whole _ _ _ c.args.step.now c.in-If.site c.in-If.test c.in-If.yes c.in-If.no _ _ _ _ _ _ _ c.in-If.is c.run_if.ensures

pub statements::run_step-run_while-requires : goal.statements::run_step-run_while-requires
statements::run_step-run_while-requires g t c κs within = (
  omega (arith, c.decreases),
  (
    within.0,
    (
      within.1.0,
      (
        within.1.1,
        ready_form c.args.code.now c.args.step.now (step.While c.in-While.site c.in-While.test c.in-While.body)
            (while_uses c.in-While.site c.in-While.test c.in-While.body) (while_cost c.in-While.test c.in-While.body) c.args.frame.now
            (g.W.World.tale c.args.world.now) c.requires.ready c.in-While.is (uses-step-While c.in-While.site c.in-While.test c.in-While.body)
            (cost-step-While c.in-While.site c.in-While.test c.in-While.body),
      ),
    ),
  ),
)

pub statements::run_step-returns-in-While : goal.statements::run_step-returns-in-While
statements::run_step-returns-in-While g t c =
    while_whole _ _ _ c.args.step.now c.in-While.site c.in-While.test c.in-While.body _ _ _ _ _ _ _ c.in-While.is c.run_while.ensures

pub statements::run_step-run_try-requires : goal.statements::run_step-run_try-requires
statements::run_step-run_try-requires g t c κs within = (
  omega (arith, c.decreases),
  (
    within.0,
    (
      within.1.0,
      (
        within.1.1,
        ready_form c.args.code.now c.args.step.now (step.Try c.in-Try.body c.in-Try.local c.in-Try.caught)
            (steps_uses c.in-Try.body ++ steps_uses c.in-Try.caught) (steps_cost c.in-Try.body + steps_cost c.in-Try.caught) c.args.frame.now
            (g.W.World.tale c.args.world.now) c.requires.ready c.in-Try.is (uses-step-Try c.in-Try.body c.in-Try.local c.in-Try.caught)
            (cost-step-Try c.in-Try.body c.in-Try.local c.in-Try.caught),
      ),
    ),
  ),
)

pub statements::run_step-returns-in-Try : goal.statements::run_step-returns-in-Try
statements::run_step-returns-in-Try g t c =
    try_whole _ _ _ c.args.step.now c.in-Try.body c.in-Try.local c.in-Try.caught _ _ _ _ _ _ _ c.in-Try.is c.run_try.ensures

pub statements::run_step-operation-requires : goal.statements::run_step-operation-requires
statements::run_step-operation-requires g t c κs within =
    let target_part : Part = record { node = record { ref_ptr = c.args.step.ref_ptr; now = c.in-SetMember.target }; opens = false } in
    let value_part : Part = record { node = record { ref_ptr = c.args.step.ref_ptr; now = c.in-SetMember.value }; opens = false } in (
      omega (arith, c.decreases),
      (
        within.0,
        (
          within.1.0,
          (
            within.1.1,
            ready_form c.args.code.now c.args.step.now (step.SetMember c.in-SetMember.site c.in-SetMember.target c.in-SetMember.value)
                (AtSite c.in-SetMember.site 2 ∷ flat_map part_uses (target_part ∷ value_part ∷ [])) (sum (map part_cost (target_part ∷ value_part ∷ [])) + 1)
                c.args.frame.now (g.W.World.tale c.args.world.now) c.requires.ready c.in-SetMember.is
                (uses_set_member c.in-SetMember.site c.in-SetMember.target c.in-SetMember.value target_part value_part refl refl)
                (cost_set_member c.in-SetMember.site c.in-SetMember.target c.in-SetMember.value target_part value_part refl refl),
          ),
        ),
      ),
    )

pub statements::run_step-returns-in_err-operation-in-SetMember : goal.statements::run_step-returns-in_err-operation-in-SetMember
statements::run_step-returns-in_err-operation-in-SetMember g t c =
    let target_part : Part = record { node = record { ref_ptr = c.args.step.ref_ptr; now = c.in-SetMember.target }; opens = false } in
    let value_part : Part = record { node = record { ref_ptr = c.args.step.ref_ptr; now = c.in-SetMember.value }; opens = false } in
    let out = err_from_is_err_and c.from_residual-in_err-operation-in-SetMember.result c.from_residual-in_err-operation-in-SetMember.ensures.1 in
    rw (out.1, out.2) (step_unoperated c.in_err-operation-in-SetMember.field-0.0 _ _ _ c.args.step.now
    (step.SetMember c.in-SetMember.site c.in-SetMember.target c.in-SetMember.value) c.in-SetMember.site (target_part ∷ value_part ∷ []) _ _ _ _ _ _
    c.in-SetMember.is (λ a. act_set_member a c.in-SetMember.site c.in-SetMember.target c.in-SetMember.value target_part value_part refl refl refl refl)
    (cost_set_member c.in-SetMember.site c.in-SetMember.target c.in-SetMember.value target_part value_part refl refl) c.in_err-operation-in-SetMember.ensures)

pub statements::run_step-returns-in_ok-operation-in-SetMember : goal.statements::run_step-returns-in_ok-operation-in-SetMember
statements::run_step-returns-in_ok-operation-in-SetMember g t c =
    let target_part : Part = record { node = record { ref_ptr = c.args.step.ref_ptr; now = c.in-SetMember.target }; opens = false } in
    let value_part : Part = record { node = record { ref_ptr = c.args.step.ref_ptr; now = c.in-SetMember.value }; opens = false } in
    step_operated _ _ _ c.args.step.now (step.SetMember c.in-SetMember.site c.in-SetMember.target c.in-SetMember.value) c.in-SetMember.site
    (target_part ∷ value_part ∷ []) c.in_ok-operation-in-SetMember.field-0 _ _ _ _ _ _
    c.in-SetMember.is (λ a. act_set_member a c.in-SetMember.site c.in-SetMember.target c.in-SetMember.value target_part value_part refl refl refl refl)
    (cost_set_member c.in-SetMember.site c.in-SetMember.target c.in-SetMember.value target_part value_part refl refl) c.in_ok-operation-in-SetMember.ensures

pub statements::run_step-operation-requires-in-SetIndex : goal.statements::run_step-operation-requires-in-SetIndex
statements::run_step-operation-requires-in-SetIndex g t c κs within =
    let target_part : Part = record { node = record { ref_ptr = c.args.step.ref_ptr; now = c.in-SetIndex.target }; opens = false } in
    let key_part : Part = record { node = record { ref_ptr = c.args.step.ref_ptr; now = c.in-SetIndex.key }; opens = true } in
    let value_part : Part = record { node = record { ref_ptr = c.args.step.ref_ptr; now = c.in-SetIndex.value }; opens = false } in (
      omega (arith, c.decreases),
      (
        within.0,
        (
          within.1.0,
          (
            within.1.1,
            ready_form c.args.code.now c.args.step.now (step.SetIndex c.in-SetIndex.site c.in-SetIndex.target c.in-SetIndex.key c.in-SetIndex.value)
                (AtSite c.in-SetIndex.site 3 ∷ flat_map part_uses (target_part ∷ key_part ∷ value_part ∷ []))
                (sum (map part_cost (target_part ∷ key_part ∷ value_part ∷ [])) + 1) c.args.frame.now (g.W.World.tale c.args.world.now) c.requires.ready c.in-SetIndex.is
                (uses_set_index c.in-SetIndex.site c.in-SetIndex.target c.in-SetIndex.key c.in-SetIndex.value target_part key_part value_part refl refl refl)
                (cost_set_index c.in-SetIndex.site c.in-SetIndex.target c.in-SetIndex.key c.in-SetIndex.value target_part key_part value_part refl refl refl),
          ),
        ),
      ),
    )

pub statements::run_step-returns-in_err-operation-in-SetIndex : goal.statements::run_step-returns-in_err-operation-in-SetIndex
statements::run_step-returns-in_err-operation-in-SetIndex g t c =
    let target_part : Part = record { node = record { ref_ptr = c.args.step.ref_ptr; now = c.in-SetIndex.target }; opens = false } in
    let key_part : Part = record { node = record { ref_ptr = c.args.step.ref_ptr; now = c.in-SetIndex.key }; opens = true } in
    let value_part : Part = record { node = record { ref_ptr = c.args.step.ref_ptr; now = c.in-SetIndex.value }; opens = false } in
    let out = err_from_is_err_and c.from_residual-in_err-operation-in-SetIndex.result c.from_residual-in_err-operation-in-SetIndex.ensures.1 in
    rw (out.1, out.2) (step_unoperated c.in_err-operation-in-SetIndex.field-0.0 _ _ _ c.args.step.now
    (step.SetIndex c.in-SetIndex.site c.in-SetIndex.target c.in-SetIndex.key c.in-SetIndex.value) c.in-SetIndex.site
    (target_part ∷ key_part ∷ value_part ∷ []) _ _ _ _ _ _
    c.in-SetIndex.is (λ a. act_set_index a c.in-SetIndex.site c.in-SetIndex.target c.in-SetIndex.key c.in-SetIndex.value target_part key_part value_part refl
    refl refl refl refl refl) (cost_set_index c.in-SetIndex.site c.in-SetIndex.target c.in-SetIndex.key c.in-SetIndex.value target_part key_part value_part
    refl refl refl) c.in_err-operation-in-SetIndex.ensures)

pub statements::run_step-returns-in_ok-operation-in-SetIndex : goal.statements::run_step-returns-in_ok-operation-in-SetIndex
statements::run_step-returns-in_ok-operation-in-SetIndex g t c =
    let target_part : Part = record { node = record { ref_ptr = c.args.step.ref_ptr; now = c.in-SetIndex.target }; opens = false } in
    let key_part : Part = record { node = record { ref_ptr = c.args.step.ref_ptr; now = c.in-SetIndex.key }; opens = true } in
    let value_part : Part = record { node = record { ref_ptr = c.args.step.ref_ptr; now = c.in-SetIndex.value }; opens = false } in
    step_operated _ _ _ c.args.step.now (step.SetIndex c.in-SetIndex.site c.in-SetIndex.target c.in-SetIndex.key c.in-SetIndex.value) c.in-SetIndex.site
    (target_part ∷ key_part ∷ value_part ∷ []) c.in_ok-operation-in-SetIndex.field-0 _ _ _ _ _ _
    c.in-SetIndex.is (λ a. act_set_index a c.in-SetIndex.site c.in-SetIndex.target c.in-SetIndex.key c.in-SetIndex.value target_part key_part value_part refl
    refl refl refl refl refl) (cost_set_index c.in-SetIndex.site c.in-SetIndex.target c.in-SetIndex.key c.in-SetIndex.value target_part key_part value_part
    refl refl refl) c.in_ok-operation-in-SetIndex.ensures

pub statements::run_step-operation-requires-in-DeleteMember : goal.statements::run_step-operation-requires-in-DeleteMember
statements::run_step-operation-requires-in-DeleteMember g t c κs within =
    let target_part : Part = record { node = record { ref_ptr = c.args.step.ref_ptr; now = c.in-DeleteMember.target }; opens = false } in (
      omega (arith, c.decreases),
      (
        within.0,
        (
          within.1.0,
          (
            within.1.1,
            ready_form c.args.code.now c.args.step.now (step.DeleteMember c.in-DeleteMember.site c.in-DeleteMember.target)
                (AtSite c.in-DeleteMember.site 1 ∷ flat_map part_uses (target_part ∷ [])) (sum (map part_cost (target_part ∷ [])) + 1) c.args.frame.now
                (g.W.World.tale c.args.world.now) c.requires.ready c.in-DeleteMember.is
                (uses_delete_member c.in-DeleteMember.site c.in-DeleteMember.target target_part refl)
                (cost_delete_member c.in-DeleteMember.site c.in-DeleteMember.target target_part refl),
          ),
        ),
      ),
    )

pub statements::run_step-returns-in_err-operation-in-DeleteMember : goal.statements::run_step-returns-in_err-operation-in-DeleteMember
statements::run_step-returns-in_err-operation-in-DeleteMember g t c =
    let target_part : Part = record { node = record { ref_ptr = c.args.step.ref_ptr; now = c.in-DeleteMember.target }; opens = false } in
    let out = err_from_is_err_and c.from_residual-in_err-operation-in-DeleteMember.result c.from_residual-in_err-operation-in-DeleteMember.ensures.1 in
    rw (out.1, out.2) (step_unoperated c.in_err-operation-in-DeleteMember.field-0.0 _ _ _ c.args.step.now
    (step.DeleteMember c.in-DeleteMember.site c.in-DeleteMember.target) c.in-DeleteMember.site (target_part ∷ []) _ _ _ _ _ _
    c.in-DeleteMember.is (λ a. act_delete_member a c.in-DeleteMember.site c.in-DeleteMember.target target_part refl refl)
    (cost_delete_member c.in-DeleteMember.site c.in-DeleteMember.target target_part refl) c.in_err-operation-in-DeleteMember.ensures)

pub statements::run_step-returns-in_ok-operation-in-DeleteMember : goal.statements::run_step-returns-in_ok-operation-in-DeleteMember
statements::run_step-returns-in_ok-operation-in-DeleteMember g t c =
    let target_part : Part = record { node = record { ref_ptr = c.args.step.ref_ptr; now = c.in-DeleteMember.target }; opens = false } in
    step_operated _ _ _ c.args.step.now (step.DeleteMember c.in-DeleteMember.site c.in-DeleteMember.target) c.in-DeleteMember.site (target_part ∷ [])
    c.in_ok-operation-in-DeleteMember.field-0 _ _ _ _ _ _
    c.in-DeleteMember.is (λ a. act_delete_member a c.in-DeleteMember.site c.in-DeleteMember.target target_part refl refl)
    (cost_delete_member c.in-DeleteMember.site c.in-DeleteMember.target target_part refl) c.in_ok-operation-in-DeleteMember.ensures

pub statements::run_step-operation-requires-in-DeleteIndex : goal.statements::run_step-operation-requires-in-DeleteIndex
statements::run_step-operation-requires-in-DeleteIndex g t c κs within =
    let target_part : Part = record { node = record { ref_ptr = c.args.step.ref_ptr; now = c.in-DeleteIndex.target }; opens = false } in
    let key_part : Part = record { node = record { ref_ptr = c.args.step.ref_ptr; now = c.in-DeleteIndex.key }; opens = true } in (
      omega (arith, c.decreases),
      (
        within.0,
        (
          within.1.0,
          (
            within.1.1,
            ready_form c.args.code.now c.args.step.now (step.DeleteIndex c.in-DeleteIndex.site c.in-DeleteIndex.target c.in-DeleteIndex.key)
                (AtSite c.in-DeleteIndex.site 2 ∷ flat_map part_uses (target_part ∷ key_part ∷ [])) (sum (map part_cost (target_part ∷ key_part ∷ [])) + 1)
                c.args.frame.now (g.W.World.tale c.args.world.now) c.requires.ready c.in-DeleteIndex.is
                (uses_delete_index c.in-DeleteIndex.site c.in-DeleteIndex.target c.in-DeleteIndex.key target_part key_part refl refl)
                (cost_delete_index c.in-DeleteIndex.site c.in-DeleteIndex.target c.in-DeleteIndex.key target_part key_part refl refl),
          ),
        ),
      ),
    )

pub statements::run_step-returns-in_err-operation-in-DeleteIndex : goal.statements::run_step-returns-in_err-operation-in-DeleteIndex
statements::run_step-returns-in_err-operation-in-DeleteIndex g t c =
    let target_part : Part = record { node = record { ref_ptr = c.args.step.ref_ptr; now = c.in-DeleteIndex.target }; opens = false } in
    let key_part : Part = record { node = record { ref_ptr = c.args.step.ref_ptr; now = c.in-DeleteIndex.key }; opens = true } in
    let out = err_from_is_err_and c.from_residual-in_err-operation-in-DeleteIndex.result c.from_residual-in_err-operation-in-DeleteIndex.ensures.1 in
    rw (out.1, out.2) (step_unoperated c.in_err-operation-in-DeleteIndex.field-0.0 _ _ _ c.args.step.now
    (step.DeleteIndex c.in-DeleteIndex.site c.in-DeleteIndex.target c.in-DeleteIndex.key) c.in-DeleteIndex.site (target_part ∷ key_part ∷ []) _ _ _ _ _ _
    c.in-DeleteIndex.is (λ a. act_delete_index a c.in-DeleteIndex.site c.in-DeleteIndex.target c.in-DeleteIndex.key target_part key_part refl refl refl refl)
    (cost_delete_index c.in-DeleteIndex.site c.in-DeleteIndex.target c.in-DeleteIndex.key target_part key_part refl refl)
    c.in_err-operation-in-DeleteIndex.ensures)

pub statements::run_step-returns-in_ok-operation-in-DeleteIndex : goal.statements::run_step-returns-in_ok-operation-in-DeleteIndex
statements::run_step-returns-in_ok-operation-in-DeleteIndex g t c =
    let target_part : Part = record { node = record { ref_ptr = c.args.step.ref_ptr; now = c.in-DeleteIndex.target }; opens = false } in
    let key_part : Part = record { node = record { ref_ptr = c.args.step.ref_ptr; now = c.in-DeleteIndex.key }; opens = true } in
    step_operated _ _ _ c.args.step.now (step.DeleteIndex c.in-DeleteIndex.site c.in-DeleteIndex.target c.in-DeleteIndex.key) c.in-DeleteIndex.site
    (target_part ∷ key_part ∷ []) c.in_ok-operation-in-DeleteIndex.field-0 _ _ _ _ _ _
    c.in-DeleteIndex.is (λ a. act_delete_index a c.in-DeleteIndex.site c.in-DeleteIndex.target c.in-DeleteIndex.key target_part key_part refl refl refl refl)
    (cost_delete_index c.in-DeleteIndex.site c.in-DeleteIndex.target c.in-DeleteIndex.key target_part key_part refl refl)
    c.in_ok-operation-in-DeleteIndex.ensures
