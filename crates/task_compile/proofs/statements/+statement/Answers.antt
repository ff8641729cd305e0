use Rattle.std.proofs.Common.{◌≡◌, ◌≤◌, ◌+◌, ◌++◌, ◌∷◌, [], ◌∙◌, length, sym, ap, refl, subst, take, arith, length-append}
use Rattle.std.proofs.lemmas.List.{take_all}
use Rattle.std.proofs.lemmas.Result.{on_ok_weaker}
use Rattle.script_grammar.specs.declared.tree.Stmt.TheVariants as stmt
use Rattle.script_sites.specs.Sites.{expr_sites, stmt_sites}
use Rattle.task_code.specs.declared.code.Step.TheVariants as step
use Rattle.task_compile.specs.declared.names.Scope.{Scope}
use Rattle.task_compile.specs.CompiledBlocks.{AreSteps, IsOther, IsStep, IsSteps}
use Rattle.task_compile.proofs.StatementCases.{delete_index_count, delete_member_count, if_case, if_count, more_steps, set_index_count, set_member_count, try_case, try_count, while_case, while_count}
use Rattle.task_compile.proofs.StatementForms.{is_plain, is_print, is_return}
use Rattle.task_compile.proofs.StepRows.{block_next, is_steps, scope_left, scope_within, take_front}
use Rattle.task_compile.proofs.statements.+statement.Goals as goal

same_scope : (s u : Scope) → s.items ≡ u.items → s.locals ≡ u.locals → s ≡ u
same_scope s u p q = λ i. record { items = p i; locals = q i }

pub compile_block-loop-stmt-init : goal.compile_block-loop-stmt-init
compile_block-loop-stmt-init t c =
    let before = c.args.scope.now in
    record {
      items = refl;
      rows = subst (λ z. AreSteps before.items before.locals c.args.site.now (take 0 c.as_slice-stmt-items.result.now) z c.args.site.now before.locals) (sym c.new-steps.ensures) (refl, refl);
    }

pub compile_block-loop-stmt-preserved : goal.compile_block-loop-stmt-preserved
compile_block-loop-stmt-preserved t c =
    let before = c.args.scope.now in
    record {
      items = c.in_ok-compile_stmt.ensures.items ∙ c.loop-stmt.invariant.items;
      rows = more_steps before.items c.as_slice-stmt-items.result.now c.loop-stmt.stmt-index c.stmt-item.result c.loop-stmt.steps c.push.new.self c.in_ok-compile_stmt.field-0
          before.locals c.args.site.now c.loop-stmt.site c.compile_stmt.new.site c.loop-stmt.scope.locals c.compile_stmt.new.scope.locals
          (omega arith) c.stmt-item.is c.in_ok-push.ensures.ok c.in_ok-compile_stmt.ensures.sites c.in_ok-compile_stmt.ensures.locals c.loop-stmt.invariant.rows
          (subst (λ z. IsStep z c.loop-stmt.scope.locals c.loop-stmt.site c.stmt-item.result c.in_ok-compile_stmt.field-0) c.loop-stmt.invariant.items c.in_ok-compile_stmt.ensures.code);
    }

pub compile_block-leave-requires : goal.compile_block-leave-requires
compile_block-leave-requires t c =
    let before = c.args.scope.now in
    omega (arith, scope_within before.items (take c.loop-stmt.stmt-index c.as_slice-stmt-items.result.now) c.loop-stmt.steps before.locals c.args.site.now c.loop-stmt.site c.loop-stmt.scope.locals c.loop-stmt.invariant.rows)

pub compile_block-returns-clause-code : goal.compile_block-returns-clause-code
compile_block-returns-clause-code t c =
    let before = c.args.scope.now in
    let rows = subst (λ z. AreSteps before.items before.locals c.args.site.now z c.loop-stmt.steps c.loop-stmt.site c.loop-stmt.scope.locals) (take_all c.loop-stmt.stmt-index c.as_slice-stmt-items.result.now c.loop-stmt-test.false ∙ c.as_slice-stmt-items.ensures) c.loop-stmt.invariant.rows in
    is_steps before.items c.args.block.now c.loop-stmt.steps before.locals c.args.site.now c.loop-stmt.site c.loop-stmt.scope.locals rows

pub compile_block-returns-clause-sites : goal.compile_block-returns-clause-sites
compile_block-returns-clause-sites t c =
    let before = c.args.scope.now in
    let rows = subst (λ z. AreSteps before.items before.locals c.args.site.now z c.loop-stmt.steps c.loop-stmt.site c.loop-stmt.scope.locals) (take_all c.loop-stmt.stmt-index c.as_slice-stmt-items.result.now c.loop-stmt-test.false ∙ c.as_slice-stmt-items.ensures) c.loop-stmt.invariant.rows in
    block_next before.items c.args.block.now c.loop-stmt.steps before.locals c.args.site.now c.loop-stmt.site c.loop-stmt.scope.locals rows

pub compile_block-returns-clause-scope : goal.compile_block-returns-clause-scope
compile_block-returns-clause-scope t c =
    let before = c.args.scope.now in
    let left = scope_left before.items (take c.loop-stmt.stmt-index c.as_slice-stmt-items.result.now) c.loop-stmt.steps before.locals c.args.site.now c.loop-stmt.site c.loop-stmt.scope.locals c.loop-stmt.invariant.rows in
    same_scope c.leave.new.self before (c.leave.ensures.items ∙ c.loop-stmt.invariant.items) (c.leave.ensures.locals ∙ ap (λ z. take z c.loop-stmt.scope.locals) c.len-in_scope.ensures ∙ left)

pub compile_stmt-returns-in_ok-no-in-If-clause-code : goal.compile_stmt-returns-in_ok-no-in-If-clause-code
compile_stmt-returns-in_ok-no-in-If-clause-code t c =
    let before = c.args.scope.now in
    subst (λ z. IsStep before.items before.locals c.args.site.now z (step.If c.in_ok-number-in-If.number c.in_ok-test-in-If.test c.in_ok-yes-in-If.yes c.in_ok-no-in-If.no)) (sym c.in-If.is)
    (if_case before.items before.locals c.args.site.now c.in_ok-number-in-If.number c.new_site.new.site c.compile_expr.new.site c.compile_block.new.site c.in-If.test c.in-If.yes c.in-If.no
    c.in_ok-test-in-If.test c.in_ok-yes-in-If.yes c.in_ok-no-in-If.no c.in_ok-number-in-If.ensures.number c.in_ok-number-in-If.ensures.next c.in_ok-test-in-If.ensures.sites c.in_ok-yes-in-If.ensures.sites
    c.in_ok-test-in-If.ensures.code c.in_ok-yes-in-If.ensures.code
    (subst (λ z. IsOther z.items z.locals c.compile_block.new.site c.in-If.no c.in_ok-no-in-If.no) c.in_ok-yes-in-If.ensures.scope c.in_ok-no-in-If.ensures.code))

pub compile_stmt-returns-in_ok-no-in-If-clause-sites : goal.compile_stmt-returns-in_ok-no-in-If-clause-sites
compile_stmt-returns-in_ok-no-in-If-clause-sites t c =
    omega (arith, if_count c.in-If.test c.in-If.yes c.in-If.no, ap (λ z. length (stmt_sites z)) c.in-If.is, c.in_ok-number-in-If.ensures.next, c.in_ok-test-in-If.ensures.sites, c.in_ok-yes-in-If.ensures.sites, c.in_ok-no-in-If.ensures.sites)

pub compile_stmt-returns-in_ok-body-in-While-clause-code : goal.compile_stmt-returns-in_ok-body-in-While-clause-code
compile_stmt-returns-in_ok-body-in-While-clause-code t c =
    let before = c.args.scope.now in
    subst (λ z. IsStep before.items before.locals c.args.site.now z (step.While c.in_ok-number-in-While.number c.in_ok-test-in-While.test c.in_ok-body-in-While.body)) (sym c.in-While.is)
    (while_case before.items before.locals c.args.site.now c.in_ok-number-in-While.number c.new_site-in-While.new.site c.compile_expr-in-While.new.site c.in-While.test c.in-While.body c.in_ok-test-in-While.test c.in_ok-body-in-While.body
    c.in_ok-number-in-While.ensures.number c.in_ok-number-in-While.ensures.next c.in_ok-test-in-While.ensures.sites c.in_ok-test-in-While.ensures.code c.in_ok-body-in-While.ensures.code)

pub compile_stmt-returns-in_ok-body-in-While-clause-sites : goal.compile_stmt-returns-in_ok-body-in-While-clause-sites
compile_stmt-returns-in_ok-body-in-While-clause-sites t c =
    omega (arith, while_count c.in-While.test c.in-While.body, ap (λ z. length (stmt_sites z)) c.in-While.is, c.in_ok-number-in-While.ensures.next, c.in_ok-test-in-While.ensures.sites, c.in_ok-body-in-While.ensures.sites)

pub compile_stmt-returns-in_ok-caught-in-Try-clause-code : goal.compile_stmt-returns-in_ok-caught-in-Try-clause-code
compile_stmt-returns-in_ok-caught-in-Try-clause-code t c =
    let before = c.args.scope.now in
    subst (λ z. IsStep before.items before.locals c.args.site.now z (step.Try c.in_ok-tried-in-Try.tried c.in_ok-local-in-Try.local c.in_ok-caught-in-Try.caught)) (sym c.in-Try.is)
    (try_case before.items before.locals c.declare.new.self.locals c.args.site.now c.compile_block-in-Try.new.site c.in_ok-local-in-Try.local c.in-Try.body c.in-Try.caught c.in-Try.name c.in_ok-tried-in-Try.tried c.in_ok-caught-in-Try.caught
    (c.in_ok-local-in-Try.ensures.number ∙ ap (λ z. length z.locals) c.in_ok-tried-in-Try.ensures.scope)
    (c.in_ok-local-in-Try.ensures.locals ∙ ap (λ z. z.locals ++ c.in-Try.name ∷ []) c.in_ok-tried-in-Try.ensures.scope)
    c.in_ok-tried-in-Try.ensures.sites c.in_ok-tried-in-Try.ensures.code
    (subst (λ z. IsSteps z c.declare.new.self.locals c.compile_block-in-Try.new.site c.in-Try.caught c.in_ok-caught-in-Try.caught) (c.in_ok-local-in-Try.ensures.items ∙ ap (λ z. z.items) c.in_ok-tried-in-Try.ensures.scope) c.in_ok-caught-in-Try.ensures.code))

pub compile_stmt-returns-in_ok-caught-in-Try-clause-sites : goal.compile_stmt-returns-in_ok-caught-in-Try-clause-sites
compile_stmt-returns-in_ok-caught-in-Try-clause-sites t c =
    omega (arith, try_count c.in-Try.body c.in-Try.name c.in-Try.caught, ap (λ z. length (stmt_sites z)) c.in-Try.is, c.in_ok-tried-in-Try.ensures.sites, c.in_ok-caught-in-Try.ensures.sites)

pub compile_stmt-returns-in_ok-compile_expr-in-Return-clause-code : goal.compile_stmt-returns-in_ok-compile_expr-in-Return-clause-code
compile_stmt-returns-in_ok-compile_expr-in-Return-clause-code t c =
    let before = c.args.scope.now in
    subst (λ z. IsStep before.items before.locals c.args.site.now z (step.Return c.in_ok-compile_expr-in-Return.field-0)) (sym c.in-Return.is)
    (is_return before.items before.locals c.args.site.now c.in-Return.value c.in_ok-compile_expr-in-Return.field-0 c.in_ok-compile_expr-in-Return.ensures.code)

pub compile_stmt-returns-in_ok-compile_expr-in-Print-clause-code : goal.compile_stmt-returns-in_ok-compile_expr-in-Print-clause-code
compile_stmt-returns-in_ok-compile_expr-in-Print-clause-code t c =
    let before = c.args.scope.now in
    subst (λ z. IsStep before.items before.locals c.args.site.now z (step.Print c.in_ok-compile_expr-in-Print.field-0)) (sym c.in-Print.is)
    (is_print before.items before.locals c.args.site.now c.in-Print.value c.in_ok-compile_expr-in-Print.field-0 c.in_ok-compile_expr-in-Print.ensures.code)

pub compile_stmt-returns-in_ok-compile_expr-in-Plain-clause-code : goal.compile_stmt-returns-in_ok-compile_expr-in-Plain-clause-code
compile_stmt-returns-in_ok-compile_expr-in-Plain-clause-code t c =
    let before = c.args.scope.now in
    subst (λ z. IsStep before.items before.locals c.args.site.now z (step.Plain c.in_ok-compile_expr-in-Plain.field-0)) (sym c.in-Plain.is)
    (is_plain before.items before.locals c.args.site.now c.in-Plain.value c.in_ok-compile_expr-in-Plain.field-0 c.in_ok-compile_expr-in-Plain.ensures.code)

pub compile_stmt-returns-in-SetMember-clause-sites : goal.compile_stmt-returns-in-SetMember-clause-sites
compile_stmt-returns-in-SetMember-clause-sites t c =
    on_ok_weaker c.compile_set_member.result (λ (h : c.compile_set_member.new.site ≡ c.args.site.now + length (expr_sites c.in-SetMember.target) + 1 + length (expr_sites c.in-SetMember.value)).
    omega (arith, h, set_member_count c.in-SetMember.target c.in-SetMember.name c.in-SetMember.value, ap (λ z. length (stmt_sites z)) c.in-SetMember.is)) c.compile_set_member.ensures.sites

pub compile_stmt-returns-in-SetIndex-clause-sites : goal.compile_stmt-returns-in-SetIndex-clause-sites
compile_stmt-returns-in-SetIndex-clause-sites t c =
    on_ok_weaker c.compile_set_index.result (λ (h : c.compile_set_index.new.site ≡ c.args.site.now + length (expr_sites c.in-SetIndex.target) + 1 + length (expr_sites c.in-SetIndex.key) + length (expr_sites c.in-SetIndex.value)).
    omega (arith, h, set_index_count c.in-SetIndex.target c.in-SetIndex.key c.in-SetIndex.value, ap (λ z. length (stmt_sites z)) c.in-SetIndex.is)) c.compile_set_index.ensures.sites

pub compile_stmt-returns-in-DeleteMember-clause-sites : goal.compile_stmt-returns-in-DeleteMember-clause-sites
compile_stmt-returns-in-DeleteMember-clause-sites t c =
    on_ok_weaker c.compile_delete_member.result (λ (h : c.compile_delete_member.new.site ≡ c.args.site.now + length (expr_sites c.in-DeleteMember.target) + 1).
    omega (arith, h, delete_member_count c.in-DeleteMember.target c.in-DeleteMember.name, ap (λ z. length (stmt_sites z)) c.in-DeleteMember.is)) c.compile_delete_member.ensures.sites

pub compile_stmt-returns-in-DeleteIndex-clause-sites : goal.compile_stmt-returns-in-DeleteIndex-clause-sites
compile_stmt-returns-in-DeleteIndex-clause-sites t c =
    on_ok_weaker c.compile_delete_index.result (λ (h : c.compile_delete_index.new.site ≡ c.args.site.now + length (expr_sites c.in-DeleteIndex.target) + 1 + length (expr_sites c.in-DeleteIndex.key)).
    omega (arith, h, delete_index_count c.in-DeleteIndex.target c.in-DeleteIndex.key, ap (λ z. length (stmt_sites z)) c.in-DeleteIndex.is)) c.compile_delete_index.ensures.sites
