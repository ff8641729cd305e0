-- The rule was made for the class of the object.
use Rattle.std.proofs.Common.{◌≡◌, ◌∙◌, List, ap, drop, subst, sym}
use Rattle.std.specs.Prelude.{IfSome, IsSome}
use Rattle.expando_class.specs.declared.class.ClassRef.{ClassRef}
use Rattle.expando_class.specs.declared.table.ClassTable.{ClassTable}
use Rattle.expando_class.specs.Class.{IsClassOf, names_of, number_of}
use Rattle.expando_object.specs.State.{class_in, values_in}
use Rattle.expr_tree.specs.declared.node.Node.{Node}
use Rattle.expr_tree.specs.Meanings.{IsThere}
use Rattle.expr_tree.specs.Trees.{root}
use Rattle.object_model.specs.Accesses.{access_of}
use Rattle.rule_model.specs.Claims.{ListHolds}
use Rattle.standard_binders.specs.declared.binder.Binder.{Binder}
use Rattle.tree_eval.specs.States.{names_after}
use Rattle.object_history.specs.Readies.{IsReady}
use Rattle.object_history.specs.Rows.{state_in, table_of, tag_of}
use Rattle.std.proofs.Common.{Some, slice_get}
use Rattle.object_history.proofs.MemberCommits.{Serves, can_commit, there_of}
use Rattle.object_history.proofs.tests.operate.operate_by.Goals as goal

pub prepare-requires-clause-there : goal.prepare-requires-clause-there
prepare-requires-clause-there g c =
    let row = c.args.row.now in let rule = c.in_ok-rule.rule in let after = c.in_ok-rule.after in let operands = c.args.operands.now in
    let class_is : c.copy-class.result ≡ class_in (state_in row) = c.copy-class.ensures ∙ c.class.ensures.class ∙ ap class_in c.state.ensures.state in
    let serves : Serves rule.binder rule.claim rule.body (table_of row) (class_in (state_in row)) after = record {
      does = rule.does;
      number = c.in_ok-rule.ensures.class ∙ ap number_of class_is;
      holds = subst (λ (k : ClassRef). ListHolds rule.claim (names_of k) (names_after after)) class_is c.in_ok-rule.ensures.holds;
      named = c.in_ok-rule.ensures.number;
      own = subst (λ (t : ClassTable). IfSome after (IsClassOf t)) (sym c.requires.table) c.in_ok-rule.ensures.of;
    } in
    subst (λ (nodes : List Node). IsThere operands (values_in (state_in row)) (root nodes)) (sym c.body.ensures)
    (there_of rule.binder rule.claim rule.body (table_of row) row after operands serves row.kept c.state.ensures.members c.requires.operation
    (subst (λ (b : Binder). IsSome (access_of b (drop 1 operands))) (sym c.in_ok-rule.ensures.binder) c.requires.suits))

pub commit-outcome-requires-clause-can : goal.commit-outcome-requires-clause-can
commit-outcome-requires-clause-can g c =
    let row = c.args.row.now in let rule = c.in_ok-rule.rule in let after = c.in_ok-rule.after in let operands = c.args.operands.now in
    let more = c.prepare.new.self in let ready = c.in_ok-ready.ready in
    let class_is : c.copy-class.result ≡ class_in (state_in row) = c.copy-class.ensures ∙ c.class.ensures.class ∙ ap class_in c.state.ensures.state in
    let serves : Serves rule.binder rule.claim rule.body (table_of row) (class_in (state_in row)) after = record {
      does = rule.does;
      number = c.in_ok-rule.ensures.class ∙ ap number_of class_is;
      holds = subst (λ (k : ClassRef). ListHolds rule.claim (names_of k) (names_after after)) class_is c.in_ok-rule.ensures.holds;
      named = c.in_ok-rule.ensures.number;
      own = subst (λ (t : ClassTable). IfSome after (IsClassOf t)) (sym c.requires.table) c.in_ok-rule.ensures.of;
    } in
    can_commit rule.binder rule.claim rule.body row more after ready c.args.head operands serves c.prepare.ensures.untouched
    (subst (λ (nodes : List Node). IsReady ready c.args.head operands more nodes) c.body.ensures c.in_ok-ready.ensures.ready)
    (subst (λ (b : Binder). slice_get (tag_of row).binders.now c.args.head.binder ≡ Some b) (sym c.in_ok-rule.ensures.binder) c.requires.number)
    (subst (λ (b : Binder). IsSome (access_of b (drop 1 operands))) (sym c.in_ok-rule.ensures.binder) c.requires.suits)
    c.requires.proper
