use Rattle.std.proofs.Common.{◌∙◌, ◌++◌, ◌∷◌, [], List, sym, ap, subst}
use Rattle.dyn_value.specs.declared.entry.Entry.{Entry}
use Rattle.expando_class.specs.declared.class.ClassRef.{ClassRef}
use Rattle.expando_class.specs.Class.{names_of, IsClassOf}
use Rattle.expando_object.specs.State.{class_in}
use Rattle.expr_tree.specs.declared.node.Node.{Node}
use Rattle.expr_tree.specs.Meanings.{answer_in, state_after}
use Rattle.expr_tree.specs.Trees.{root}
use Rattle.tree_eval.specs.States.{IsClassAfter, IsPrepared, names_after, state_of}
use Rattle.object_history.specs.Readies.{arguments_of, operands_of}
use Rattle.object_history.specs.Rows.{journal_of, members_in, state_in, table_of}
use Rattle.object_history.proofs.Commits.{Committed, Doing, answer_of, class_after_of, entry_is, kept_of, legal_of, members_are, outcome_of_step, own_of, proper_of}
use Rattle.object_history.proofs.object_row.ObjectRow.commit.Goals as goal

pub eval-answer-requires-clause-prepared : goal.eval-answer-requires-clause-prepared
eval-answer-requires-clause-prepared g c = (
  operands_of c.args.ready,
  subst (λ (body : List Node). IsPrepared c.args.ready.prepared (operands_of c.args.ready) (state_in c.args.self.now) (root body)) (sym c.body.ensures)
      c.requires.can.ready.prepared,
)

pub eval-answer-requires-clause-after : goal.eval-answer-requires-clause-after
eval-answer-requires-clause-after g c =
    let row = c.args.self.now in let r = c.args.ready in let rule = c.args.rule.now in let after = c.args.after in
    let b = g.S.Sound.binder_of rule in let body = g.S.Sound.body_of rule in
    let doing : Doing row r b body after = λ step is. g.met.S.Sound.sound rule (state_of (state_in row)) (members_in row) (names_after after)
    r.object (arguments_of r) step row.kept (members_are row) is c.requires.fits in
    subst (λ (nodes : List Node). IsClassAfter after (names_of (class_in (state_in row))) (root nodes)) (sym c.body.ensures)
    (class_after_of row r b body after c.requires.can doing)

pub returns-clause-step : goal.returns-clause-step
returns-clause-step g c =
    let row = c.args.self.now in let r = c.args.ready in let rule = c.args.rule.now in let after = c.args.after in
    let b = g.S.Sound.binder_of rule in let body = g.S.Sound.body_of rule in
    let doing : Doing row r b body after = λ step is. g.met.S.Sound.sound rule (state_of (state_in row)) (members_in row) (names_after after)
    r.object (arguments_of r) step row.kept (members_are row) is c.requires.fits in
    let prepared : IsPrepared r.prepared (operands_of r) (state_in row)
    (root c.body.result.now) = subst (λ (nodes : List Node). IsPrepared r.prepared (operands_of r) (state_in row) (root nodes)) (sym c.body.ensures)
    c.requires.can.ready.prepared in
    outcome_of_step row r b body after c.eval-answer.result c.requires.can doing
    (c.eval-answer.ensures.outcome (operands_of r) prepared
    ∙ ap (λ (nodes : List Node). answer_in (operands_of r) (state_of (state_in row)) (root nodes)) c.body.ensures)

pub returns-clause-answer : goal.returns-clause-answer
returns-clause-answer g c =
    let row = c.args.self.now in let r = c.args.ready in let rule = c.args.rule.now in let after = c.args.after in
    let b = g.S.Sound.binder_of rule in let body = g.S.Sound.body_of rule in
    let doing : Doing row r b body after = λ step is. g.met.S.Sound.sound rule (state_of (state_in row)) (members_in row) (names_after after)
    r.object (arguments_of r) step row.kept (members_are row) is c.requires.fits in
    let prepared : IsPrepared r.prepared (operands_of r) (state_in row)
    (root c.body.result.now) = subst (λ (nodes : List Node). IsPrepared r.prepared (operands_of r) (state_in row) (root nodes)) (sym c.body.ensures)
    c.requires.can.ready.prepared in
    answer_of row r b body after c.eval-answer.result c.requires.can doing
    (c.eval-answer.ensures.outcome (operands_of r) prepared
    ∙ ap (λ (nodes : List Node). answer_in (operands_of r) (state_of (state_in row)) (root nodes)) c.body.ensures)

pub invariant_of-self : goal.invariant_of-self
invariant_of-self g c =
    let row = c.args.self.now in let r = c.args.ready in let rule = c.args.rule.now in let after = c.args.after in
    let b = g.S.Sound.binder_of rule in let body = g.S.Sound.body_of rule in
    let doing : Doing row r b body after = λ step is. g.met.S.Sound.sound rule (state_of (state_in row)) (members_in row) (names_after after)
    r.object (arguments_of r) step row.kept (members_are row) is c.requires.fits in
    let prepared : IsPrepared r.prepared (operands_of r) (state_in row)
    (root c.body.result.now) = subst (λ (nodes : List Node). IsPrepared r.prepared (operands_of r) (state_in row) (root nodes)) (sym c.body.ensures)
    c.requires.can.ready.prepared in
    let left = state_of c.eval-answer.new.state in
    let journal = c.push_reserved.new.self.items in
    let committed : Committed row r b body after c.eval-answer.result left journal = record {
      can = c.requires.can;
      doing = doing;
      answers = c.eval-answer.ensures.outcome (operands_of r) prepared
          ∙ ap (λ (nodes : List Node). answer_in (operands_of r) (state_of (state_in row)) (root nodes)) c.body.ensures;
      state = c.eval-answer.ensures.state (operands_of r) prepared
          ∙ ap (λ (nodes : List Node). state_after (operands_of r) (names_after after) (state_of (state_in row)) (root nodes)) c.body.ensures;
      grown = c.push_reserved.ensures.items
          ∙ ap (λ (e : Entry). journal_of row ++ e ∷ []) (entry_is r c.eval-answer.result (c.requires.can.ready.outcome ∙ sym c.eval-answer.ensures.kept));
    } in
    record {
      legal = legal_of row r b body after c.eval-answer.result left journal committed;
      own = subst (λ (class : ClassRef). IsClassOf (table_of row) class) (sym c.eval-answer.ensures.class)
          (own_of (table_of row) after (class_in (state_in row)) row.own c.requires.can.own);
      kept = kept_of row r b body after c.eval-answer.result left journal committed;
      proper = proper_of row r b body after c.eval-answer.result left journal committed;
    }
