use Rattle.std.proofs.Common.{◌≡◌, ◌∙◌, ◌++◌, ◌∷◌, true, [], List, sym, ap, subst, rules}
use Rattle.dyn_value.specs.declared.entry.Entry.{Entry}
use Rattle.dyn_value.specs.declared.value.Value.{Value}
use Rattle.expando_object.specs.State.{class_in, values_in}
use Rattle.expr_tree.specs.declared.node.Node.{Node}
use Rattle.expr_tree.specs.Meanings.{IsThere}
use Rattle.expr_tree.specs.Trees.{root}
use Rattle.standard_binders.specs.declared.binder.Binder.{Binder}
use Rattle.object_model.specs.Journals.{members_after, outcome_by}
use Rattle.object_model.specs.Plain.{IsAnswerIn}
use Rattle.object_model.specs.Steps.{object_step}
use Rattle.object_history.specs.declared.entry_head.EntryHead.{EntryHead}
use Rattle.object_history.specs.declared.tag.RowTag.{RowTag}
use Rattle.object_history.specs.Entries.{entry_by}
use Rattle.object_history.specs.Readies.{arguments_of, head_of}
use Rattle.object_history.specs.Rows.{journal_of, members_in, state_in, table_of, tag_of}
use Rattle.rule.specs.Rules.{binder_of}
use Rattle.script_program.specs.Names.{has_short_names}
use Rattle.dlr_engine.proofs.BoundRules.{arguments_proper}
use Rattle.dlr_engine.proofs.Commits.{Serves, arguments_are, can_commit, fits_there, serves_class, there_of}
use Rattle.dlr_engine.proofs.ShortFaults.{proper_fault, short_of_step}
use Rattle.dlr_engine.proofs.making.make.Goals as goal

pub prepare-requires-clause-there : goal.prepare-requires-clause-there
prepare-requires-clause-there c =
    let row = c.args.row.now in let o = c.args.operation.now in let r = c.args.rule.now in let after = c.args.after in
    let serves : Serves r o (table_of row) (class_in (state_in row)) after =
    serves_class r o (table_of row) (class_in (state_in row)) after c.requires.fits c.requires.binder in
    subst (λ (body : List Node). IsThere o.operands.now (values_in (state_in row)) (root body)) (sym c.body.ensures)
    (there_of r o row after c.state.ensures.members serves)

pub commit-outcome-requires-clause-can : goal.commit-outcome-requires-clause-can
commit-outcome-requires-clause-can c =
    let row = c.args.row.now in let o = c.args.operation.now in let r = c.args.rule.now in let after = c.args.after in
    let serves : Serves r o (table_of row) (class_in (state_in row)) after =
    serves_class r o (table_of row) (class_in (state_in row)) after c.requires.fits c.requires.binder in
    can_commit r o.binder.now o row c.prepare.new.self after c.in_ok-ready.ready c.body.result.now serves c.requires.binder
    c.body.ensures c.prepare.ensures.untouched c.in_ok-ready.ensures.ready c.requires.number
    (arguments_proper (tag_of row).functions (tag_of row).limit o c.requires.proper)

pub commit-outcome-requires-clause-fits : goal.commit-outcome-requires-clause-fits
commit-outcome-requires-clause-fits c =
    let row = c.args.row.now in let o = c.args.operation.now in let r = c.args.rule.now in let after = c.args.after in
    let serves : Serves r o (table_of row) (class_in (state_in row)) after =
    serves_class r o (table_of row) (class_in (state_in row)) after c.requires.fits c.requires.binder in
    fits_there r o row c.prepare.new.self after c.in_ok-ready.ready c.body.result.now serves c.prepare.ensures.untouched
    c.in_ok-ready.ensures.ready

pub returns-clause-made : goal.returns-clause-made
returns-clause-made c =
    let row = c.args.row.now in let more = c.prepare.new.self in let o = c.args.operation.now in let ready = c.in_ok-ready.ready in
    let out = c.commit-outcome.result in let r = c.args.rule.now in let same = c.prepare.ensures.untouched in
    let arguments = arguments_are o ready c.in_ok-ready.ensures.ready.target in
    let short : has_short_names (binder_of r) ≡ true = subst (λ (b : Binder). has_short_names b ≡ true) (sym c.requires.binder) o.short_names in
    record {
      journal = c.commit-outcome.ensures.journal
          ∙ ap (λ (es : List Entry). es ++ entry_by (head_of ready) (arguments_of ready) out ∷ []) same.journal
          ∙ ap (λ (h : EntryHead). journal_of row ++ entry_by h (arguments_of ready) out ∷ []) c.in_ok-ready.ensures.ready.headed
          ∙ ap (λ (vs : List Value). journal_of row ++ entry_by o.head vs out ∷ []) (sym arguments);
      outcome = sym (
          ap (λ (t : RowTag). outcome_by (object_step (members_after t.binders.now [] (journal_of more)) (binder_of r) (arguments_of ready))) same.tag
          ∙ ap (λ (es : List Entry). outcome_by (object_step (members_after (tag_of row).binders.now [] es) (binder_of r) (arguments_of ready))) same.journal
          ∙ ap (λ (b : Binder). outcome_by (object_step (members_in row) b (arguments_of ready))) c.requires.binder
          ∙ ap (λ (vs : List Value). outcome_by (object_step (members_in row) o.binder.now vs)) (sym arguments))
          ∙ c.commit-outcome.ensures.step;
      place = search rules;
      answer = subst (λ (t : RowTag). IsAnswerIn t.functions t.limit out) same.tag c.commit-outcome.ensures.answer;
      fault = proper_fault out (short_of_step (members_in more) (binder_of r) (arguments_of ready) out short c.commit-outcome.ensures.step)
          c.show_proper_content.ensures;
    }
