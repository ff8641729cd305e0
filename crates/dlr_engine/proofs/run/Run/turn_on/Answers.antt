use Rattle.std.proofs.Common.{◌≡◌, ◌∙◌, IfOk, Option, Some, Result, ap, refl, rules, subst}
use Rattle.std.specs.declared.alloc.AllocError.{AllocError}
use Rattle.object_history.specs.declared.tag.Tag.{Tag}
use Rattle.object_history.specs.Histories.{tag_with, whole_tag_of}
use Rattle.turn_rows.specs.Passes.{log_of}
use Rattle.known_rules.specs.Knowledge.{rules_in}
use Rattle.dlr_engine.specs.declared.operation.Done.{Done}
use Rattle.dlr_engine.specs.Knowing.{KnownList, level_of}
use Rattle.dlr_engine.specs.Makings.{Turned}
use Rattle.dlr_engine.specs.Operations.{HasMade, IsChosenThere, IsIdle, on_object_of}
use Rattle.dlr_engine.proofs.Choices.{from_chosen}
use Rattle.dlr_engine.proofs.Turning.{IsTurnOf, chosen_there, has_made, if_done, if_refused, is_idle}
use Rattle.dlr_engine.proofs.run.Run.turn_on.Goals as goal

pub invariant_of-turn-clause-chosen : goal.invariant_of-turn-clause-chosen
invariant_of-turn-clause-chosen g c = λ _. from_chosen (rules_in c.args.known.now) c.args.operation.operands.now c.args.class.now c.args.rule c.requires.first

pub returns-clause-made : goal.returns-clause-made
returns-clause-made g c =
    let t = c.turn.ensures.taken in let o = c.args.operation in let run = c.args.self.now in
    let before = log_of c.args.rows.now in let after = log_of c.turn.new.pass in
    let functions = g.L.Language.functions c.args.lang.now in let l = rules_in c.turn.new.step.known.now in
    let m = c.args.mind.now in let n = c.turn.new.step.mind.now in
    let turn : IsTurnOf o.object before after t.found t.left = record {
      number = c.turn.ensures.same.0;
      had_seen = t.had_seen;
      sees = t.sees;
      adds = t.adds;
      alone = λ one. (t.alone one).0;
      others = c.turn.ensures.others;
    } in
    let e : c.turn.new.step.made.now ≡ Some c.in-Some.made = search rules in
    let turned : Turned functions run.table o m t.found n l t.left (Some c.in-Some.made) =
    subst (λ (r : Option (Result Done AllocError)). Turned functions run.table o m t.found n l t.left r) e (t.ran.8 refl) in
    let found : whole_tag_of t.found ≡ tag_with run.tag run.table = t.tagged.0 ∙ run.tagged in
    let left : whole_tag_of t.left ≡ tag_with run.tag run.table = t.tagged.1 ∙ run.tagged in
    if_done (λ d. HasMade run.tag o before after d.made) functions run.table o m n t.found t.left l c.in-Some.made turned
    (λ d done. has_made run.tag o before after t.found t.left d.made turn (ap (λ (z : Tag). z.binders) found) (ap (λ (z : Tag). z.binders) left)
    (ap (λ (z : Tag). z.functions) found) (ap (λ (z : Tag). z.limit) found) done.makes)

pub returns-clause-chosen : goal.returns-clause-chosen
returns-clause-chosen g c =
    let t = c.turn.ensures.taken in let o = c.args.operation in let run = c.args.self.now in
    let after = log_of c.turn.new.pass in let binders = run.tag.binders.now in
    let functions = g.L.Language.functions c.args.lang.now in let l = rules_in c.turn.new.step.known.now in
    let m = c.args.mind.now in let n = c.turn.new.step.mind.now in
    let e : c.turn.new.step.made.now ≡ Some c.in-Some.made = search rules in
    let turned : Turned functions run.table o m t.found n l t.left (Some c.in-Some.made) =
    subst (λ (r : Option (Result Done AllocError)). Turned functions run.table o m t.found n l t.left r) e (t.ran.8 refl) in
    let found : whole_tag_of t.found ≡ tag_with run.tag run.table = t.tagged.0 ∙ run.tagged in
    subst (λ (rs : KnownList). IfOk c.in-Some.made (λ d. IsChosenThere binders (on_object_of o) o.operands.now after (level_of d.bound) d.made.place rs))
    (search rules)
    (if_done (λ d. IsChosenThere binders (on_object_of o) o.operands.now after (level_of d.bound) d.made.place l) functions run.table o m n t.found t.left l
    c.in-Some.made turned
    (λ d done. chosen_there binders o after t.found t.left d.made (level_of d.bound) l t.sees (ap (λ (z : Tag). z.binders) found) done.makes done.chosen))

pub returns-clause-refused : goal.returns-clause-refused
returns-clause-refused g c =
    let t = c.turn.ensures.taken in let o = c.args.operation in let run = c.args.self.now in
    let before = log_of c.args.rows.now in let after = log_of c.turn.new.pass in
    let functions = g.L.Language.functions c.args.lang.now in let l = rules_in c.turn.new.step.known.now in
    let m = c.args.mind.now in let n = c.turn.new.step.mind.now in
    let turn : IsTurnOf o.object before after t.found t.left = record {
      number = c.turn.ensures.same.0;
      had_seen = t.had_seen;
      sees = t.sees;
      adds = t.adds;
      alone = λ one. (t.alone one).0;
      others = c.turn.ensures.others;
    } in
    let e : c.turn.new.step.made.now ≡ Some c.in-Some.made = search rules in
    let turned : Turned functions run.table o m t.found n l t.left (Some c.in-Some.made) =
    subst (λ (r : Option (Result Done AllocError)). Turned functions run.table o m t.found n l t.left r) e (t.ran.8 refl) in
    if_refused (IsIdle before after) functions run.table o m n t.found t.left l c.in-Some.made turned
    (λ same may. is_idle o.object before after t.found t.left turn same)
