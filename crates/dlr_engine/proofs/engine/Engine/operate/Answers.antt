use Rattle.std.proofs.Common.{◌≡◌, ◌∙◌, ℕ, List, None, Some, ap, length, get_or, slice_get, subst}
use Rattle.object_model.specs.Steps.{OnObject}
use Rattle.standard_binders.specs.declared.binder.Binder.{Binder}
use Rattle.script_program.specs.Plans.{plan_of}
use Rattle.script_program.specs.Programs.{binders_of, functions_of}
use Rattle.dlr_engine.specs.declared.answer.Answer.{Answer}
use Rattle.dlr_engine.specs.declared.pass.Pass.{Pass}
use Rattle.dlr_engine.specs.Knowing.{Uses}
use Rattle.dlr_engine.specs.Operations.{IsChosenAt, IsChosenThere}
use Rattle.dlr_engine.specs.Passes.{has_others, kept_at, log_in}
use Rattle.dlr_engine.proofs.Answering.{chosen_by, chosen_too}
use Rattle.dlr_engine.proofs.BoundRules.{on_object_split}
use Rattle.dlr_engine.proofs.Sites.{binder_is, inside_sites, suit_is}
use Rattle.dlr_engine.proofs.Targets.{target_proper}
use Rattle.dlr_engine.proofs.engine.Engine.operate.Goals as goal
use Rattle.dlr_engine.proofs.engine.Engine.operate.Goals.{in-Some+in_ok-answer-in-Some, in-None+in_ok-answer-in-None}

pub binder_of-binder-requires : goal.binder_of-binder-requires
binder_of-binder-requires g c = inside_sites c.args.self.now.run.program.now c.args.site (length c.args.operands.now) c.requires.site

pub invariant_of-operation : goal.invariant_of-operation
invariant_of-operation g c =
    let p = c.args.self.now.run.program.now in let b = c.binder_of-binder.result.now in
    record {
      on = c.in-Some.ensures;
      target = on_object_split b c.args.operands.now (record { object = c.in-Some.object; operands = c.in-Some.arguments.now }) c.in-Some.ensures;
      short_names = c.binder_of-binder.ensures.short_names;
      suit = suit_is p c.args.site (length c.args.operands.now) b c.requires.site (binder_is p c.args.site b c.binder_of-binder.ensures.number);
    }

pub operate_on-requires-clause-binder : goal.operate_on-requires-clause-binder
operate_on-requires-clause-binder g c =
    let run = c.args.self.now.run in
    ap (λ (bs : List Binder). slice_get bs (get_or c.sites.result.now c.args.site 0)) run.binders
    ∙ ap (λ (ns : List ℕ). slice_get (binders_of run.program.now) (get_or ns c.args.site 0)) c.sites.ensures.sites ∙ c.binder_of-binder.ensures.number

pub operate_on-requires-clause-object : goal.operate_on-requires-clause-object
operate_on-requires-clause-object g c =
    let run = c.args.self.now.run in
    let x : OnObject = record { object = c.in-Some.object; operands = c.in-Some.arguments.now } in
    let proper = target_proper (length (functions_of run.program.now)) run.tag.limit c.binder_of-binder.result.now c.args.operands.now x c.in-Some.ensures
    c.requires.proper in proper.0

pub operate_plain-requires-clause-suit : goal.operate_plain-requires-clause-suit
operate_plain-requires-clause-suit g c =
    let p = c.args.self.now.run.program.now in let b = c.binder_of-binder.result.now in
    suit_is p c.args.site (length c.args.operands.now) b c.requires.site (binder_is p c.args.site b c.binder_of-binder.ensures.number)

pub returns-clause-chosen : goal.returns-clause-chosen
returns-clause-chosen g c =
    let run = c.args.self.now.run in let p = run.program.now in let plan = plan_of p in let site = c.args.site in
    let ops = c.args.operands.now in let old = c.args.pass.now in let b = c.binder_of-binder.result.now in
    let n = get_or c.sites.result.now site 0 in let last : Pass = c.match-object_of.pass in let all : Answer = c.match-object_of.answer in
    let binder = binder_is p site b c.binder_of-binder.ensures.number in
    let number : n ≡ get_or plan.sites site 0 = ap (λ (ns : List ℕ). get_or ns site 0) c.sites.ensures.sites in
    let chosen : IsChosenAt run site ops old last all =
    elim c.match-object_of.branch [
      | in-Some+in_ok-answer-in-Some w ↦
          let x : OnObject = record { object = w.in-Some.object; operands = w.in-Some.arguments.now } in
          let new = w.operate_on.new.pass in let a = w.in_ok-answer-in-Some.answer in let is = w.in_ok-answer-in-Some.ensures in
          chosen_too run site ops old new last a all w.pass-is w.answer-is
          (chosen_by run b (Some x) n site ops old new a w.in-Some.ensures binder number
          (subst (λ (bs : List Binder). Uses (has_others run) a.level (kept_at old n) (kept_at new n) (IsChosenThere bs x ops (log_in new) a.level a.place))
          run.binders is.uses)
          is.others)
      | in-None+in_ok-answer-in-None w ↦
          let new = w.operate_plain.new.pass in let a = w.in_ok-answer-in-None.answer in let is = w.in_ok-answer-in-None.ensures in
          chosen_too run site ops old new last a all w.pass-is w.answer-is
          (chosen_by run b None n site ops old new a w.in-None.ensures binder number is.uses is.others)
    ] in record {
      uses = chosen.uses;
      others = λ m other. let keeps = chosen.others m other in record { rules = keeps.rules; published = keeps.published };
    }
