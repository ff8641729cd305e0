use Rattle.std.proofs.Common.{sym, ◌∙◌, ap, refl}
use Rattle.std.specs.List.{remove}
use Rattle.object_model.specs.Steps.{Step}
use Rattle.object_model.proofs.StepsByPlace.{delete_found, delete_absent}
use Rattle.object_model.proofs.members.ObjectMembers.answer_to_delete.Goals as goal

pub returns-in-Some : goal.returns-in-Some
returns-in-Some c =
    let is = delete_found c.args.name.now c.args.self.now (remove c.args.self.now c.in-Some.field-0) c.in-Some.field-0 (sym c.place_of.ensures ∙ c.in-Some.is) refl in
    sym (ap (λ (s : Step). s.outcome) is)

pub returns-in_ok-copy-in-None : goal.returns-in_ok-copy-in-None
returns-in_ok-copy-in-None c =
    let is = delete_absent c.args.name.now c.args.self.now c.in_ok-copy-in-None.field-0 (sym c.place_of.ensures ∙ c.in-None.is) c.in_ok-copy-in-None.ensures in
    sym (ap (λ (s : Step). s.outcome) is)
