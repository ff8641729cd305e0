use Rattle.std.proofs.Common.{◌≡◌, sym, ◌∙◌, subst}
use Rattle.std.specs.List.{remove}
use Rattle.object_model.specs.Members.{AreMembers}
use Rattle.object_model.proofs.StepsByPlace.{delete_found, delete_absent, delete_keeps}
use Rattle.object_model.proofs.members.ObjectMembers.delete.Goals as goal

pub invariant_of-self : goal.invariant_of-self
invariant_of-self c =
    let rest : c.remove.new.self ≡ remove c.args.self.now c.in-Some.place = cc in
    let are : AreMembers c.args.self.now = subst AreMembers c.self.view_is c.self.invariant in
    delete_keeps c.args.name.now c.args.self.now c.remove.new.self c.in-Some.place (sym c.place_of.ensures ∙ c.in-Some.is) rest are

pub returns-clause-step : goal.returns-clause-step
returns-clause-step c =
    let rest : c.remove.new.self ≡ remove c.args.self.now c.in-Some.place = cc in
    delete_found c.args.name.now c.args.self.now c.remove.new.self c.in-Some.place (sym c.place_of.ensures ∙ c.in-Some.is) rest

pub returns-in_default-clause-step : goal.returns-in_default-clause-step
returns-in_default-clause-step c = delete_absent c.args.name.now c.args.self.now c.in_ok-copy.field-0 (sym c.place_of.ensures ∙ c.in_default.is) c.in_ok-copy.ensures
