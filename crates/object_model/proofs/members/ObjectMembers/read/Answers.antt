use Rattle.std.proofs.Common.{◌≡◌, sym, ◌∙◌, ap}
use Rattle.std.specs.List.{slice_index_or}
use Rattle.object_model.specs.Members.{Member}
use Rattle.object_model.proofs.MemberPlaces.{within}
use Rattle.object_model.proofs.StepsByPlace.{read_found, read_absent}
use Rattle.object_model.proofs.members.ObjectMembers.read.Goals as goal

pub returns-in_ok-value-in-Some : goal.returns-in_ok-value-in-Some
returns-in_ok-value-in-Some c =
    let found = sym c.place_of.ensures ∙ c.in-Some.is in
    let here : Member = c.index-as_slice-place.result in
    let is : here ≡ slice_index_or c.args.self.now c.in-Some.place here = cc in
    read_found c.args.name.now c.args.self.now c.in-Some.place here c.in_ok-value-in-Some.value found (within c.args.name.now c.args.self.now c.in-Some.place found) is
    (c.in_ok-value-in-Some.ensures ∙ ap (λ (m : Member). m.value) c.member.view_is)

pub returns-in_ok-copy-in-None : goal.returns-in_ok-copy-in-None
returns-in_ok-copy-in-None c = read_absent c.args.name.now c.args.self.now c.in_ok-copy-in-None.field-0 (sym c.place_of.ensures ∙ c.in-None.is) c.in_ok-copy-in-None.ensures
