use Rattle.std.proofs.Common.{◌≡◌, ◌≢◌, ◌∷◌, ◌++◌, [], sym, ◌∙◌, ap, refl, length, slice_set}
use Rattle.object_model.specs.Members.{Member}
use Rattle.object_model.specs.Steps.{Step}
use Rattle.object_model.proofs.StepsByPlace.{write_found, write_full, write_added}
use Rattle.object_model.proofs.members.ObjectMembers.answer_to_write.Goals as goal

pub returns-in-Some : goal.returns-in-Some
returns-in-Some c = λ v.
    let m : Member = record { name = c.args.name.now; value = v } in
    let is = write_found c.args.name.now v c.args.self.now (slice_set c.args.self.now c.in-Some.field-0 m) c.in-Some.field-0 m (sym c.place_of.ensures ∙ c.in-Some.is) refl refl in
    sym (ap (λ (s : Step). s.outcome) is)

pub returns-in-None : goal.returns-in-None
returns-in-None c = λ v.
    let full : length c.args.self.now ≡ 64 = ap length (sym c.self.view_is) ∙ sym c.len.ensures ∙ c.if-len-eq-MOST.true in
    sym (ap (λ (s : Step). s.outcome) (write_full c.args.name.now v c.args.self.now (sym c.place_of.ensures ∙ c.in-None.is) full))

pub returns-in-None-2 : goal.returns-in-None-2
returns-in-None-2 c = λ v.
    let m : Member = record { name = c.args.name.now; value = v } in
    let room : length c.args.self.now ≢ 64 = λ full. c.if-len-eq-MOST.false (c.len.ensures ∙ ap length c.self.view_is ∙ full) in
    sym (ap (λ (s : Step). s.outcome) (write_added c.args.name.now v c.args.self.now (c.args.self.now ++ m ∷ []) m (sym c.place_of.ensures ∙ c.in-None.is) room refl refl))
