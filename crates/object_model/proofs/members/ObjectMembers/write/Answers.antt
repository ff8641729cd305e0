use Rattle.std.proofs.Common.{◌≡◌, ◌≢◌, sym, ◌∙◌, ap, subst, [], ◌∷◌, ◌++◌, length, slice_set}
use Rattle.object_model.specs.Members.{Member}
use Rattle.object_model.specs.Members.{AreMembers}
use Rattle.object_model.proofs.StepsByPlace.{write_found, write_full, write_added, write_keeps, added_keeps}
use Rattle.object_model.proofs.members.ObjectMembers.write.Goals as goal
use Rattle.object_model.proofs.members.ObjectMembers.write.Goals.{in-Some, in-None-2+in_ok-push-in-None-2}

pub invariant_of-self : goal.invariant_of-self
invariant_of-self c =
    let m : Member = record { name = c.in_ok-copy.field-0; value = c.in_ok-copy-2.field-0 } in
    let is : m ≡ record { name = c.args.name.now; value = c.args.value.now } = cc (c.in_ok-copy.ensures, c.in_ok-copy-2.ensures) in
    let rest : c.set.new.self ≡ slice_set c.args.self.now c.in-Some.place m = cc in
    let are : AreMembers c.args.self.now = subst AreMembers c.self.view_is c.self.invariant in
    write_keeps c.args.name.now c.args.value.now c.args.self.now c.set.new.self c.in-Some.place m (sym c.place_of.ensures ∙ c.in-Some.is) is rest are

pub returns-in-None-clause-step : goal.returns-in-None-clause-step
returns-in-None-clause-step c =
    let full : length c.args.self.now ≡ 64 = ap length (sym c.self.view_is) ∙ sym c.len.ensures ∙ c.if-len-eq-MOST.true in
    write_full c.args.name.now c.args.value.now c.args.self.now (sym c.place_of.ensures ∙ c.in-None.is) full

pub invariant_of-self-in_ok-push-in-None-2 : goal.invariant_of-self-in_ok-push-in-None-2
invariant_of-self-in_ok-push-in-None-2 c =
    let m : Member = record { name = c.in_ok-copy.field-0; value = c.in_ok-copy-2.field-0 } in
    let is : m ≡ record { name = c.args.name.now; value = c.args.value.now } = cc (c.in_ok-copy.ensures, c.in_ok-copy-2.ensures) in
    let rest : c.push.new.self ≡ c.args.self.now ++ m ∷ [] = cc (c.in_ok-push-in-None-2.ensures.ok) in
    let room : length c.args.self.now ≢ 64 = λ full. c.if-len-eq-MOST.false (c.len.ensures ∙ ap length c.self.view_is ∙ full) in
    let are : AreMembers c.args.self.now = subst AreMembers c.self.view_is c.self.invariant in
    added_keeps c.args.name.now c.args.value.now c.args.self.now c.push.new.self m (sym c.place_of.ensures ∙ c.in-None.is) room is rest are

pub returns-clause-step : goal.returns-clause-step
returns-clause-step c = elim c.match-place_of.branch [
  | in-Some w ↦
      let m : Member = record { name = c.in_ok-copy.field-0; value = c.in_ok-copy-2.field-0 } in
      let is : m ≡ record { name = c.args.name.now; value = c.args.value.now } = cc (c.in_ok-copy.ensures, c.in_ok-copy-2.ensures) in
      let rest : c.match-place_of.self ≡ slice_set c.args.self.now w.in-Some.place m = cc in
      write_found c.args.name.now c.args.value.now c.args.self.now c.match-place_of.self w.in-Some.place m (sym c.place_of.ensures ∙ w.in-Some.is) is rest
  | in-None-2+in_ok-push-in-None-2 w ↦
      let m : Member = record { name = c.in_ok-copy.field-0; value = c.in_ok-copy-2.field-0 } in
      let is : m ≡ record { name = c.args.name.now; value = c.args.value.now } = cc (c.in_ok-copy.ensures, c.in_ok-copy-2.ensures) in
      let rest : c.match-place_of.self ≡ c.args.self.now ++ m ∷ [] = cc (w.in_ok-push-in-None-2.ensures.ok) in
      let room : length c.args.self.now ≢ 64 = λ full. w.if-len-eq-MOST.false (w.len.ensures ∙ ap length c.self.view_is ∙ full) in
      write_added c.args.name.now c.args.value.now c.args.self.now c.match-place_of.self m (sym c.place_of.ensures ∙ w.in-None.is) room is rest
]
