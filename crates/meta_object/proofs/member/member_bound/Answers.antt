-- The bound is made of the parts of a binding.
use Rattle.std.proofs.Common.{◌≡◌, ◌∙◌, ap, subst, sym, ℕ, Bool, Option, [], ◌∷◌, unwrap_or, refl}
use Rattle.expr_tree.specs.declared.node.Node.{Node}
use Rattle.rule_model.specs.declared.reach.Reach.{Reach}
use Rattle.rule_model.specs.MemberAnswers.{member_after, member_node, reach_of}
use Rattle.meta_object.specs.Reaching.{IsNext, number_in}
use Rattle.meta_object.proofs.MemberBounds.{member_binding}
use Rattle.meta_object.proofs.Nexts.{number_there}
use Rattle.meta_object.proofs.member.member_bound.Goals as goal

pub returns-clause-bound : goal.returns-clause-bound
returns-clause-bound g c =
    let place = c.place_in-place.result in
    let next = c.in_ok-next.next in
    let full = c.is_full-full.result in
    let moved : c.unwrap_or.result ≡ number_in next = c.unwrap_or.ensures ∙ ap (λ (o : Option ℕ). unwrap_or o 0) c.number_of-after.ensures ∙ number_there next in
    let node : c.in_ok-node.node ≡ member_node c.of-reach.result c.args.name.now place full c.unwrap_or.result = c.in_ok-node.ensures in
    λ functions metas target named. member_binding functions c.class_after.new.cx.pass.now c.args.binder.now metas c.args.class.now c.args.name.now _
    (record {
      claimed = record { class = c.number.result; name = c.in_ok-copy.field-0; place = place; full = full; after = c.number_of-after.result };
      next = next;
      is_claimed = refl;
      no_fun = refl;
      number = c.number.ensures;
      named = c.in_ok-copy.ensures;
      placed = c.place_in-place.ensures;
      full = c.is_full-full.ensures.full;
      after = c.number_of-after.ensures;
      moves = subst (λ (r : Reach). IsNext c.class_after.new.cx.pass.now c.args.class.now r c.args.name.now place next) c.of-reach.ensures c.in_ok-next.ensures.next;
      tests = c.in_ok-member_tests.ensures;
      body = c.in_ok-single.ensures
          ∙ ap (λ (n : Node). n ∷ []) (node ∙ ap (λ (r : Reach). member_node r c.args.name.now place full c.unwrap_or.result) c.of-reach.ensures)
          ∙ ap (λ (n : ℕ). member_node (reach_of c.args.binder.now) c.args.name.now place full n ∷ []) moved;
    })
    target named c.requires.key

pub returns-clause-answer : goal.returns-clause-answer
returns-clause-answer g c =
    let place = c.place_in-place.result in
    let next = c.in_ok-next.next in
    let full = c.is_full-full.result in
    let moved : c.unwrap_or.result ≡ number_in next = c.unwrap_or.ensures ∙ ap (λ (o : Option ℕ). unwrap_or o 0) c.number_of-after.ensures ∙ number_there next in
    let node : c.in_ok-node.node ≡ member_node c.of-reach.result c.args.name.now place full c.unwrap_or.result = c.in_ok-node.ensures in
    let moves : IsNext c.class_after.new.cx.pass.now c.args.class.now (reach_of c.args.binder.now) c.args.name.now place next =
    subst (λ (r : Reach). IsNext c.class_after.new.cx.pass.now c.args.class.now r c.args.name.now place next) c.of-reach.ensures c.in_ok-next.ensures.next in
    record {
      claimed = record { class = c.number.result; name = c.in_ok-copy.field-0; place = place; full = full; after = c.number_of-after.result };
      is_claimed = refl;
      number = c.number.ensures;
      named = c.in_ok-copy.ensures;
      moved = number_in next;
      after = c.number_of-after.ensures ∙ moves.after ∙ ap (λ (f : Bool). member_after (reach_of c.args.binder.now) place f (number_in next)) (sym c.is_full-full.ensures.full);
      node = c.in_ok-single.ensures
          ∙ ap (λ (n : Node). n ∷ []) (node ∙ ap (λ (r : Reach). member_node r c.args.name.now place full c.unwrap_or.result) c.of-reach.ensures)
          ∙ ap (λ (n : ℕ). member_node (reach_of c.args.binder.now) c.args.name.now place full n ∷ []) moved;
    }
