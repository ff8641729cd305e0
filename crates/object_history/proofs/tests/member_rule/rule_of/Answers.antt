-- The rule is made of copies, of the place of the name, and of the node that reaches it.
use Rattle.std.proofs.Common.{◌∙◌, nat_eq, sym}
use Rattle.std.specs.Option.{option_map}
use Rattle.expando_class.specs.Class.{number_of}
use Rattle.rule_model.specs.declared.claim.ClassClaim.{ClassClaim}
use Rattle.object_history.proofs.MemberRules.{Parts, after_is, parts_do, parts_move}
use Rattle.object_history.proofs.tests.member_rule.rule_of.Goals as goal

pub invariant_of-rule : goal.invariant_of-rule
invariant_of-rule g c =
    let place = c.place_in-place.result in
    let full = nat_eq c.size-full.result 64 in
    let claim : ClassClaim = record { class = c.number.result; name = c.in_ok-copy.field-0; place = place; full = full; after = c.number_in-after.result } in record {
      does = parts_do c.args.binder.now c.in_ok-copy-2.field-0 claim c.args.name.now c.of-reach.result c.unwrap_or-moved.result c.in_ok-node.field-0 c.in_ok-body.body
          (record {
            same_binder = c.in_ok-copy-2.ensures;
            same_name = c.in_ok-copy.ensures;
            reaches = c.of-reach.ensures;
            named = c.requires.named;
            after = after_is (option_map number_of c.in_ok-next.next) c.number_in-after.result c.of-reach.result place full c.unwrap_or-moved.result
                c.number_in-after.ensures c.in_ok-next.ensures.number c.unwrap_or-moved.ensures;
            node_is = c.in_ok-node.ensures;
            body_is = c.in_ok-body.ensures;
          });
    }

pub returns-clause-number : goal.returns-clause-number
returns-clause-number g c =
    let place = c.place_in-place.result in
    let full = nat_eq c.size-full.result 64 in
    let claim : ClassClaim = record { class = c.number.result; name = c.in_ok-copy.field-0; place = place; full = full; after = c.number_in-after.result } in
    sym c.number_in-after.ensures
    ∙ parts_move c.args.binder.now c.in_ok-copy-2.field-0 claim c.args.name.now c.of-reach.result c.unwrap_or-moved.result c.in_ok-node.field-0 c.in_ok-body.body
    (record {
      same_binder = c.in_ok-copy-2.ensures;
      same_name = c.in_ok-copy.ensures;
      reaches = c.of-reach.ensures;
      named = c.requires.named;
      after = after_is (option_map number_of c.in_ok-next.next) c.number_in-after.result c.of-reach.result place full c.unwrap_or-moved.result
          c.number_in-after.ensures c.in_ok-next.ensures.number c.unwrap_or-moved.ensures;
      node_is = c.in_ok-node.ensures;
      body_is = c.in_ok-body.ensures;
    })
