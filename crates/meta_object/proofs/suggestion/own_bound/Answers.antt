-- The bound of a member is what is suggested.
use Rattle.std.proofs.Common.{◌≡◌, rules, sym, ◌∙◌, Some}
use Rattle.meta_object.specs.Bindings.{read_name}
use Rattle.meta_object.specs.Metas.{target_class}
use Rattle.rule_model.specs.MemberAnswers.{name_of}
use Rattle.meta_object.proofs.Handing.{on_member}
use Rattle.meta_object.proofs.Targets.{absent_by, carried_is_reached}
use Rattle.meta_object.proofs.suggestion.own_bound.Goals as goal

pub returns-clause-binding : goal.returns-clause-binding
returns-clause-binding g c =
    let target : target_class c.args.metas.now ≡ Some c.in-Some.class.now = search rules in
    λ functions. c.in_ok-own.ensures.bound functions c.args.metas.now target (carried_is_reached c.args.binder.now c.args.metas.now c.member_name-name.result.now c.member_name-name.ensures)

pub returns-clause-member : goal.returns-clause-member
returns-clause-member g c =
    let target : target_class c.args.metas.now ≡ Some c.in-Some.class.now = search rules in
    on_member c.args.binder.now (target_class c.args.metas.now) (name_of c.args.binder.now) c.in-Some.class.now c.member_name-name.result.now c.in_ok-own.own target c.member_name-name.ensures
    c.in_ok-own.ensures.answer

pub returns-then-is_missing-clause-absent : goal.returns-then-is_missing-clause-absent
returns-then-is_missing-clause-absent g c =
    let target : target_class c.args.metas.now ≡ Some c.in-Some.class.now = search rules in
    absent_by (read_name c.args.binder.now) (target_class c.args.metas.now) c.in-Some.class.now target (sym c.is_missing.ensures ∙ c.if-is_missing.true)
