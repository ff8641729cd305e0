-- The member's bound, and the bound of a key that names none, are the language's own.
use Rattle.std.proofs.Common.{◌≡◌, rules, true, false, sym, ◌∙◌, None, Some}
use Rattle.object_model.specs.Accesses.{is_key as may_be_name}
use Rattle.meta_object.specs.Reaching.{reached_name as name_in}
use Rattle.fallback.proofs.ObjectBounds.{long_own, member_own, of_table, on_object, other_own}
use Rattle.fallback.proofs.own.object_bound.Goals as goal

pub member_bound-requires-clause-of : goal.member_bound-requires-clause-of
member_bound-requires-clause-of g c =
    of_table c.args.functions.now.params c.args.cx.now.table.now c.args.cx.now.pass.now c.args.binder.now c.args.metas.now c.args.class.now c.requires.can c.requires.class

pub returns-in_ok-own-in-Some-clause-own : goal.returns-in_ok-own-in-Some-clause-own
returns-in_ok-own-in-Some-clause-own g c =
    let named : name_in c.args.binder.now c.args.metas.now ≡ Some c.in-Some.name.now = search rules in
    let on = on_object c.args.binder.now c.args.metas.now c.args.class.now c.requires.class in
    let short : may_be_name c.in-Some.name.now ≡ true = sym c.is_key.ensures ∙ c.if-is_key.true in
    member_own c.args.functions.now.params c.member_bound.new.cx.pass.now c.args.binder.now c.args.metas.now c.args.class.now c.in-Some.name.now c.in_ok-own-in-Some.own c.requires.class named short
    (c.in_ok-own-in-Some.ensures.bound c.args.functions.now.params c.args.metas.now on.target named) (c.in_ok-own-in-Some.ensures.tests c.args.metas.now on.target named)
    c.in_ok-own-in-Some.ensures.answer

pub returns-in_ok-long-in-Some-2-clause-own : goal.returns-in_ok-long-in-Some-2-clause-own
returns-in_ok-long-in-Some-2-clause-own g c =
    let named : name_in c.args.binder.now c.args.metas.now ≡ Some c.in-Some.name.now = search rules in
    let long : may_be_name c.in-Some.name.now ≡ false = sym c.is_key.ensures ∙ c.if-is_key.false in
    long_own c.args.functions.now.params c.args.cx.now.table.now c.args.cx.now.pass.now c.args.binder.now c.args.metas.now c.args.class.now c.in-Some.name.now c.in_ok-long-in-Some-2.long c.requires.can
    c.requires.class named long
    (record { tests = c.in_ok-long-in-Some-2.ensures.tests; body = c.in_ok-long-in-Some-2.ensures.body; claim = c.in_ok-long-in-Some-2.ensures.claim })

pub returns-in_ok-other-in-None-clause-own : goal.returns-in_ok-other-in-None-clause-own
returns-in_ok-other-in-None-clause-own g c =
    let unnamed : name_in c.args.binder.now c.args.metas.now ≡ None = search rules in
    other_own c.args.functions.now.params c.args.cx.now.table.now c.args.cx.now.pass.now c.args.binder.now c.args.metas.now c.args.class.now c.operand.result.now c.in_ok-other-in-None.other c.requires.can
    c.requires.class unnamed c.operand.ensures.there
    (record { tests = c.in_ok-other-in-None.ensures.tests ∙ (search rules); body = c.in_ok-other-in-None.ensures.body; claim = c.in_ok-other-in-None.ensures.claim })
