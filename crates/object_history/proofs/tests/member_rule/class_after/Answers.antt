-- A name that is added is new, and the class has room.
use Rattle.std.proofs.Common.{◌≡◌, ◌==◌, ◌∙◌, ◌++◌, ◌∷◌, [], ap, arith, false, length, List, None, Option, Some, subst, sym, ℕ}
use Rattle.std.specs.Str.{chars}
use Rattle.std.proofs.lemmas.Bool.Decides.{nat_tests}
use Rattle.std.proofs.lemmas.Str.{chars-encodes}
use Rattle.expando_class.specs.Class.{names_of}
use Rattle.rule_model.specs.Claims.{IsPlaced, changed}
use Rattle.object_history.proofs.MemberRules.{place_within}
use Rattle.object_history.proofs.tests.member_rule.class_after.Goals as goal

pub add-requires-clause-new : goal.add-requires-clause-new
add-requires-clause-new g c =
    let names = names_of c.args.class.now in
    let name : chars c.as_str.result.now ≡ c.args.name.now = ap chars c.as_str.ensures.bytes ∙ chars-encodes c.args.name.now c.as_str.ensures.proper.0 in
    let nowhere : IsPlaced names c.args.name.now None = subst (λ (p : Option ℕ). IsPlaced names c.args.name.now p) c.in-Writes-None.is-1 c.requires.placed in
    λ k d below same. nowhere k d below (same ∙ name)

pub add-requires-clause-room : goal.add-requires-clause-room
add-requires-clause-room g c =
    let room : (length (names_of c.args.class.now) == 64) ≡ false = sym c.requires.full ∙ c.if-not-full.true in
    let few = c.requires.few in
    grind (arith, nat_tests, room, few)

pub remove-requires-clause-place : goal.remove-requires-clause-place
remove-requires-clause-place g c =
    let names = names_of c.args.class.now in
    place_within names c.in-Deletes-Some.place c.args.name.now
    (subst (λ (p : Option ℕ). IsPlaced names c.args.name.now p) c.in-Deletes-Some.is-1 c.requires.placed)

pub returns-in_ok-added-in-Writes-None-clause-names : goal.returns-in_ok-added-in-Writes-None-clause-names
returns-in_ok-added-in-Writes-None-clause-names g c =
    let names = names_of c.args.class.now in
    let name : chars c.as_str.result.now ≡ c.args.name.now = ap chars c.as_str.ensures.bytes ∙ chars-encodes c.args.name.now c.as_str.ensures.proper.0 in
    c.in_ok-added-in-Writes-None.ensures.names ∙ ap (λ (k : List ℕ). names ++ k ∷ []) name
    ∙ ap (λ (p : Option ℕ). changed names c.args.name.now p) (sym c.in-Writes-None.is-1)
