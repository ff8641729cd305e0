use Rattle.std.proofs.Common.{◌≡◌, ◌≤◌, ◌++◌, ◌∷◌, [], length, sym, ◌∙◌, ap, subst}
use Rattle.std.specs.Str.{chars}
use Rattle.expando_class.specs.Listing.{IsName, AreNames, chars_of_each}
use Rattle.expando_class.proofs.Texts.{cloned, pushed, name_of_text, one_more}
use Rattle.expando_class.proofs.names.Names.with.Goals as goal

names_are : (c : goal.In_ok-push) → chars_of_each c.push.new.self.items ≡ c.args.self.now ++ chars c.args.name.now ∷ []
names_are c = ap chars_of_each c.in_ok-push.ensures.items ∙ pushed c.in_ok-names.names.items c.in_ok-name.name
    ∙ (λ i. (cloned c.self.inside.names.items c.in_ok-names.names.items c.in_ok-names.ensures.cases.0 ∙ c.self.view_is) i ++ chars (c.in_ok-name.ensures.ok i) ∷ [])

is_name : (c : goal.In_ok-push) → IsName (chars c.args.name.now)
is_name c = subst (λ bytes. IsName (chars bytes)) c.in_ok-name.ensures.ok
    (name_of_text c.in_ok-name.name (subst (λ bytes. length bytes ≤ 64) (sym c.in_ok-name.ensures.ok) c.requires.short))

pub invariant_of-result : goal.invariant_of-result
invariant_of-result c = subst AreNames (sym (names_are c)) (one_more c.args.self.now (chars c.args.name.now) (subst AreNames c.self.view_is c.self.invariant) c.requires.new (is_name c) c.requires.room)

pub returns : goal.returns
returns c = names_are c
