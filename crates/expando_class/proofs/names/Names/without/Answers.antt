use Rattle.std.proofs.Common.{◌≡◌, sym, ◌∙◌, ap, subst}
use Rattle.std.specs.List.{remove}
use Rattle.expando_class.specs.Listing.{AreNames, chars_of_each}
use Rattle.expando_class.proofs.Texts.{cloned, removed, one_less}
use Rattle.expando_class.proofs.names.Names.without.Goals as goal

names_are : (c : goal.After-drop-remove) → chars_of_each c.remove.new.self.items ≡ remove c.args.self.now c.args.place
names_are c = ap chars_of_each c.remove.ensures.items ∙ removed c.in_ok-names.names.items c.args.place
    ∙ ap (λ names. remove names c.args.place) (cloned c.self.inside.names.items c.in_ok-names.names.items c.in_ok-names.ensures.cases.0 ∙ c.self.view_is)

pub invariant_of-result : goal.invariant_of-result
invariant_of-result c = subst AreNames (sym (names_are c)) (one_less c.args.self.now c.args.place (subst AreNames c.self.view_is c.self.invariant) c.requires)

pub returns : goal.returns
returns c = names_are c
