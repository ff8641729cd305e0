use Rattle.std.proofs.Common.{List, ℕ, subst, sym}
use Rattle.std.specs.HashMap.{get_by_text}
use Rattle.script_names.specs.NamePlaces.{FindsEach}
use Rattle.script_names.proofs.Places.{cut_found}
use Rattle.script_names.proofs.name_set.NameSet.truncate.Goals as goal

pub invariant_of-self : goal.invariant_of-self
invariant_of-self c = subst (λ (names : List (List ℕ)). FindsEach (get_by_text c.self.inside.places) names) (sym c.truncate.ensures.items)
    (cut_found (get_by_text c.self.inside.places) c.self.inside.names.items c.args.count c.self.invariant)
