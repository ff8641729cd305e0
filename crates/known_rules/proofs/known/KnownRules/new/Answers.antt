use Rattle.std.proofs.Common.{[], sym, subst}
use Rattle.std.proofs.lemmas.List.Elements.{All-nil}
use Rattle.binder_cache.specs.Pass.{known_of}
use Rattle.known_rules.specs.Adoptions.{IsOfCache, Setting, setting_in}
use Rattle.known_rules.proofs.Keeping.{IsKnownIn, none_adopted}
use Rattle.known_rules.proofs.known.KnownRules.new.Goals as goal

pub invariant_of-result : goal.invariant_of-result
invariant_of-result c = let s = setting_in c.of.result in record {
  own = subst (λ (x : Setting). IsOfCache x c.in_ok-rules.rules) (sym c.of.ensures) c.in_ok-rules.ensures.pass;
  adopted = none_adopted s (known_of c.in_ok-rules.rules) [] c.in_ok-rules.ensures.known (All-nil (IsKnownIn s));
}
