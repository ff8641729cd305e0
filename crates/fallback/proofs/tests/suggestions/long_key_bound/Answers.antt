-- It is sound, and claims nothing.
use Rattle.std.proofs.Common.{◌∙◌, ◌++◌, ◌∷◌, [], ap, refl, List}
use Rattle.restrictions.specs.declared.restriction.Restriction.{Restriction}
use Rattle.restrictions.specs.declared.restriction.Restriction.TheVariants.{LongKey}
use Rattle.fallback.proofs.TestMetas.{long_key_sound}
use Rattle.fallback.proofs.tests.suggestions.long_key_bound.Goals as goal

pub returns : goal.returns
returns c = λ functions pass metas. long_key_sound functions pass metas _
    (c.in_ok-and.ensures ∙ ap (λ (rs : List Restriction). rs ++ LongKey 1 ∷ []) c.in_ok-kind.ensures) c.in_ok-single.ensures refl
