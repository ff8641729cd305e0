-- The rules that a pass knows of one binder, and what each call does to them.
use Rattle.std.specs.Prelude.{◌≡◌, ℕ, ◌+◌, List, ◌++◌, All, Contains, Option, None, Some}
use Rattle.dyn_value.specs.declared.value.Value.{Value}
use Rattle.call_site.specs.declared.choice.Choice.{Choice}
use Rattle.call_site.specs.declared.choice.Level.{Level}
use Rattle.binder_cache.specs.Known.{AddsFirst, KnownRule, Knows}
use Rattle.binder_cache.specs.Pass.{known_of, published_of}
use Rattle.rule.specs.declared.claimed.Adopted.{Adopted}
use Rattle.rule.specs.declared.rule.Rule.{Rule}
use Rattle.known_rules.specs.Adoptions.{Setting, setting_in}
use Rattle.known_rules.specs.Guarding.{Passes}
use Rattle.known_rules.specs.declared.bound.BoundRule.{BoundRule}
use Rattle.known_rules.specs.declared.known.KnownRules.{KnownRules}
use Rattle.known_rules.specs.declared.publishing.PublishAnswer.{PublishAnswer}
use Rattle.known_rules.specs.declared.publishing.PublishAnswer.TheVariants as answer

-- where they are known
abbrev pub setting_of : KnownRules → Setting
setting_of k = setting_in k.snapshots

-- the rules that are known, most recent first
abbrev pub rules_in : KnownRules → List (KnownRule Rule Adopted)
rules_in k = known_of k.rules

-- how many of them the pass has published
abbrev pub published_in : KnownRules → ℕ
published_in k = published_of k.rules

-- a known rule with this index passes
abbrev pub HasPassing : List (KnownRule Rule Adopted) → List Value → ℕ → ℕ → Type 0
HasPassing rules operands class index =
    (k : KnownRule Rule Adopted) × (Contains rules k × ((k.index ≡ index) × Passes operands class k.rule))

-- what is chosen: the index of a known rule that passes, or none where none passes
abbrev pub IsChosen : List (KnownRule Rule Adopted) → List Value → ℕ → Option ℕ → Type 0
IsChosen rules operands class (Some index) = Knows rules index × HasPassing rules operands class index
IsChosen rules operands class None = All (λ k. ¬ Passes operands class k.rule) rules

-- the index of the rule that was chosen at a site, if one was
abbrev pub chosen_at : Option Level → ℕ → Option ℕ
chosen_at (Some level) index = Some index
chosen_at None index = None

abbrev pub chosen_by : Choice → Option ℕ
chosen_by c = chosen_at c.level c.rule

-- more rules are known, before all others
abbrev pub Grows : List (KnownRule Rule Adopted) → List (KnownRule Rule Adopted) → Type 0
Grows old new = (added : List (KnownRule Rule Adopted)) × (new ≡ added ++ old)

-- nothing more is known or published
pub record IsUnpublished (old new : KnownRules) : Type 0 where
  pub rules : rules_in new ≡ rules_in old
  pub published : published_in new ≡ published_in old

-- what became of a rule that was to be published: it is known before all others, or what was known stays
abbrev pub IsPublished : KnownRules → KnownRules → BoundRule → PublishAnswer → Type 0
IsPublished old new bound (answer.At index) =
    AddsFirst (rules_in old) (rules_in new) index bound.rule bound.adopted × (published_in new ≡ published_in old + 1)
IsPublished old new bound answer.Past = IsUnpublished old new × (published_in old ≡ 64)
IsPublished old new bound answer.Refused = IsUnpublished old new
