-- What becomes of rules that were bound, in terms of what a pass has of its binder's rules.
use Rattle.std.proofs.Common.{◌≡◌, ℕ, ◌+◌, ◌⊎◌, inl, inr, subst}
use Rattle.known_rules.specs.declared.bound.BoundRule.{BoundRule}
use Rattle.known_rules.specs.declared.known.KnownRules.{KnownRules}
use Rattle.known_rules.specs.declared.publishing.PublishAnswer.{PublishAnswer}
use Rattle.known_rules.specs.declared.publishing.PublishAnswer.TheVariants as answer
use Rattle.known_rules.specs.Knowledge.{IsPublished, published_in, rules_in}
use Rattle.dlr_engine.specs.declared.answer.Level.TheVariants.{Bind}
use Rattle.dlr_engine.specs.Knowing.{kept_in, kept_with, KnownList, Leaves}

same_kept : (a b : KnownList) (m n dropped : ℕ) → a ≡ b → m ≡ n → kept_with a m dropped ≡ kept_with b n dropped
same_kept a b m n dropped rules published = cc

-- a rule that was published is known before all others
leaves_at : (old new : KnownRules) (bound : BoundRule) (index dropped : ℕ) → IsPublished old new bound (answer.At index)
    → Leaves Bind (kept_in old dropped) (kept_in new dropped)
leaves_at old new bound index dropped is = inl (record {
  rule = record { index = index; word = is.0.word; rule = bound.rule; note = bound.adopted };
  is = same_kept (rules_in new) _ (published_in new) (published_in old + 1) dropped is.0.new_is is.1;
})

-- where as many were published as may be, what is known stays
leaves_past : (old new : KnownRules) (bound : BoundRule) (dropped : ℕ) → IsPublished old new bound answer.Past
    → Leaves Bind (kept_in old dropped) (kept_in new dropped)
leaves_past old new bound dropped is =
    inr (inr (is.1, same_kept (rules_in new) (rules_in old) (published_in new) (published_in old) dropped is.0.rules is.0.published))

-- and so it is where memory was not refused
pub leaves_unrefused : (old new : KnownRules) (bound : BoundRule) (a : PublishAnswer) (dropped : ℕ)
    → ((index : ℕ) × (a ≡ answer.At index)) ⊎ (a ≡ answer.Past) → IsPublished old new bound a
    → Leaves Bind (kept_in old dropped) (kept_in new dropped)
leaves_unrefused old new bound a dropped (inl at) is = leaves_at old new bound at.0 dropped (subst (IsPublished old new bound) at.1 is)
leaves_unrefused old new bound a dropped (inr past) is = leaves_past old new bound dropped (subst (IsPublished old new bound) past is)
