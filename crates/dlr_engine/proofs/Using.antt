-- How operations used the rules of their binders.
use Rattle.std.proofs.Common.{◌≡◌, ℕ, Bool, Result, Ok, Err, refl, subst}
use Rattle.std.specs.Prelude.{OnErr}
use Rattle.known_rules.specs.declared.known.KnownRules.{KnownRules}
use Rattle.known_rules.specs.Knowledge.{published_in, rules_in}
use Rattle.dlr_engine.specs.declared.answer.Level.{Level}
use Rattle.dlr_engine.specs.Knowing.{kept_in, kept_with, ComesToKnow, KnownList, LearnsAtMost, Leaves, Uses}

pub on_err : {T E : Type 0} (P : Type 0) (r : Result T E) → P → OnErr r P
on_err P (Ok x) p = tt
on_err P (Err e) p = p

-- rules were learned at most, and nothing was published or dropped
pub learns_at_most : (others : Bool) (old new : KnownRules) (dropped : ℕ) → ComesToKnow others (rules_in old) (rules_in new)
    → published_in new ≡ published_in old → LearnsAtMost others (kept_in old dropped) (kept_in new dropped)
learns_at_most others old new dropped comes same = record { rules = comes; published = same; dropped = refl }

-- a rule was chosen of those that were then known, and what was bound was published or dropped
pub uses : (others : Bool) (level : Level) (old knew new : KnownRules) (before after : ℕ) (Chosen : KnownList → Type 0)
    → ComesToKnow others (rules_in old) (rules_in knew) → published_in knew ≡ published_in old → Chosen (rules_in knew)
    → Leaves level (kept_in knew before) (kept_in new after)
    → Uses others level (kept_in old before) (kept_in new after) Chosen
uses others level old knew new before after Chosen comes same chosen leaves = record {
  knew = rules_in knew;
  among = comes;
  chosen = chosen;
  leaves = subst (λ (n : ℕ). Leaves level (kept_with (rules_in knew) n before) (kept_in new after)) same leaves;
}
