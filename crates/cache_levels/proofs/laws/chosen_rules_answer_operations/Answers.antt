-- The lemma is the law.
use Rattle.cache_levels.specs.RuleShapes.{IsFor, PassesOn}
use Rattle.cache_levels.specs.Runs.{number_at, shape_on}
use Rattle.cache_levels.proofs.LoneSteps.{picks}
use Rattle.cache_levels.proofs.laws.chosen_rules_answer_operations.Goals as goal

pub returns : goal.returns
returns c binders sites classes earlier o class target ring old new level index word chooses tries word_is apart =
    picks (IsFor classes binders (number_at sites o.site)) (PassesOn o.operands class) (shape_on binders sites earlier o) target ring old new level word index chooses tries word_is apart
