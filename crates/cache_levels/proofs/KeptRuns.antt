-- What a lone pass keeps through its operations.
use Rattle.std.proofs.Common.{◌≡◌, ℕ, ◌++◌, ◌∷◌, [], List, length, refl, sym, ap, ◌∙◌, arith}
use Rattle.std.proofs.Math.Logic.{∥∥₁_elim, ∥∥₁_map}
use Rattle.answered_operations.specs.declared.operation.AnsweredOperation.{AnsweredOperation}
use Rattle.standard_binders.specs.declared.binder.Binder.{Binder}
use Rattle.rule_model.specs.ClassMaps.{ClassMap}
use Rattle.rule.specs.declared.claimed.Adopted.{Adopted}
use Rattle.rule.specs.declared.rule.Rule.{Rule}
use Rattle.call_site.specs.declared.choice.Level.{Level}
use Rattle.cache_levels.specs.Levels.{Counts, no_counts, raised}
use Rattle.cache_levels.specs.Memories.{HasMoved, Memory}
use Rattle.cache_levels.specs.Shapes.{same_shape}
use Rattle.cache_levels.specs.RuleShapes.{AreNamedOnce, IsFor, ShowsAll}
use Rattle.cache_levels.specs.Runs.{HasNone, IsAnsweredAt, IsAsked, KeepsNothing, KeepsRun, RemembersRun, number_at, run_levels}
use Rattle.cache_levels.specs.Props.{counts_prop}
use Rattle.cache_levels.proofs.Lasting.{nothing_yet}
use Rattle.cache_levels.proofs.RunLaws.{fewer, next_answered, next_bound, remembered_stays}

absurd_prop : IsProp ⊥
absurd_prop a b = absurd a

pub nothing_run : (binders : List Binder) (sites : List ℕ) (classes : ClassMap) (m : Memory Rule Adopted) → KeepsNothing m → KeepsRun binders sites classes [] no_counts m
nothing_run binders sites classes m n few = (refl, ∣ nothing_yet (IsFor classes binders) same_shape (number_at sites) (length sites) m n.targets n.rings n.rules ∣₁)

pub answered_run : (binders : List Binder) (sites : List ℕ) (classes : ClassMap) (earlier : List AnsweredOperation) (o : AnsweredOperation) (class : ℕ) (counts : Counts)
    (old new : Memory Rule Adopted) (level : Level) → AreNamedOnce classes → KeepsRun binders sites classes earlier counts old → IsAsked binders sites classes earlier o class
    → IsAnsweredAt binders sites classes earlier o class old new level → KeepsRun binders sites classes (earlier ++ o ∷ []) (raised level counts) new
answered_run binders sites classes earlier o class counts old new level once keeps asked answered few =
    let before = keeps (fewer binders sites earlier o few) in let after = λ (mem : RemembersRun binders sites classes earlier old). next_answered binders sites classes earlier o class old new once mem asked level answered in (
      ∥∥₁_elim before.1 (counts_prop (raised level counts) (run_levels binders sites (earlier ++ o ∷ []))) (λ mem. ap (raised level) before.0 ∙ sym (after mem).0),
      ∥∥₁_map before.1 (λ mem. (after mem).1),
    )

pub past_run : (binders : List Binder) (sites : List ℕ) (classes : ClassMap) (earlier : List AnsweredOperation) (o : AnsweredOperation) (class : ℕ) (counts other : Counts)
    (old new : Memory Rule Adopted) → AreNamedOnce classes → KeepsRun binders sites classes earlier counts old → IsAsked binders sites classes earlier o class
    → HasNone binders sites o class old → length (old.known (number_at sites o.site)) ≡ 64 → KeepsRun binders sites classes (earlier ++ o ∷ []) other new
past_run binders sites classes earlier o class counts other old new once keeps asked none full few =
    absurd (∥∥₁_elim (keeps (fewer binders sites earlier o few)).1 absurd_prop (λ mem. let r = (next_bound binders sites classes earlier o class old new once mem asked none).1 few in omega arith))

pub run_stays : (binders : List Binder) (sites : List ℕ) (classes more : ClassMap) (operations : List AnsweredOperation) (counts : Counts) (old new : Memory Rule Adopted)
    → ShowsAll classes more → HasMoved old new → KeepsRun binders sites classes operations counts old → KeepsRun binders sites more operations counts new
run_stays binders sites classes more operations counts old new shows moved keeps few = let before = keeps few in
    (before.0, ∥∥₁_map before.1 (λ mem. remembered_stays binders sites classes more operations old new shows moved mem))
