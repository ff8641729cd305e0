-- What a run's next operation does to the levels and to what is remembered.
use Rattle.std.proofs.Common.{◌≡◌, ◌≢◌, ◌<◌, ℕ, ◌++◌, ◌∷◌, [], List, length, reverse, refl, sym, ap, ◌∙◌, subst, Some, suc, ◌≤◌}
use Rattle.std.proofs.lemmas.List.{reverse-append, length-reverse}
use Rattle.answered_operations.specs.declared.operation.AnsweredOperation.{AnsweredOperation}
use Rattle.dyn_value.specs.declared.entry.Entry.{Entry}
use Rattle.dyn_value.specs.declared.value.Value.{Value}
use Rattle.expr_tree.specs.Meanings.{passes}
use Rattle.restrictions.specs.Meanings.{all_hold}
use Rattle.standard_binders.specs.declared.binder.Binder.{Binder}
use Rattle.object_model.specs.Journals.{members_after}
use Rattle.object_model.specs.Steps.{OnObject}
use Rattle.rule_model.specs.ClassMaps.{ClassMap}
use Rattle.rule_model.specs.Soundness.{Suit}
use Rattle.rule_model.specs.Tests.{form_of, tests_of}
use Rattle.rule.specs.declared.claimed.Adopted.{Adopted}
use Rattle.rule.specs.declared.rule.Rule.{Rule}
use Rattle.rule.specs.Rules.{test_of}
use Rattle.call_site.specs.declared.choice.Level.{Level}
use Rattle.call_site.specs.declared.choice.Level.TheVariants.{Bind}
use Rattle.cache_levels.specs.Levels.{Asked, Counts, level_after, levels_of, raised, total}
use Rattle.cache_levels.specs.Memories.{Fits, HasMoved, Memory}
use Rattle.cache_levels.specs.Shapes.{Shape, same_shape}
use Rattle.cache_levels.specs.RuleShapes.{AreNamedOnce, IsFor, PassesOn, ShowsAll, binder_in, shape_of}
use Rattle.cache_levels.specs.Runs.{HasFewShapes, HasNone, IsAnsweredAt, IsAsked, RemembersRun, asked_after, members_in, members_left, number_at, run_levels, shape_on, shapes_in, shapes_of, target_of}
use Rattle.cache_levels.proofs.Lasting.{counts_sum, meets_fewer, remembers_moved, remembers_weaker}
use Rattle.cache_levels.proofs.Next.{answered_keeps, answered_level, none_level, room}
use Rattle.cache_levels.proofs.RunSteps.{fits_shape, for_more, journal_grows, journal_stays}
use Rattle.cache_levels.proofs.SameShapes.{shapes_decide}

backwards : (earlier : List AnsweredOperation) (o : AnsweredOperation) → reverse (earlier ++ o ∷ []) ≡ o ∷ reverse earlier
backwards earlier o = reverse-append earlier (o ∷ [])

module _ (binders : List Binder) (sites : List ℕ) where
  shapes_more : (earlier : List AnsweredOperation) (o : AnsweredOperation)
      → shapes_in binders sites (earlier ++ o ∷ []) ≡ asked_after binders sites (reverse earlier) o ∷ shapes_in binders sites earlier
  shapes_more earlier o = ap (shapes_of binders sites) (backwards earlier o)

  levels_more : (earlier : List AnsweredOperation) (o : AnsweredOperation) (level : Level)
      → level_after same_shape (number_at sites) (shapes_in binders sites earlier) (asked_after binders sites (reverse earlier) o) ≡ level
      → run_levels binders sites (earlier ++ o ∷ []) ≡ raised level (run_levels binders sites earlier)
  levels_more earlier o level is = ap (levels_of same_shape (number_at sites)) (shapes_more earlier o) ∙ ap (λ (l : Level). raised l (run_levels binders sites earlier)) is

  shapes_length : (operations : List AnsweredOperation) → length (shapes_of binders sites operations) ≡ length operations
  shapes_length [] = refl
  shapes_length (o ∷ earlier) = ap suc (shapes_length earlier)

  pub all_counted : (operations : List AnsweredOperation) → total (run_levels binders sites operations) ≡ length operations
  all_counted operations = counts_sum same_shape (number_at sites) (shapes_in binders sites operations) ∙ shapes_length (reverse operations) ∙ length-reverse operations

  pub fewer : (earlier : List AnsweredOperation) (o : AnsweredOperation) → HasFewShapes binders sites (earlier ++ o ∷ [])
      → HasFewShapes binders sites earlier
  fewer earlier o few = meets_fewer same_shape (number_at sites) (asked_after binders sites (reverse earlier) o) (shapes_in binders sites earlier)
      (λ b. subst (λ (asked : List (Asked Shape)). length (Rattle.cache_levels.specs.Levels.met_by same_shape (number_at sites) asked b) ≤ 64) (shapes_more earlier o) (few b))

  pub grows : (earlier : List AnsweredOperation) (o : AnsweredOperation) (on : OnObject) (seen : List Entry) (e : Entry)
      → target_of binders sites o ≡ Some on → e.binder ≡ number_at sites o.site → e.operands ≡ on.operands
      → members_after binders [] seen ≡ members_in binders sites earlier on.object → members_after binders [] (seen ++ e ∷ []) ≡ members_in binders sites (earlier ++ o ∷ []) on.object
  grows earlier o on seen e at number operands same = journal_grows binders sites (reverse earlier) o on.object seen e on same at refl number operands
      ∙ ap (λ (os : List AnsweredOperation). members_left binders sites os on.object) (sym (backwards earlier o))

  pub stays : (earlier : List AnsweredOperation) (o : AnsweredOperation) (object : ℕ) → ((on : OnObject) → target_of binders sites o ≡ Some on → on.object ≢ object)
      → members_in binders sites (earlier ++ o ∷ []) object ≡ members_in binders sites earlier object
  stays earlier o object other = ap (λ (os : List AnsweredOperation). members_left binders sites os object) (backwards earlier o) ∙ journal_stays binders sites (reverse earlier) o object other

  module _ (classes : ClassMap) (earlier : List AnsweredOperation) (o : AnsweredOperation) (class : ℕ) (old new : Memory Rule Adopted) (once : AreNamedOnce classes)
      (mem : RemembersRun binders sites classes earlier old) (asked : IsAsked binders sites classes earlier o class) where
    fits : Fits (IsFor classes binders (number_at sites o.site)) (PassesOn o.operands class) (shape_on binders sites earlier o)
    fits r other is = fits_shape classes binders (number_at sites o.site) r other o.operands class _ once asked.suit asked.shown is

    pub next_answered : (level : Level) → IsAnsweredAt binders sites classes earlier o class old new level
        → (run_levels binders sites (earlier ++ o ∷ []) ≡ raised level (run_levels binders sites earlier)) × RemembersRun binders sites classes (earlier ++ o ∷ []) new
    next_answered level a = (
      levels_more earlier o level (answered_level (IsFor classes binders) same_shape shapes_decide (number_at sites) (length sites) (shapes_in binders sites earlier) old new mem (PassesOn o.operands class) (shape_on binders sites earlier o) o.site asked.near fits a.word level a.answers),
      subst (λ (os : List AnsweredOperation). Rattle.cache_levels.specs.Memories.Remembers (IsFor classes binders) same_shape (number_at sites) (length sites) (shapes_of binders sites os) new) (sym (backwards earlier o))
          (answered_keeps (IsFor classes binders) same_shape shapes_decide (number_at sites) (length sites) (shapes_in binders sites earlier) old new mem (PassesOn o.operands class) (shape_on binders sites earlier o) o.site asked.near fits a.word level a.answers a.settles a.others),
    )

    pub next_bound : HasNone binders sites o class old
        → (run_levels binders sites (earlier ++ o ∷ []) ≡ raised Bind (run_levels binders sites earlier)) × (HasFewShapes binders sites (earlier ++ o ∷ []) → length (old.known (number_at sites o.site)) < 64)
    next_bound none = (
      levels_more earlier o Bind (none_level (IsFor classes binders) same_shape shapes_decide (number_at sites) (length sites) (shapes_in binders sites earlier) old new mem (PassesOn o.operands class) (shape_on binders sites earlier o) o.site asked.near fits none),
      λ few. room (IsFor classes binders) same_shape shapes_decide (number_at sites) (length sites) (shapes_in binders sites earlier) old new mem (PassesOn o.operands class) (shape_on binders sites earlier o) o.site asked.near fits none
          (λ b. subst (λ (asked : List (Asked Shape)). length (Rattle.cache_levels.specs.Levels.met_by same_shape (number_at sites) asked b) ≤ 64) (shapes_more earlier o) (few b)),
    )

  pub remembered_stays : (classes more : ClassMap) (operations : List AnsweredOperation) (old new : Memory Rule Adopted)
      → ShowsAll classes more → HasMoved old new
      → RemembersRun binders sites classes operations old → RemembersRun binders sites more operations new
  remembered_stays classes more operations old new shows moved mem =
      remembers_weaker (IsFor classes binders) (IsFor more binders) (for_more classes more shows binders) same_shape (number_at sites) (length sites) (shapes_in binders sites operations) new
      (remembers_moved (IsFor classes binders) same_shape (number_at sites) (length sites) (shapes_in binders sites operations) old new moved mem)

-- a rule whose tests are those by metaobjects of operands is for the operands' shape
pub for_shape : (classes : ClassMap) (binders : List Binder) (number : ℕ) (operands : List Value) (class : ℕ) (names : List (List ℕ)) (r : Rule) (tests : List Rattle.restrictions.specs.declared.restriction.Restriction.Restriction)
    → Suit (binder_in binders number) operands → classes class ≡ Some names → tests ≡ tests_of (form_of (binder_in binders number)) operands class
    → ((asked : List Value) (other : ℕ) → passes (test_of r) asked other ≡ all_hold tests asked other)
    → IsFor classes binders number r (shape_of binders number operands names)
for_shape classes binders number operands class names r tests suit shown is passes = record {
  operands = operands;
  class = class;
  names = names;
  suit = suit;
  shown = shown;
  tests = λ asked other. passes asked other ∙ ap (λ rs. all_hold rs asked other) is;
  shape_is = refl;
}
