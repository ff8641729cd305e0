-- A run's next operation: which rules pass on it, and what the members of its object are.
use Rattle.std.proofs.Common.{◌≡◌, ◌≢◌, ℕ, Bool, Decides, cond, List, [], ◌∷◌, ◌++◌, refl, sym, ap, ◌∙◌, arith, Option, Some, None, eq-eqb, ne_eqb}
use Rattle.dyn_value.specs.declared.entry.Entry.{Entry}
use Rattle.dyn_value.specs.declared.value.Value.{Value}
use Rattle.standard_binders.specs.declared.binder.Binder.{Binder}
use Rattle.standard_binders.specs.declared.binder.Binder.TheVariants as binder
use Rattle.expr_tree.specs.Meanings.{passes}
use Rattle.object_model.specs.Members.{Members}
use Rattle.object_model.specs.Steps.{OnObject}
use Rattle.object_model.specs.Journals.{left_by, step_of, entry_step, members_after}
use Rattle.rule_model.specs.ClassMaps.{ClassMap}
use Rattle.rule_model.specs.Soundness.{Suit}
use Rattle.rule_model.specs.Tests.{form_of}
use Rattle.rule.specs.declared.rule.Rule.{Rule}
use Rattle.rule.specs.Rules.{test_of}
use Rattle.answered_operations.specs.declared.operation.AnsweredOperation.{AnsweredOperation}
use Rattle.cache_levels.specs.Shapes.{Shape}
use Rattle.cache_levels.specs.RuleShapes.{AreNamedOnce, ShowsAll, IsFor, binder_in, shape_of}
use Rattle.cache_levels.specs.Runs.{target_of, number_at, members_by, members_left}
use Rattle.cache_levels.proofs.Fitting.{Names, HasOperands, passes_exactly}

-- operands that suit a binder are as many as its tests look at
pub suits : (b : Binder) (operands : List Value) → Suit b operands → HasOperands (form_of b) operands
suits (binder.GetMember name ignore_case) (t ∷ ts) s = tt
suits (binder.SetMember name ignore_case) (t ∷ ts) s = tt
suits (binder.DeleteMember name ignore_case) (t ∷ ts) s = tt
suits binder.GetIndex (t ∷ k ∷ ts) s = tt
suits binder.SetIndex (t ∷ k ∷ ts) s = tt
suits binder.DeleteIndex (t ∷ k ∷ ts) s = tt
suits (binder.Invoke info) (t ∷ ts) s = tt
suits (binder.InvokeMember name ignore_case info) (t ∷ ts) s = tt
suits (binder.CreateInstance info) (t ∷ ts) s = tt
suits (binder.Convert to) (t ∷ ts) s = tt
suits (binder.UnaryOperation op) (t ∷ ts) s = tt
suits (binder.BinaryOperation op) (t ∷ u ∷ ts) s = tt
suits (binder.GetMember name ignore_case) [] s = absurd (omega arith)
suits (binder.SetMember name ignore_case) [] s = absurd (omega arith)
suits (binder.DeleteMember name ignore_case) [] s = absurd (omega arith)
suits binder.GetIndex [] s = absurd (omega arith)
suits binder.GetIndex (t ∷ []) s = absurd (omega arith)
suits binder.SetIndex [] s = absurd (omega arith)
suits binder.SetIndex (t ∷ []) s = absurd (omega arith)
suits binder.DeleteIndex [] s = absurd (omega arith)
suits binder.DeleteIndex (t ∷ []) s = absurd (omega arith)
suits (binder.Invoke info) [] s = absurd (omega arith)
suits (binder.InvokeMember name ignore_case info) [] s = absurd (omega arith)
suits (binder.CreateInstance info) [] s = absurd (omega arith)
suits (binder.Convert to) [] s = absurd (omega arith)
suits (binder.UnaryOperation op) [] s = absurd (omega arith)
suits (binder.BinaryOperation op) [] s = absurd (omega arith)
suits (binder.BinaryOperation op) (t ∷ []) s = absurd (omega arith)

some_one : (names names' : Names) → Some names ≡ Some names' → names ≡ names'
some_one names names' e = cc

-- a rule passes on an operation exactly where it is for the operation's shape
pub fits_shape : (classes : ClassMap) (binders : List Binder) (number : ℕ) (r : Rule) (shape : Shape) (operands : List Value) (class : ℕ) (names : Names)
    → AreNamedOnce classes → Suit (binder_in binders number) operands → classes class ≡ Some names → IsFor classes binders number r shape
    → Decides (passes (test_of r) operands class) (shape ≡ shape_of binders number operands names)
fits_shape classes binders number r shape operands class names once suit shown is = let b = binder_in binders number in
    let d = passes_exactly (form_of b) is.operands operands is.class class is.names names (suits b is.operands is.suit) (suits b operands suit)
    (λ e. some_one names is.names (sym shown ∙ ap classes e ∙ is.shown))
    (λ e. once class is.class is.names (shown ∙ ap Some e) is.shown) in (
      λ p. is.shape_is ∙ ap (λ looks. record { binder = number; looks = looks }) (sym (d.0 (sym (is.tests operands class) ∙ p))),
      λ e. is.tests operands class ∙ d.1 (ap (λ (s : Shape). s.looks) (sym e ∙ is.shape_is)),
    )

-- a rule is for its shape where more classes are shown
pub for_more : (old new : ClassMap) → ShowsAll old new → (binders : List Binder) (number : ℕ) (r : Rule) (shape : Shape)
    → IsFor old binders number r shape → IsFor new binders number r shape
for_more old new more binders number r shape is = record {
  operands = is.operands;
  class = is.class;
  names = is.names;
  suit = is.suit;
  shown = more is.class is.names is.shown;
  tests = is.tests;
  shape_is = is.shape_is;
}

-- one entry more
after_more : (binders : List Binder) (ms : Members) (es : List Entry) (e : Entry)
    → members_after binders ms (es ++ e ∷ []) ≡ left_by (members_after binders ms es) (entry_step binders (members_after binders ms es) e)
after_more binders ms [] e = refl
after_more binders ms (x ∷ es) e = after_more binders (left_by ms (entry_step binders ms x)) es e

module _ (binders : List Binder) (sites : List ℕ) (earlier : List AnsweredOperation) (o : AnsweredOperation) (object : ℕ) where
  abbrev before : Members
  before = members_left binders sites earlier object

  -- an operation on the object is the entry that it adds to the object's journal
  pub journal_grows : (seen : List Entry) (e : Entry) (on : OnObject) → members_after binders [] seen ≡ before
      → target_of binders sites o ≡ Some on → on.object ≡ object
      → e.binder ≡ number_at sites o.site → e.operands ≡ on.operands → members_after binders [] (seen ++ e ∷ []) ≡ members_left binders sites (o ∷ earlier) object
  journal_grows seen e on same at here number operands = after_more binders [] seen e
      ∙ (λ i. left_by (same i) (step_of binders (same i) (number i) (operands i)))
      ∙ ap (λ (b : Bool). cond b (left_by before (step_of binders before (number_at sites o.site) on.operands)) before) (sym (eq-eqb on.object object here))
      ∙ ap (λ t. members_by binders t (number_at sites o.site) object before) (sym at)

  -- and leaves the members of all others
  pub journal_stays : ((on : OnObject) → target_of binders sites o ≡ Some on → on.object ≢ object)
      → members_left binders sites (o ∷ earlier) object ≡ before
  journal_stays other = by (target_of binders sites o) refl
    where
      by : (t : Option OnObject) → target_of binders sites o ≡ t → members_by binders t (number_at sites o.site) object before ≡ before
      by None e = refl
      by (Some on) e = ap (λ (b : Bool). cond b (left_by before (step_of binders before (number_at sites o.site) on.operands)) before) (ne_eqb on.object object (other on e))
