-- That what an object keeps of itself has at most one proof.
use Rattle.std.specs.Prelude.{◌≡◌, ℕ, List, [], ◌∷◌, Option, None, Some}
use Rattle.std.specs.List.{AllByRecursion-prop}
use Rattle.std.proofs.Props.{props}
use Rattle.boxcar.specs.Table.{Shelves, Where}
use Rattle.dyn_value.specs.declared.entry.Entry.{Entry}
use Rattle.dyn_value.specs.declared.outcome.Outcome.{Outcome}
use Rattle.dyn_value.specs.declared.outcome.Outcome.TheVariants as outcome
use Rattle.dyn_value.specs.declared.value.Value.{Value}
use Rattle.dyn_value.specs.declared.value.Value.TheVariants as value
use Rattle.dyn_value.specs.Proper.{IsProperIn}
use Rattle.expando_class.specs.declared.class.ClassRef.{ClassRef}
use Rattle.expando_class.specs.declared.table.ClassTable.{ClassTable}
use Rattle.expando_class.specs.Class.{IsClassOf}
use Rattle.expando_class.specs.Shown.{IsShownBy}
use Rattle.standard_binders.specs.declared.binder.Binder.{Binder}
use Rattle.object_model.specs.Journals.{IsLegal, entry_step, left_by, outcome_by}
use Rattle.object_model.specs.Members.{Members}
use Rattle.object_model.specs.Plain.{IsAnswerIn}
use Rattle.object_history.specs.declared.tag.RowTag.{RowTag}
use Rattle.object_history.specs.Entries.{AreOfTag, IsProperEntry}

pub outcome_prop : (a b : Option Outcome) → IsProp (a ≡ b)
outcome_prop a b = Prim.hlevel props

pub legal_prop : (binders : List Binder) (ms : Members) (es : List Entry) → IsProp (IsLegal binders ms es)
legal_prop binders ms [] = Prim.hlevel props
legal_prop binders ms (e ∷ es) = λ p q i. (
  outcome_prop (outcome_by (entry_step binders ms e)) (Some e.outcome) p.0 q.0 i,
  legal_prop binders (left_by ms (entry_step binders ms e)) es p.1 q.1 i,
)

shown_prop : (classes : Shelves) (token : Option (Where (List (List ℕ)))) → IsProp (IsShownBy classes token)
shown_prop classes None = Prim.hlevel props
shown_prop classes (Some token) = Prim.hlevel props

pub class_prop : (table : ClassTable) (class : ClassRef) → IsProp (IsClassOf table class)
class_prop table class = shown_prop table.classes class.token

value_prop : (functions objects : ℕ) (v : Value) → IsProp (IsProperIn functions objects v)
value_prop functions objects value.Nil = Prim.hlevel props
value_prop functions objects (value.Bool b) = Prim.hlevel props
value_prop functions objects (value.Int n) = Prim.hlevel props
value_prop functions objects (value.Text t) = Prim.hlevel props
value_prop functions objects (value.Fun f) = Prim.hlevel props
value_prop functions objects (value.Obj o) = Prim.hlevel props

answer_prop : (functions objects : ℕ) (o : Outcome) → IsProp (IsAnswerIn functions objects o)
answer_prop functions objects (outcome.Value v) = value_prop functions objects v
answer_prop functions objects (outcome.Call f) = Prim.hlevel props
answer_prop functions objects (outcome.Make f) = Prim.hlevel props
answer_prop functions objects (outcome.Fault f) = Prim.hlevel props

entry_prop : (functions objects : ℕ) (e : Entry) → IsProp (IsProperEntry functions objects e)
entry_prop functions objects e = λ p q i. (
  AllByRecursion-prop (IsProperIn functions objects) (value_prop functions objects) e.operands p.0 q.0 i,
  answer_prop functions objects e.outcome p.1 q.1 i,
)

pub entries_prop : (tag : RowTag) (es : List Entry) → IsProp (AreOfTag tag es)
entries_prop tag = AllByRecursion-prop (IsProperEntry tag.functions tag.limit) (entry_prop tag.functions tag.limit)
