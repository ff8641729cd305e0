-- That a pass is one of a run has at most one proof.
use Rattle.std.specs.Prelude.{◌≡◌, ◌<◌, ℕ, List, Option, length}
use Rattle.std.specs.List.{AllByRecursion, AllByRecursion-prop}
use Rattle.std.proofs.Props.{props}
use mathlib.Core.HLevel.{prop→set}
use Rattle.dyn_value.specs.declared.entry.Entry.{Entry}
use Rattle.dyn_value.specs.declared.outcome.Outcome.{Outcome}
use Rattle.dyn_value.specs.declared.outcome.Outcome.TheVariants as outcome
use Rattle.dyn_value.specs.Proper.{IsProperIn}
use Rattle.expando_class.specs.declared.class.ClassRef.{ClassRef}
use Rattle.expando_class.specs.declared.table.ClassTable.{ClassTable}
use Rattle.expando_class.specs.Class.{IsClassOf}
use Rattle.standard_binders.specs.declared.binder.Binder.{Binder}
use Rattle.object_history.specs.RowProps.{class_prop, legal_prop}
use Rattle.object_model.specs.Journals.{IsLegal}
use Rattle.object_model.specs.Members.{Members}
use Rattle.object_model.specs.Plain.{IsAnswerIn}
use Rattle.turn_rows.specs.Passes as turns
use Rattle.known_rules.specs.Adoptions.{Setting}
use Rattle.dlr_engine.specs.declared.pass.Pass.{Pass}
use Rattle.dlr_engine.specs.declared.run.Run.{Run}
use Rattle.dlr_engine.specs.BindingProps.{proper_prop, value_prop}
use Rattle.dlr_engine.specs.Levels.{total}
use Rattle.dlr_engine.specs.Minds.{table_in}
use Rattle.dlr_engine.specs.Passes.{IsPartOf, IsPassOf, answered_of, kept_in, levels_of, limit_in, made_in, number_of, passes_in}

legal_set : (binders : List Binder) (ms : Members) (es : List Entry) → IsSet (IsLegal binders ms es)
legal_set binders ms es = prop→set (legal_prop binders ms es)

class_set : (table : ClassTable) (class : ClassRef) → IsSet (IsClassOf table class)
class_set table class = prop→set (class_prop table class)

answer_prop : (functions objects : ℕ) (o : Outcome) → IsProp (IsAnswerIn functions objects o)
answer_prop functions objects (outcome.Value v) = value_prop functions objects v
answer_prop functions objects (outcome.Call f) = Prim.hlevel props
answer_prop functions objects (outcome.Make f) = Prim.hlevel props
answer_prop functions objects (outcome.Fault f) = Prim.hlevel props

-- the values of an entry are proper
abbrev IsOfRun : ℕ → ℕ → Entry → Type 0
IsOfRun functions objects e = AllByRecursion (IsProperIn functions objects) e.operands × IsAnswerIn functions objects e.outcome

entry_prop : (functions objects : ℕ) (e : Entry) → IsProp (IsOfRun functions objects e)
entry_prop functions objects e = λ p q i. (
  proper_prop functions objects e.operands p.0 q.0 i,
  answer_prop functions objects e.outcome p.1 q.1 i,
)

entries_set : (functions objects : ℕ) (es : List Entry) → IsSet (AllByRecursion (IsOfRun functions objects) es)
entries_set functions objects es =
    prop→set (AllByRecursion-prop (IsOfRun functions objects) (entry_prop functions objects) es)

rows_prop : (run : Run) (p : Pass) → IsProp (turns.IsPassOf run.rows p.rows)
rows_prop run p = Prim.hlevel (props, legal_set, class_set, entries_set)

table_prop : (a b : ClassTable) → IsProp (a ≡ b)
table_prop a b = Prim.hlevel props

setting_prop : (a b : Option Setting) → IsProp (a ≡ b)
setting_prop a b = Prim.hlevel props

number_prop : (m n : ℕ) → IsProp (m ≡ n)
number_prop m n = Prim.hlevel props

part_prop : (run : Run) (p : Pass) → IsProp (IsPartOf run p)
part_prop run p = λ one other i. record {
  rows = rows_prop run p one.rows other.rows i;
  table = table_prop (table_in p.mind) run.table one.table other.table i;
  known = λ n. setting_prop _ _ (one.known n) (other.known n) i;
  classes = number_prop (length p.classes.items) (limit_in run) one.classes other.classes i;
}

below_prop : (m n : ℕ) → IsProp (m < n)
below_prop m n = Prim.hlevel props

pub is_pass_prop : (run : Run) (p : Pass) → IsProp (IsPassOf run p)
is_pass_prop run p = λ one other i. record {
  part = part_prop run p one.part other.part i;
  below = below_prop (number_of p) (passes_in run) one.below other.below i;
  first = λ first. number_prop (made_in p) (passes_in run) (one.first first) (other.first first) i;
  apart = number_prop (length (kept_in p)) 0 one.apart other.apart i;
  listed = number_prop (length (answered_of p)) (total (levels_of p)) one.listed other.listed i;
}
