-- What a turn does to an object.
use Rattle.std.specs.Prelude.{◌≡◌, ◌++◌, [], ◌∷◌, Option, None, Some, Result, Ok, Err, IfSome, length}
use Rattle.std.specs.declared.alloc.AllocError.{AllocError}
use Rattle.expando_class.specs.declared.table.ClassTable.{ClassTable}
use Rattle.standard_binders.specs.Functions.{Functions}
use Rattle.object_model.specs.Journals.{outcome_by}
use Rattle.object_model.specs.Plain.{IsAnswerIn}
use Rattle.object_model.specs.Steps.{object_step}
use Rattle.object_history.specs.declared.object_row.ObjectRow.{ObjectRow}
use Rattle.object_history.specs.Entries.{entry_by}
use Rattle.object_history.specs.Histories.{mark_of}
use Rattle.object_history.specs.Rows.{journal_of, members_in, tag_of}
use Rattle.dlr_engine.specs.declared.mind.Mind.{Mind}
use Rattle.dlr_engine.specs.declared.operation.Done.{Done}
use Rattle.dlr_engine.specs.declared.operation.Made.{Made}
use Rattle.dlr_engine.specs.declared.operation.Operation.{Operation}
use Rattle.dlr_engine.specs.Answers.{HasProperFault}
use Rattle.dlr_engine.specs.Knowing.{IsChosenFor, IsOwnRule, KnownList, level_of}
use Rattle.dlr_engine.specs.Minds.{binds_in, MayHaveBound}
use Rattle.dlr_engine.specs.Operations.{BindsAt}

-- There is one entry more at the end, whose outcome is that of the operation on the members before.
pub record Makes (o : Operation) (before after : ObjectRow) (m : Made) : Type 0 where
  pub journal : journal_of after ≡ journal_of before ++ entry_by o.head o.arguments.now m.outcome ∷ []
  pub outcome : outcome_by (object_step (members_in before) o.binder.now o.arguments.now) ≡ Some m.outcome
  pub place : m.place ≡ length (journal_of before)
  pub answer : IsAnswerIn (tag_of before).functions (tag_of before).limit m.outcome
  pub fault : HasProperFault m.outcome

-- The operation was made by a known rule that passes on the object as it was found, or by one that was bound, where none
-- of these rules passes.
pub record IsDone (functions : Functions) (table : ClassTable) (o : Operation) (m : Mind) (x : ObjectRow) (n : Mind)
    (rules : KnownList) (y : ObjectRow) (d : Done) : Type 0 where
  pub makes : Makes o x y d.made
  pub chosen : IsChosenFor (level_of d.bound) rules o.operands.now (mark_of x)
  pub own : IfSome d.bound (IsOwnRule functions table o.binder.now)
  pub binds : BindsAt (level_of d.bound) (binds_in m) (binds_in n)

-- The operation was made; or memory was refused, and the journal is as it was.
abbrev pub Turned : Functions → ClassTable → Operation → Mind → ObjectRow → Mind → KnownList → ObjectRow
    → Option (Result Done AllocError) → Type 0
Turned functions table o m x n rules y None = ⊥
Turned functions table o m x n rules y (Some (Ok d)) = IsDone functions table o m x n rules y d
Turned functions table o m x n rules y (Some (Err e)) = (journal_of y ≡ journal_of x) × MayHaveBound m n
