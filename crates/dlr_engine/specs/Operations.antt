-- What comes of an operation.
use Rattle.std.specs.Prelude.{◌≡◌, ◌≢◌, ◌⊎◌, ◌+◌, ◌++◌, ℕ, List, [], ◌∷◌, Option, None, Some, get_or, length, take}
use Rattle.std.specs.List.{AllByRecursion}
use Rattle.dyn_value.specs.declared.entry.Entry.{Entry}
use Rattle.dyn_value.specs.declared.outcome.Outcome.{Outcome}
use Rattle.dyn_value.specs.declared.value.Value.{Value}
use Rattle.dyn_value.specs.Proper.{IsProperIn}
use Rattle.object_history.specs.declared.entry_head.EntryHead.{EntryHead}
use Rattle.object_history.specs.declared.object_row.ObjectRow.{ObjectRow}
use Rattle.object_history.specs.declared.tag.RowTag.{RowTag}
use Rattle.object_history.specs.Entries.{entry_by}
use Rattle.object_model.specs.Journals.{IsLegal, members_after, outcome_by}
use Rattle.object_model.specs.Members.{Members}
use Rattle.object_model.specs.Plain.{IsAnswerIn, plain_step}
use Rattle.object_model.specs.Steps.{OnObject, object_step, on_object}
use Rattle.standard_binders.specs.declared.binder.Binder.{Binder}
use Rattle.task_code.specs.Codes.{Plan, binder_at}
use Rattle.turn_rows.specs.declared.view.Log.{Log}
use Rattle.turn_rows.specs.Lists.{StartsWith}
use Rattle.dlr_engine.specs.declared.answer.Answer.{Answer}
use Rattle.dlr_engine.specs.declared.answer.Level.{Level}
use Rattle.dlr_engine.specs.declared.answer.Level.TheVariants.{Bind}
use Rattle.dlr_engine.specs.declared.operation.Made.{Made}
use Rattle.dlr_engine.specs.declared.operation.Operation.{Operation}
use Rattle.dlr_engine.specs.declared.pass.Pass.{Pass}
use Rattle.dlr_engine.specs.declared.run.Run.{Run}
use Rattle.dlr_engine.specs.Answers.{HasProperFault}
use Rattle.dlr_engine.specs.Knowing.{IsChosenFor, IsChosenOn, KnownList, LearnsAtMost, Uses}
use Rattle.dlr_engine.specs.Levels.{raised}
use Rattle.dlr_engine.specs.Passes.{answered_of, binds_of, calls_of, drawn_of, has_others, kept_at, levels_of, limit_in, log_in, mine_in, plan_in, seen_in, IsSamePass, KeepsRulesAt}

-- Of this row what a pass has seen and made is as it was.
pub record RowStays (c d : Log ObjectRow) (row : ℕ) : Type 0 where
  pub seen : seen_in d row ≡ seen_in c row
  pub mine : mine_in d row ≡ mine_in c row

-- The entry of an operation on an object, by this binder with these operands after it: it stands in the object's
-- history at this place, after all that the pass had seen there, and its outcome is that of the operation on the members
-- there.
pub record IsEntered (binders : List Binder) (b : Binder) (x : OnObject) (e : Entry) (place : ℕ) (c d : Log ObjectRow)
    : Type 0 where
  pub before : List Entry
  pub had_seen : StartsWith before (seen_in c x.object)
  pub sees : seen_in d x.object ≡ before ++ e ∷ []
  pub legal : IsLegal binders [] (seen_in d x.object)
  pub outcome : outcome_by (object_step (members_after binders [] before) b x.operands) ≡ Some e.outcome
  pub mine : mine_in d x.object ≡ mine_in c x.object ++ e ∷ []
  pub placed : place ≡ length before
  -- where no other pass was made, it had seen all that was there
  pub alone : c.made ≡ 1 → before ≡ seen_in c x.object
  pub others : (row : ℕ) → row ≢ x.object → RowStays c d row

abbrev pub on_object_of : Operation → OnObject
on_object_of o = record { object = o.object; operands = o.arguments.now }

-- this operation's entry, where this came of it
abbrev pub IsEnteredAs : RowTag → Operation → Outcome → ℕ → Log ObjectRow → Log ObjectRow → Type 0
IsEnteredAs tag o came place c d =
    IsEntered tag.binders.now o.binder.now (on_object_of o) (entry_by o.head o.arguments.now came) place c d

-- an outcome of a run: what it has of values is proper there
abbrev pub IsProperOutcome : ℕ → ℕ → Outcome → Type 0
IsProperOutcome functions objects o = IsAnswerIn functions objects o × HasProperFault o

-- an operation on an object was made: it was entered, and its outcome is one of the run
pub record HasMade (tag : RowTag) (o : Operation) (c d : Log ObjectRow) (m : Made) : Type 0 where
  pub entered : IsEnteredAs tag o m.outcome m.place c d
  pub proper : IsProperOutcome tag.functions tag.limit m.outcome

-- A row was not operated on: a pass made nothing there, but it may have seen more.
pub record RowIsIdle (c d : Log ObjectRow) (row : ℕ) : Type 0 where
  pub seen : StartsWith (seen_in d row) (seen_in c row)
  pub mine : mine_in d row ≡ mine_in c row

-- nothing was made
abbrev pub IsIdle : Log ObjectRow → Log ObjectRow → Type 0
IsIdle c d = (row : ℕ) → RowIsIdle c d row

-- it is answered so
pub record HasMadeAnswer (tag : RowTag) (o : Operation) (c d : Log ObjectRow) (a : Answer) : Type 0 where
  pub entered : IsEnteredAs tag o a.outcome a.place c d
  pub proper : IsProperOutcome tag.functions tag.limit a.outcome
  pub row : a.row ≡ Some o.object

-- the operands are proper in the run
abbrev pub AreProper : Run → List Value → Type 0
AreProper run operands = AllByRecursion (IsProperIn (length (plan_in run).functions) (limit_in run)) operands

-- and so is an answer
abbrev pub IsProperAnswer : Run → Answer → Type 0
IsProperAnswer run a = IsProperOutcome (length (plan_in run).functions) (limit_in run) a.outcome

-- what an operation that looks at no object is answered: its operands determine it
pub record IsPlainAnswer (plan : Plan) (b : Binder) (operands : List Value) (a : Answer) : Type 0 where
  pub outcome : a.outcome ≡ plain_step plan.functions b operands
  pub row : a.row ≡ None
  pub place : a.place ≡ 0

-- The answer to an operation: one on an object is entered, and any other leaves what the pass knows of the rows.
abbrev pub IsAnsweredBy : Plan → EntryHead → Binder → List Value → Log ObjectRow → Log ObjectRow → Answer
    → Option OnObject → Type 0
IsAnsweredBy plan head b operands c d a (Some x) =
    IsEntered plan.binders b x (entry_by head x.operands a.outcome) a.place c d × (a.row ≡ Some x.object)
IsAnsweredBy plan head b operands c d a None = IsPlainAnswer plan b operands a × (d ≡ c)

-- the head of the entry of a site's operation
abbrev pub head_at : Plan → ℕ → ℕ → ℕ → EntryHead
head_at plan pass task site = record { pass = pass; task = task; binder = get_or plan.sites site 0 }

-- the answer to the operation of a site on these operands, of this task
abbrev pub IsAnswered : Plan → ℕ → ℕ → List Value → Pass → Pass → Answer → Type 0
IsAnswered plan task site operands old new a =
    let c = log_in old in let b = binder_at plan site in
    IsAnsweredBy plan (head_at plan c.number task site) b operands c (log_in new) a (on_object b operands)

-- the members of an object before the entry at this place, as a pass has seen them
abbrev pub members_before : List Binder → Log ObjectRow → ℕ → ℕ → Members
members_before binders d row place = members_after binders [] (take place (seen_in d row))

-- the rule of an operation on an object was chosen by the class that the object had in the turn, of these known rules
abbrev pub IsChosenThere : List Binder → OnObject → List Value → Log ObjectRow → Level → ℕ → KnownList → Type 0
IsChosenThere binders x operands d level place knew =
    IsChosenOn (members_before binders d x.object place) (IsChosenFor level knew operands)

-- how the rule of an operation was chosen: on its object, or on its operands alone
abbrev pub IsChosenBy : Plan → List Value → Log ObjectRow → Answer → KnownList → Option OnObject → Type 0
IsChosenBy plan operands d a knew (Some x) = IsChosenThere plan.binders x operands d a.level a.place knew
IsChosenBy plan operands d a knew None = IsChosenFor a.level knew operands 0

-- How an operation was answered by rules. At the level of binding none passed of those that the pass knew of the site's
-- binder, and one was bound; at any other one that it knew passed. What it has of other binders' rules stays.
pub record IsChosenAt (run : Run) (site : ℕ) (operands : List Value) (old new : Pass) (a : Answer) : Type 0 where
  pub uses : let plan = plan_in run in let n = get_or plan.sites site 0 in
      Uses (has_others run) a.level (kept_at old n) (kept_at new n)
      (λ knew. IsChosenBy plan operands (log_in new) a knew (on_object (binder_at plan site) operands))
  pub others : (n : ℕ) → n ≢ get_or (plan_in run).sites site 0 → KeepsRulesAt old new n

-- Of the pass its number and its draws stay, and it was taken for one call more.
pub record IsTaken (old new : Pass) : Type 0 where
  pub same : IsSamePass old new
  pub drawn : drawn_of new ≡ drawn_of old
  pub calls : calls_of new ≡ calls_of old + 1

-- bound once where the level is that of binding
abbrev pub BindsAt : Level → ℕ → ℕ → Type 0
BindsAt Bind before after = after ≡ before + 1
BindsAt _ before after = after ≡ before

-- one operation more was answered, at this level
pub record IsCounted (level : Level) (old new : Pass) : Type 0 where
  pub levels : levels_of new ≡ raised level (levels_of old)
  pub binds : BindsAt level (binds_of old) (binds_of new)

-- Memory was refused: nothing was made and counted, but the pass may have seen more, bound once, and learned rules of
-- other passes.
pub record IsRefused (run : Run) (old new : Pass) : Type 0 where
  pub idle : IsIdle (log_in old) (log_in new)
  pub levels : levels_of new ≡ levels_of old
  pub binds : (binds_of new ≡ binds_of old) ⊎ (binds_of new ≡ binds_of old + 1)
  pub rules : (n : ℕ) → LearnsAtMost (has_others run) (kept_at old n) (kept_at new n)
  pub answered : answered_of new ≡ answered_of old
