-- What contracts see of an engine's run and of its passes.
use Rattle.std.specs.Prelude.{◌≡◌, ◌==◌, not, Bool, ℕ, ◌+◌, ◌<◌, List, [], ◌∷◌, ◌++◌, length, map, slice_get, slice_index_or}
use Rattle.answered_operations.specs.declared.operation.AnsweredOperation.{AnsweredOperation}
use Rattle.answered_operations.specs.Operations.{operations_of}
use Rattle.dyn_value.specs.declared.entry.Entry.{Entry}
use Rattle.object_history.specs.declared.object_row.ObjectRow.{ObjectRow}
use Rattle.object_history.specs.Histories.{by_of}
use Rattle.object_history.specs.Rows.{journal_of}
use Rattle.script_program.specs.declared.program.Program.{Program}
use Rattle.script_program.specs.Plans.{plan_of}
use Rattle.script_program.specs.Programs.{functions_of, script_of}
use Rattle.task_code.specs.Codes.{Plan}
use Rattle.turn_rows.specs.declared.view.Log.{Log}
use Rattle.turn_rows.specs.Passes as turns
use Rattle.dlr_engine.specs.declared.answer.Levels.{Levels}
use Rattle.dlr_engine.specs.declared.pass.Drawn.{Drawn}
use Rattle.dlr_engine.specs.declared.pass.Pass.{Pass}
use Rattle.dlr_engine.specs.declared.run.Run.{Run}
use Rattle.known_rules.specs.declared.known.KnownRules.{KnownRules}
use Rattle.dlr_engine.specs.Draws.{number_drawn}
use Rattle.dlr_engine.specs.Knowing.{kept_with, published_by, rules_of, Kept, KnownList, KnowsEach, KnowsNone}
use Rattle.dlr_engine.specs.Levels.{total}
use Rattle.dlr_engine.specs.Minds as minds

abbrev pub program_in : Run → Program
program_in run = run.program.now

-- what its operations are made by
abbrev pub plan_in : Run → Plan
plan_in run = plan_of (program_in run)

-- how many objects there may be
abbrev pub limit_in : Run → ℕ
limit_in run = run.tag.limit

-- how many passes it has
abbrev pub passes_in : Run → ℕ
passes_in run = run.passes

-- how many objects its tasks share
abbrev pub shared_in : Run → ℕ
shared_in run = length (script_of (program_in run)).shared

-- what a pass knows of the rows
abbrev pub log_in : Pass → Log ObjectRow
log_in p = turns.log_of p.rows

abbrev pub number_of : Pass → ℕ
number_of p = (log_in p).number

-- how many passes were made, as the first one knows; 0 in any other
abbrev pub made_in : Pass → ℕ
made_in p = (log_in p).made

abbrev pub drawn_of : Pass → List Drawn
drawn_of p = p.drawn.items

-- the numbers that it drew
abbrev pub numbers_of : Pass → List ℕ
numbers_of p = map number_drawn (drawn_of p)

abbrev pub levels_of : Pass → Levels
levels_of p = p.levels

-- how often it bound
abbrev pub binds_of : Pass → ℕ
binds_of p = minds.binds_in p.mind

-- how many operations and draws were asked
abbrev pub calls_of : Pass → ℕ
calls_of p = p.calls

-- what it has seen of a row's history
abbrev pub seen_in : Log ObjectRow → ℕ → List Entry
seen_in c row = turns.seen_in journal_of c row

abbrev pub seen_of : Pass → ℕ → List Entry
seen_of p row = seen_in (log_in p) row

-- the entries that it made there
abbrev pub mine_in : Log ObjectRow → ℕ → List Entry
mine_in c row = turns.mine_in journal_of by_of c row

abbrev pub mine_of : Pass → ℕ → List Entry
mine_of p row = mine_in (log_in p) row

-- what the passes know that were joined to it
abbrev pub kept_in : Pass → List (Log ObjectRow)
kept_in p = turns.kept_of p.rows

-- what it knows, and what those know
abbrev pub logs_in : Pass → List (Log ObjectRow)
logs_in p = turns.logs_of p.rows

-- the rules that it knows of the binder with this number, most recent first
abbrev pub rules_at : Pass → ℕ → KnownList
rules_at p n = rules_of (slice_get p.known.items n)

-- the operations that it answered, in order
abbrev pub answered_of : Pass → List AnsweredOperation
answered_of p = operations_of p.answered

-- how many rules it dropped for want of memory
abbrev pub dropped_of : Pass → ℕ
dropped_of p = p.dropped

-- how many of them it published
abbrev pub published_at : Pass → ℕ → ℕ
published_at p n = published_by (slice_get p.known.items n)

-- what it has of the rules of this binder
abbrev pub kept_at : Pass → ℕ → Kept
kept_at p n = kept_with (rules_at p n) (published_at p n) (dropped_of p)

-- what it knows of the rules of this binder stays, and how many of them it published
pub record KeepsRulesAt (old new : Pass) (n : ℕ) : Type 0 where
  pub rules : rules_at new n ≡ rules_at old n
  pub published : published_at new n ≡ published_at old n

-- whether the run has further passes beside the first
abbrev pub has_others : Run → Bool
has_others run = not (passes_in run == 1)

-- what is known of the rules of each binder is of the run's caches, its functions and its classes
abbrev pub KnowsRulesOf : Run → List KnownRules → Type 0
KnowsRulesOf run known =
    KnowsEach run.caches.items run.tag.binders.now (functions_of (program_in run)) run.table known

-- it is a pass of the run, while passes are made or joined
pub record IsPartOf (run : Run) (p : Pass) : Type 0 where
  pub rows : turns.IsPassOf run.rows p.rows
  pub table : minds.table_in p.mind ≡ run.table
  pub known : KnowsRulesOf run p.known.items
  pub classes : length p.classes.items ≡ limit_in run

-- it is a pass of the run, all of whose passes were made, and none was joined to it; it answered as many operations as it
-- counts
pub record IsPassOf (run : Run) (p : Pass) : Type 0 where
  pub part : IsPartOf run p
  pub below : number_of p < passes_in run
  pub first : number_of p ≡ 0 → made_in p ≡ passes_in run
  pub apart : length (kept_in p) ≡ 0
  pub listed : length (answered_of p) ≡ total (levels_of p)

-- these are all passes of the run, each at the place of its number
pub record ArePasses (run : Run) (ps : List Pass) : Type 0 where
  pub count : length ps ≡ passes_in run
  pub own : (k : ℕ) (d : Pass) → k < length ps → IsPassOf run (slice_index_or ps k d)
  pub numbers : (k : ℕ) (d : Pass) → k < length ps → number_of (slice_index_or ps k d) ≡ k

-- its number, its count of passes and the passes that were joined to it stay
abbrev pub IsSamePass : Pass → Pass → Type 0
IsSamePass old new = turns.IsSamePass old.rows new.rows

-- It has seen, made, drawn, counted and bound nothing, knows no rules, and no pass was joined to it.
pub record IsNew (p : Pass) : Type 0 where
  pub seen : (row : ℕ) → seen_of p row ≡ []
  pub drawn : drawn_of p ≡ []
  pub levels : total (levels_of p) ≡ 0
  pub binds : binds_of p ≡ 0
  pub calls : calls_of p ≡ 0
  pub kept : kept_in p ≡ []
  pub rules : KnowsNone p.known.items
  pub dropped : dropped_of p ≡ 0
  pub answered : answered_of p ≡ []

-- each of them has done nothing
abbrev pub AreNew : List Pass → Type 0
AreNew ps = (k : ℕ) (d : Pass) → k < length ps → IsNew (slice_index_or ps k d)

-- what it answered and counts, how often it bound and what it knows of rules stay
pub record IsUncounted (old new : Pass) : Type 0 where
  pub levels : levels_of new ≡ levels_of old
  pub binds : binds_of new ≡ binds_of old
  pub rules : (n : ℕ) → KeepsRulesAt old new n
  pub dropped : dropped_of new ≡ dropped_of old
  pub answered : answered_of new ≡ answered_of old

-- nothing of it changes but the count of passes that it made
pub record IsUntaken (old new : Pass) : Type 0 where
  pub number : number_of new ≡ number_of old
  pub rows : (log_in new).rows ≡ (log_in old).rows
  pub drawn : drawn_of new ≡ drawn_of old
  pub uncounted : IsUncounted old new
  pub calls : calls_of new ≡ calls_of old
  pub kept : kept_in new ≡ kept_in old

-- this was drawn: it stands at the end of the pass's draws, and what the pass knows of the rows is as it was
pub record IsDrawnBy (d : Drawn) (old new : Pass) : Type 0 where
  pub rows : (log_in new).rows ≡ (log_in old).rows
  pub drawn : drawn_of new ≡ drawn_of old ++ d ∷ []
  pub uncounted : IsUncounted old new
  pub calls : calls_of new ≡ calls_of old + 1
