-- What resolved code does.
use Rattle.std.specs.Prelude.{ℕ, zero, suc, true, false, if◌then◌else◌, List, [], ◌∷◌, ◌++◌, drop, get_or, slice_get, Option, None, Some}
use Rattle.dyn_value.specs.declared.fault.Fault.TheVariants.{Depth, Turns, NoOperator}
use Rattle.dyn_value.specs.declared.outcome.Outcome.{Outcome}
use Rattle.dyn_value.specs.declared.outcome.Outcome.TheVariants as outcome
use Rattle.dyn_value.specs.declared.value.Value.{Value}
use Rattle.dyn_value.specs.declared.value.Value.TheVariants as value
use Rattle.dyn_value.specs.Texts.{plain, fault_text}
use Rattle.standard_binders.specs.declared.binder.Binder.{Binder}
use Rattle.standard_binders.specs.declared.binder.Binder.TheVariants as binder
use Rattle.standard_binders.specs.Arguments.{Arguments}
use Rattle.standard_binders.specs.Functions.{Functions}
use Rattle.object_model.specs.Steps.{OnObject, on_object}
use Rattle.task_code.specs.declared.code.FunctionCode.{FunctionCode}
use Rattle.task_code.specs.declared.code.Node.{Node}
use Rattle.task_code.specs.declared.code.NodeHead.{NodeHead}
use Rattle.task_code.specs.declared.code.NodeHead.TheFolds.{fold-Node, fold-NodeHead}
use Rattle.task_code.specs.declared.code.NodeHead.TheOpen.{Node-F, NodeHead-F, NodeSuffix-F}
use Rattle.task_code.specs.declared.code.Step.{Step}
use Rattle.task_code.specs.declared.code.Steps.{Steps}
use Rattle.task_code.specs.declared.code.Step.TheFolds.{fold-Step, fold-Steps}
use Rattle.task_code.specs.declared.code.Step.TheOpen.{Step-F, Steps-F}
use Rattle.task_code.specs.declared.frame.Flow.{Flow}
use Rattle.task_code.specs.declared.frame.Flow.TheVariants as flow
use Rattle.task_code.specs.declared.frame.Frame.{Frame}
use Rattle.task_code.specs.Acts.{Ending, Gives, Fails, Act, Ends, Prints, Asks, gives, fails, bind, and_then, catches, within, answered, draws_object, chosen, Calls, with_object, values_of}

-- what operations are made by: the distinct binders, the number of each site's binder, and the functions' parameters
pub record Plan : Type 0 where
  pub binders : List Binder
  pub sites : List ℕ
  pub functions : Functions

-- the binder of a site
abbrev pub binder_at : Plan → ℕ → Binder
binder_at plan site = get_or plan.binders (get_or plan.sites site 0) binder.GetIndex

abbrev pub info_of : Binder → Arguments
info_of (binder.Invoke info) = info
info_of (binder.CreateInstance info) = info
info_of (binder.InvokeMember name ignore_case info) = info
info_of _ = record { count = 0; names = [] }

-- the form of a call at a site
abbrev pub info_at : Plan → ℕ → Arguments
info_at plan site = info_of (binder_at plan site)

-- what code is run with
pub record Around : Type 0 where
  pub plan : Plan
  pub limit : ℕ
  pub calls : Calls

-- the locals with this value at this number; those that were not set yet are nil
abbrev pub put : ℕ → Value → List Value → List Value
put zero v [] = v ∷ []
put zero v (w ∷ ws) = v ∷ ws
put (suc k) v [] = value.Nil ∷ put k v []
put (suc k) v (w ∷ ws) = w ∷ put k v ws

abbrev pub with_put : ℕ → Value → Frame → Frame
with_put k v s = record { turns = s.turns; locals = put k v s.locals }

-- a turn is counted, where one is left
abbrev pub counts : {A : Type 0} → Frame → (Frame → Act Frame A) → Act Frame A
counts s go = elim s.turns [
  | zero ↦ fails Turns s
  | suc turns ↦ go (record { turns = turns; locals = s.locals })
]

abbrev pub asks_on : Option OnObject → ℕ → Binder → List Value → Frame → Act Frame Value
asks_on None site b operands s = Asks site b operands (answered s)
asks_on (Some x) site b operands s = counts s (λ after. Asks site b operands (answered after))

-- an operation at a site; one on an object counts a turn before
abbrev pub asks : Plan → ℕ → List Value → Frame → Act Frame Value
asks plan site operands s = asks_on (on_object (binder_at plan site) operands) site (binder_at plan site) operands s

-- the caller's locals stay
abbrev pub back_in : Frame → Ending Value → ℕ → Act Frame Value
back_in s e turns = Ends e (record { turns = turns; locals = s.locals })

-- a function is called: a turn is counted, and then its level is opened
abbrev pub calls_on : Around → ℕ → Arguments → List Value → ℕ → Frame → Act Frame Value
calls_on around f info args levels s = counts s (λ after. within levels after (λ inner. bind (around.calls f info args inner after.turns) (back_in s)))

-- what Invoke goes on with
abbrev pub invoked : Around → Arguments → List Value → ℕ → Frame → Outcome → Act Frame Value
invoked around info args levels s (outcome.Value v) = gives v s
invoked around info args levels s (outcome.Call f) = calls_on around f info args levels s
invoked around info args levels s (outcome.Make f) = fails NoOperator s
invoked around info args levels s (outcome.Fault f) = fails f s

-- a value is invoked at a site
abbrev pub invokes : Around → ℕ → Value → List Value → ℕ → Frame → Act Frame Value
invokes around site f args levels s =
    Asks site (binder_at around.plan site) (f ∷ args) (invoked around (info_at around.plan site) args levels s)

-- what CreateInstance goes on with: an object is drawn, and the function called with it
abbrev pub created : Around → Arguments → List Value → ℕ → Frame → Outcome → Act Frame Value
created around info args levels s (outcome.Make f) = draws_object around.limit s (λ n.
    and_then (calls_on around f (with_object info) (value.Obj n ∷ args) levels s) (λ v after. gives (value.Obj n) after))
created around info args levels s (outcome.Fault f) = fails f s
created around info args levels s _ = fails NoOperator s

-- what an expression does with so many levels left
abbrev pub Evaluates : Type 0
Evaluates = ℕ → Frame → Act Frame Value

-- what a suffix does with a value
abbrev pub Reads : Type 0
Reads = ℕ → Value → Frame → Act Frame Value

abbrev pub Executes : Type 0
Executes = ℕ → Frame → Act Frame Flow

-- operands, from left to right, after those that were evaluated
abbrev pub operands_act : List Value → List Evaluates → ℕ → Frame → Act Frame (List Value)
operands_act done [] levels s = gives done s
operands_act done (a ∷ rest) levels s = and_then (a levels s) (λ v after. operands_act (done ++ v ∷ []) rest levels after)

-- a list of arguments opens a level, where it has one
abbrev pub list_act : List Value → List Evaluates → ℕ → Frame → Act Frame (List Value)
list_act done [] levels s = gives done s
list_act done (a ∷ rest) levels s = within levels s (λ inner. operands_act done (a ∷ rest) inner s)

abbrev pub head_step : Around → NodeHead-F Evaluates Reads Evaluates → Evaluates
head_step around (NodeHead-F.Literal v) levels s = gives v s
head_step around (NodeHead-F.Local k) levels s = gives (get_or s.locals k value.Nil) s
head_step around (NodeHead-F.Unary site e) levels s = within levels s (λ inner.
    and_then (e inner s) (λ v after. asks around.plan site (v ∷ []) after))
head_step around (NodeHead-F.Binary site l r) levels s = within levels s (λ inner.
    and_then (l inner s) (λ left after_left.
    and_then (r inner after_left) (λ right after_right.
    asks around.plan site (left ∷ right ∷ []) after_right)))
head_step around NodeHead-F.New levels s = draws_object around.limit s (λ n. gives (value.Obj n) s)
head_step around (NodeHead-F.NewOf site target args) levels s =
    and_then (within levels s (λ inner. operands_act [] (target ∷ args) inner s)) (λ operands after.
    Asks site (binder_at around.plan site) operands (created around (info_at around.plan site) (drop 1 operands) levels after))

abbrev pub suffix_step : Around → NodeSuffix-F Evaluates Reads Evaluates → Reads
suffix_step around (NodeSuffix-F.Member site) levels v s = asks around.plan site (v ∷ []) s
suffix_step around (NodeSuffix-F.MemberCall site args) levels v s =
    and_then (list_act (v ∷ []) args levels s) (λ operands after_args.
    and_then (asks around.plan site operands after_args) (λ f after.
    invokes around (suc site) f (drop 1 operands) levels after))
suffix_step around (NodeSuffix-F.Index site key) levels v s =
    and_then (within levels s (λ inner. key inner s)) (λ k after. asks around.plan site (v ∷ k ∷ []) after)
suffix_step around (NodeSuffix-F.Call site args) levels v s =
    and_then (list_act (v ∷ []) args levels s) (λ operands after. invokes around site v (drop 1 operands) levels after)

-- suffixes, one of the other
abbrev pub suffixes_act : List Reads → Reads
suffixes_act [] levels v s = gives v s
suffixes_act (x ∷ xs) levels v s = and_then (x levels v s) (λ w after. suffixes_act xs levels w after)

abbrev pub node_step : Around → Node-F Evaluates Reads Evaluates → Evaluates
node_step around e levels s = and_then (e.head levels s) (λ v after. suffixes_act e.suffixes levels v after)

abbrev pub node_act : Around → Node → Evaluates
node_act around e = fold-Node Evaluates Reads Evaluates (head_step around) (suffix_step around) (node_step around) e

abbrev pub head_act : Around → NodeHead → Evaluates
head_act around h = fold-NodeHead Evaluates Reads Evaluates (head_step around) (suffix_step around) (node_step around) h

-- IsTrue is made of a test's value
abbrev pub tests : Around → ℕ → Node → ℕ → Frame → Act Frame Value
tests around site test levels s = and_then (node_act around test levels s) (λ v after. asks around.plan site (v ∷ []) after)

abbrev pub on_next : (Frame → Act Frame Flow) → Flow → Frame → Act Frame Flow
on_next go flow.Next s = go s
on_next go (flow.Returned v) s = gives (flow.Returned v) s

-- a block opens a level
abbrev pub block_act : Executes → ℕ → Frame → Act Frame Flow
block_act b levels s = within levels s (λ inner. b inner s)

-- A loop, by recursion on a number above the turns that are left: a turn is counted before its body is entered.
abbrev pub loops : ℕ → (Frame → Act Frame Value) → (Frame → Act Frame Flow) → Frame → Act Frame Flow
loops zero test body s = fails Turns s
loops (suc more) test body s = and_then (test s) (λ v after.
    chosen v (counts after (λ entered. and_then (body entered) (on_next (loops more test body)))) (gives flow.Next after))

abbrev pub other_act : Option Executes → ℕ → Frame → Act Frame Flow
other_act None levels s = gives flow.Next s
other_act (Some b) levels s = block_act b levels s

abbrev pub next_after : {A : Type 0} → A → Frame → Act Frame Flow
next_after v s = gives flow.Next s

abbrev pub step_step : Around → Step-F Executes Executes → Executes
step_step around (Step-F.Set k e) levels s = and_then (node_act around e levels s) (λ v after. gives flow.Next (with_put k v after))
step_step around (Step-F.SetMember site target e) levels s =
    and_then (node_act around target levels s) (λ object after_target.
    and_then (node_act around e levels after_target) (λ v after_value.
    and_then (asks around.plan site (object ∷ v ∷ []) after_value) next_after))
step_step around (Step-F.SetIndex site target key e) levels s =
    and_then (node_act around target levels s) (λ object after_target.
    and_then (within levels after_target (λ inner. node_act around key inner after_target)) (λ k after_key.
    and_then (node_act around e levels after_key) (λ v after_value.
    and_then (asks around.plan site (object ∷ k ∷ v ∷ []) after_value) next_after)))
step_step around (Step-F.DeleteMember site target) levels s =
    and_then (node_act around target levels s) (λ object after_target.
    and_then (asks around.plan site (object ∷ []) after_target) next_after)
step_step around (Step-F.DeleteIndex site target key) levels s =
    and_then (node_act around target levels s) (λ object after_target.
    and_then (within levels after_target (λ inner. node_act around key inner after_target)) (λ k after_key.
    and_then (asks around.plan site (object ∷ k ∷ []) after_key) next_after))
step_step around (Step-F.If site test body other) levels s =
    and_then (tests around site test levels s) (λ v after. chosen v (block_act body levels after) (other_act other levels after))
step_step around (Step-F.While site test body) levels s = loops (suc s.turns) (tests around site test levels) (block_act body levels) s
step_step around (Step-F.Return e) levels s = and_then (node_act around e levels s) (λ v after. gives (flow.Returned v) after)
step_step around (Step-F.Print e) levels s = and_then (node_act around e levels s) (λ v after. Prints (plain v) (gives flow.Next after))
step_step around (Step-F.Try body k caught) levels s =
    catches (block_act body levels s) (λ f after. block_act caught levels (with_put k (value.Text (fault_text f)) after))
step_step around (Step-F.Plain e) levels s = and_then (node_act around e levels s) next_after

abbrev pub steps_act : List Executes → Executes
steps_act [] levels s = gives flow.Next s
steps_act (x ∷ xs) levels s = and_then (x levels s) (on_next (steps_act xs levels))

abbrev pub steps_step : Steps-F Executes Executes → Executes
steps_step b = steps_act b.0

abbrev pub step_act : Around → Step → Executes
step_act around x = fold-Step Executes Executes (step_step around) steps_step x

abbrev pub body_act : Around → Steps → Executes
body_act around b = fold-Steps Executes Executes (step_step around) steps_step b

-- a function's value: what it returned, or nil
abbrev pub body_ends : Ending Flow → Frame → Act ℕ Value
body_ends (Gives flow.Next) s = gives value.Nil s.turns
body_ends (Gives (flow.Returned v)) s = gives v s.turns
body_ends (Fails f) s = fails f s.turns

abbrev pub function_act : Around → Option FunctionCode → Arguments → List Value → ℕ → ℕ → Act ℕ Value
function_act around None info args levels turns = fails NoOperator turns
function_act around (Some f) info args levels turns =
    bind (body_act around f.body levels (record { turns = turns; locals = values_of f.params info args })) body_ends

-- What the functions do, by recursion on a number that is not below the levels left: each call opens a level.
abbrev pub calls_of : Plan → ℕ → List FunctionCode → ℕ → Calls
calls_of plan limit functions zero f info args levels turns = fails Depth turns
calls_of plan limit functions (suc more) f info args levels turns =
    function_act (record { plan = plan; limit = limit; calls = calls_of plan limit functions more }) (slice_get functions f) info args levels turns

abbrev pub around_of : Plan → ℕ → List FunctionCode → ℕ → Around
around_of plan limit functions more = record { plan = plan; limit = limit; calls = calls_of plan limit functions more }

-- what the code of a task does with so many turns: no local is set where it begins, and 256 levels may be open at once
abbrev pub task_code_act : Plan → ℕ → List FunctionCode → Steps → ℕ → Act Frame Flow
task_code_act plan limit functions body turns =
    body_act (around_of plan limit functions 256) body 256 (record { turns = turns; locals = [] })
