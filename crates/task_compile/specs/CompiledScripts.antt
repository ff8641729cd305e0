-- When code is the code of a script's functions and of a task.
use Rattle.std.specs.Prelude.{◌≡◌, ℕ, List, [], get_or, map, slice_get, Option, None, Some}
use Rattle.script_grammar.specs.declared.tree.Function.{Function}
use Rattle.script_grammar.specs.declared.tree.Script.{Script}
use Rattle.script_grammar.specs.declared.tree.Task.{Task}
use Rattle.script_sites.specs.Sites.{block_sites}
use Rattle.task_code.specs.declared.code.FunctionCode.{FunctionCode}
use Rattle.task_code.specs.declared.code.Steps.{Steps}
use Rattle.task_code.specs.declared.frame.Flow.{Flow}
use Rattle.task_code.specs.Acts.{ends_in}
use Rattle.task_code.specs.Codes.{Plan, task_code_act}
use Rattle.task_compile.specs.declared.names.ItemNames.{ItemNames}
use Rattle.task_compile.specs.Agreements.{cut, state_of}
use Rattle.task_compile.specs.Compiled.{HasBinders}
use Rattle.task_compile.specs.CompiledBlocks.{IsSteps}
use Rattle.task_compile.specs.Runs.{function_site, name_of, task_act, task_site}

-- the names that the items of a script declare
abbrev pub items_of : Script → ItemNames
items_of script = record { functions = map name_of script.functions; shared = script.shared }

-- the second stands where the first does, or neither is there
abbrev pub IsBoth : {A B : Type 0} → (A → B → Type 0) → Option A → Option B → Type 0
IsBoth P None None = Unit {0}
IsBoth P (Some a) (Some b) = P a b
IsBoth P _ _ = ⊥

-- the code of a function whose first site has this number, and whose first locals are its parameters
pub record IsFunctionBody (items : ItemNames) (site : ℕ) (f : Function) (c : FunctionCode) : Type 0 where
  pub params : c.params ≡ f.params
  pub body : IsSteps items f.params site f.body c.body

-- the code of a task, where no local is in scope at first
abbrev pub IsTaskBody : ItemNames → ℕ → Task → Steps → Type 0
IsTaskBody items site t body = IsSteps items [] site t.body body

-- the code of these functions, in order; the first site of each has the number that stands at its place
abbrev pub AreFunctionBodies : ItemNames → List ℕ → List Function → List FunctionCode → Type 0
AreFunctionBodies items starts fs codes =
    (k : ℕ) → IsBoth (IsFunctionBody items (get_or starts k 0)) (slice_get fs k) (slice_get codes k)

abbrev pub AreTaskBodies : ItemNames → List ℕ → List Task → List Steps → Type 0
AreTaskBodies items starts ts bodies =
    (k : ℕ) → IsBoth (IsTaskBody items (get_or starts k 0)) (slice_get ts k) (slice_get bodies k)

-- the code of a function, whose sites in the plan from this one on have its binders
pub record IsFunctionCode (plan : Plan) (items : ItemNames) (site : ℕ) (f : Function) (c : FunctionCode) : Type 0 where
  pub code : IsFunctionBody items site f c
  pub binders : HasBinders plan site (block_sites f.body)

-- the code of each function of a script
abbrev pub AreFunctionsOf : Plan → Script → List FunctionCode → Type 0
AreFunctionsOf plan script codes =
    (f : ℕ) → IsBoth (IsFunctionCode plan (items_of script) (function_site script f)) (slice_get script.functions f)
    (slice_get codes f)

-- The code does what the task does, however many turns it has and however many objects there may be; no local is in scope
-- at its end.
abbrev pub DoesTask : Plan → Script → List FunctionCode → ℕ → Steps → Type 0
DoesTask plan script codes t body = (turns limit : ℕ)
    → ends_in (cut 0) (task_act script t turns limit) ≡ ends_in (state_of []) (task_code_act plan limit codes body turns)
