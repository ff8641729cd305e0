-- What small parts of scripts do, where an operation on an object gives nil and a draw the number 7.
use Rattle.std.proofs.Common.{◌≡◌, refl, List, [], ◌∷◌, ℕ, ◌+◌, pos, true, false, Option, None, Some, length, slice_get}
use Rattle.dyn_value.specs.declared.fault.Fault.TheVariants.{Turns, Depth, NotCallable, ZeroDivide}
use Rattle.dyn_value.specs.declared.operator.BinOp.TheVariants as op
use Rattle.dyn_value.specs.declared.outcome.Outcome.{Outcome}
use Rattle.dyn_value.specs.declared.outcome.Outcome.TheVariants as outcome
use Rattle.dyn_value.specs.declared.value.Value.{Value}
use Rattle.dyn_value.specs.declared.value.Value.TheVariants as value
use Rattle.dyn_value.specs.declared.value.Kind.TheVariants as kind
use Rattle.dyn_value.specs.Texts.{plain, fault_text}
use Rattle.standard_binders.specs.declared.binder.Binder.{Binder}
use Rattle.standard_binders.specs.Arguments.{Arguments}
use Rattle.object_model.specs.Plain.{plain_step}
use Rattle.object_model.specs.Steps.{OnObject, on_object}
use Rattle.script_grammar.specs.declared.tree.Head.TheOpen.{Head-F, Suffix-F}
use Rattle.script_grammar.specs.declared.tree.Script.{Script}
use Rattle.task_code.specs.declared.frame.Flow.{Flow}
use Rattle.task_code.specs.declared.frame.Flow.TheVariants as flow
use Rattle.task_code.specs.Acts.{Ending, Gives, Fails, Act, Ends, Prints, Asks, Draws, gives, catches, values_of}
use Rattle.task_compile.specs.States.{Local, State, Given, calls_on, locals_of, declared}
use Rattle.task_compile.specs.Evaluations.{Evaluates, Reads, ArgPart, head_part, suffix_part, layer_part}
use Rattle.task_compile.specs.Executions.{Executes, stmts_part, then_part, while_part, block_act, caught_act}
use Rattle.task_compile.specs.Runs.{body_act, calls_of, given_by, task_act, task_site}

-- what was seen of a run: the sites that asked, the lines, and how it ended
record Seen (S A : Type 0) : Type 0 where
  asked : List ℕ
  lines : List (List ℕ)
  came : Ending A
  state : S

abbrev answer : Option OnObject → Binder → List Value → Outcome
answer None b operands = plain_step (((1 ∷ []) ∷ []) ∷ []) b operands
answer (Some x) b operands = outcome.Value value.Nil

abbrev after_asked : {S A : Type 0} → ℕ → Seen S A → Seen S A
after_asked site r = record { asked = site ∷ r.asked; lines = r.lines; came = r.came; state = r.state }

abbrev after_line : {S A : Type 0} → List ℕ → Seen S A → Seen S A
after_line line r = record { asked = r.asked; lines = line ∷ r.lines; came = r.came; state = r.state }

abbrev seen : {S A : Type 0} → Act S A → Seen S A
seen (Ends e s) = record { asked = []; lines = []; came = e; state = s }
seen (Prints line act) = after_line line (seen act)
seen (Asks site b operands act) = after_asked site (seen (act (answer (on_object b operands) b operands)))
seen (Draws act) = seen (act 7)

-- a shared name 5, a function 6 that gives its number of turns spent
abbrev given : Given
given = record { shared = (5 ∷ []) ∷ []; functions = (6 ∷ []) ∷ []; limit = 9; calls = λ f info args levels turns. gives (value.Int (pos (length args))) turns }

abbrev alone : Evaluates → Evaluates
alone h = layer_part (record { head = h; suffixes = [] })

abbrev int : ℕ → Evaluates
int n = alone (head_part given (Head-F.Int (pos n)))

abbrev truth : Evaluates
truth = alone (head_part given Head-F.True)

abbrev name : ℕ → Evaluates
name n = alone (head_part given (Head-F.Name (n ∷ [])))

abbrev divided : Evaluates
divided = alone (head_part given (Head-F.Binary op.Divide (int 1) (int 0)))

abbrev with_suffix : Evaluates → Reads → Evaluates
with_suffix h x = layer_part (record { head = h; suffixes = x ∷ [] })

abbrev arg : Evaluates → ArgPart
arg e = record { name = None; part = e }

abbrev prints : Evaluates → Executes
prints e = then_part e (λ v after. Prints (plain v) (gives flow.Next after))

abbrev returns : Evaluates → Executes
returns e = then_part e (λ v after. gives (flow.Returned v) after)

abbrev lets : ℕ → Evaluates → Executes
lets n e = then_part e (λ v after. gives flow.Next (declared (n ∷ []) v after))

abbrev state : ℕ → List Local → State
state turns locals = record { turns = turns; locals = locals }

abbrev local : ℕ → Value → Local
local n v = record { name = n ∷ []; value = v }

-- a loop with no end takes all turns, and fails where one more would be counted
endless : seen ((while_part truth (stmts_part [])).from 0 256 (state 3 []))
    ≡ record { asked = 0 ∷ 0 ∷ 0 ∷ 0 ∷ []; lines = []; came = Fails Turns; state = state 0 [] }
endless = refl

-- a return in a loop ends it
return_in_loop : seen ((while_part truth (stmts_part (returns (int 4) ∷ []))).from 0 256 (state 3 []))
    ≡ record { asked = 0 ∷ []; lines = []; came = Gives (flow.Returned (value.Int (pos 4))); state = state 2 [] }
return_in_loop = refl

-- nothing comes after a return
after_return : seen ((stmts_part (returns (int 4) ∷ prints (int 5) ∷ [])).from 0 256 (state 3 []))
    ≡ record { asked = []; lines = []; came = Gives (flow.Returned (value.Int (pos 4))); state = state 3 [] }
after_return = refl

-- the local of a block is out of scope after it, also where the block fails
out_of_scope : seen (block_act (stmts_part (lets 2 (int 4) ∷ prints divided ∷ [])) 0 256 (state 3 (local 1 value.Nil ∷ [])))
    ≡ record { asked = 0 ∷ []; lines = []; came = Fails ZeroDivide; state = state 3 (local 1 value.Nil ∷ []) }
out_of_scope = refl

-- a caught fault is a text in the block of `catch`, and its name is out of scope after it
caught : seen (catches (block_act (stmts_part (prints divided ∷ [])) 0 256 (state 3 [])) (caught_act (stmts_part (prints (name 2) ∷ [])) (2 ∷ []) 1 256))
    ≡ record { asked = 0 ∷ []; lines = plain (value.Text (fault_text ZeroDivide)) ∷ []; came = Gives flow.Next; state = state 3 [] }
caught = refl

-- too many levels are not caught
too_deep : seen (catches (block_act (stmts_part []) 0 0 (state 3 [])) (caught_act (stmts_part []) (2 ∷ []) 0 0))
    ≡ record { asked = []; lines = []; came = Fails Depth; state = state 3 [] }
too_deep = refl

-- a call counts its turn before it opens its level: with neither left it fails by the turn
turn_before_level : seen (calls_on given 0 (record { count = 0; names = [] }) [] 0 (state 0 []))
    ≡ record { asked = []; lines = []; came = Fails Turns; state = state 0 [] }
turn_before_level = refl

-- named arguments take the places of their parameters
by_name : locals_of ((1 ∷ []) ∷ (2 ∷ []) ∷ (3 ∷ []) ∷ []) (values_of ((1 ∷ []) ∷ (2 ∷ []) ∷ (3 ∷ []) ∷ []) (record { count = 3; names = (3 ∷ []) ∷ (2 ∷ []) ∷ [] }) (value.Int (pos 7) ∷ value.Int (pos 8) ∷ value.Int (pos 9) ∷ []))
    ≡ local 1 (value.Int (pos 7)) ∷ local 2 (value.Int (pos 9)) ∷ local 3 (value.Int (pos 8)) ∷ []
by_name = refl

-- a member call asks at its two sites, after its arguments, and counts a turn for the member of an object
member_call : seen ((with_suffix (head_part given (Head-F.Name (5 ∷ []))) (suffix_part given (Suffix-F.MemberCall (8 ∷ []) (arg (int 1) ∷ [])))).from 0 256 (state 9 []))
    ≡ record { asked = 0 ∷ 1 ∷ []; lines = []; came = Fails (NotCallable kind.Nil); state = state 8 [] }
member_call = refl

-- where an argument fails, neither of the two is made
argument_first : seen ((with_suffix (head_part given (Head-F.Name (5 ∷ []))) (suffix_part given (Suffix-F.MemberCall (8 ∷ []) (arg divided ∷ [])))).from 0 256 (state 9 []))
    ≡ record { asked = 2 ∷ []; lines = []; came = Fails ZeroDivide; state = state 9 [] }
argument_first = refl

-- `new` with a target draws before the turn of its call is counted, and its value is the object
made : seen ((alone (head_part given (Head-F.NewOf (name 6) []))).from 0 256 (state 9 []))
    ≡ record { asked = 0 ∷ []; lines = []; came = Gives (value.Obj 7); state = state 8 [] }
made = refl

-- a local before a function of its name
local_first : seen ((prints (name 6)).from 0 256 (state 9 (local 6 value.Nil ∷ [])))
    ≡ record { asked = []; lines = plain value.Nil ∷ []; came = Gives flow.Next; state = state 9 (local 6 value.Nil ∷ []) }
local_first = refl

-- a task that is not there does nothing
no_task : (s : State) → body_act given 0 None s ≡ gives flow.Next s
no_task s = refl

-- what a task does begins with all levels and no local
begins : (script : Script) (t turns limit : ℕ) → task_act script t turns limit ≡ body_act (given_by script limit (calls_of script limit 256)) (task_site script t) (slice_get script.tasks t) (state turns [])
begins script t turns limit = refl
