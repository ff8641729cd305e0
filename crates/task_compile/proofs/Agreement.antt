-- Code over numbered locals agrees with a script over named ones, part by part.
use Rattle.std.proofs.Common.{◌≡◌, ℕ, zero, suc, ◌+◌, ◌<◌, ◌≤◌, Bool, true, false, if◌then◌else◌, List, [], ◌∷◌, ◌++◌, length, get_or, take, Option, None, Some, refl, sym, ap, ◌∙◌, arith}
use Rattle.std.specs.Prelude.{nat_lt}
use Rattle.std.specs.Str.{bytes_eq}
use Rattle.dyn_value.specs.declared.fault.Fault.{Fault}
use Rattle.dyn_value.specs.declared.fault.Fault.TheVariants.{Turns, Depth, HeapFull, NoOperator}
use Rattle.dyn_value.specs.declared.outcome.Outcome.{Outcome}
use Rattle.dyn_value.specs.declared.outcome.Outcome.TheVariants as outcome
use Rattle.dyn_value.specs.declared.value.Value.{Value}
use Rattle.dyn_value.specs.declared.value.Value.TheVariants as value
use Rattle.standard_binders.specs.Arguments.{Arguments}
use Rattle.standard_binders.specs.declared.binder.Binder.{Binder}
use Rattle.standard_binders.specs.declared.binder.Binder.TheVariants as binder
use Rattle.object_model.specs.Steps.{OnObject, on_object}
use Rattle.task_code.specs.declared.frame.Flow.{Flow}
use Rattle.task_code.specs.declared.frame.Flow.TheVariants as flow
use Rattle.task_code.specs.declared.frame.Frame.{Frame}
use Rattle.task_code.specs.Acts.{Act, Ending, Gives, Fails, Ends, Prints, Asks, Draws, gives, fails, bind, on_value, and_then, ends_in, is_caught, on_fault, catches, within, answered, draws_object, chosen, Calls, with_object}
use Rattle.task_code.specs.Codes as code
use Rattle.task_code.specs.Codes.{Plan, Around, binder_at, put, with_put}
use Rattle.task_compile.specs.States as script
use Rattle.task_compile.specs.States.{Names, Local, State, Given, locals_of, declared, left_scope}
use Rattle.task_compile.specs.Executions as script_part
use Rattle.task_compile.specs.Agreements.{state_of, Agrees, cut, AgreesInside, AgreesBefore}

-- one part after another after a third
pub bind_bind : {S T U A B C : Type 0} (act : Act S A) (f : Ending A → S → Act T B) (g : Ending B → T → Act U C) → bind (bind act f) g ≡ bind act (λ e s. bind (f e s) g)
bind_bind (Ends e s) f g = refl
bind_bind (Prints line act) f g = ap (Prints line) (bind_bind act f g)
bind_bind (Asks site b operands act) f g = λ i. Asks site b operands (λ o. bind_bind (act o) f g i)
bind_bind (Draws act) f g = λ i. Draws (λ n. bind_bind (act n) f g i)

-- what comes after the same act with its state changed
pub bind_after : {S T U A B : Type 0} (f : S → T) (g : S → U) (act : Act S A) (next : Ending A → T → Act U B) (goes : Ending A → S → Act S B)
    → ((e : Ending A) (s : S) → next e (f s) ≡ ends_in g (goes e s)) → bind (ends_in f act) next ≡ ends_in g (bind act goes)
bind_after f g (Ends e s) next goes h = h e s
bind_after f g (Prints line act) next goes h = ap (Prints line) (bind_after f g act next goes h)
bind_after f g (Asks site b operands act) next goes h = λ i. Asks site b operands (λ o. bind_after f g (act o) next goes h i)
bind_after f g (Draws act) next goes h = λ i. Draws (λ n. bind_after f g (act n) next goes h i)

module _ (scope : Names) where
  pub agrees_bind : {A B : Type 0} (act : State → Act State A) (acts : Frame → Act Frame A) (next : Ending A → State → Act State B) (goes : Ending A → Frame → Act Frame B)
      → Agrees scope act acts → ((e : Ending A) → Agrees scope (next e) (goes e)) → Agrees scope (λ s. bind (act s) next) (λ s. bind (acts s) goes)
  agrees_bind act acts next goes one two s = ap (λ z. bind z next) (one s) ∙ bind_after (state_of scope) (state_of scope) (acts s) next goes (λ e after. two e after)

  pub agrees_then : {A B : Type 0} (act : State → Act State A) (acts : Frame → Act Frame A) (next : A → State → Act State B) (goes : A → Frame → Act Frame B)
      → Agrees scope act acts → ((a : A) → Agrees scope (next a) (goes a)) → Agrees scope (λ s. and_then (act s) next) (λ s. and_then (acts s) goes)
  agrees_then {A} act acts next goes one two = agrees_bind act acts (on_value next) (on_value goes) one ended
    where
      ended : (e : Ending A) → Agrees scope (on_value next e) (on_value goes e)
      ended (Gives a) s = two a s
      ended (Fails f) s = refl

  pub agrees_within : {A : Type 0} (levels : ℕ) (act : ℕ → State → Act State A) (acts : ℕ → Frame → Act Frame A)
      → ((inner : ℕ) → Agrees scope (act inner) (acts inner)) → Agrees scope (λ s. within levels s (λ inner. act inner s)) (λ s. within levels s (λ inner. acts inner s))
  agrees_within zero act acts h s = refl
  agrees_within (suc levels) act acts h s = h levels s

  counted_at : {A : Type 0} (turns : ℕ) (values : List Value) (act : State → Act State A) (acts : Frame → Act Frame A) → Agrees scope act acts
      → script.counted (state_of scope (record { turns = turns; locals = values })) act ≡ ends_in (state_of scope) (code.counts (record { turns = turns; locals = values }) acts)
  counted_at zero values act acts h = refl
  counted_at (suc turns) values act acts h = h (record { turns = turns; locals = values })

  pub agrees_counted : {A : Type 0} (act : State → Act State A) (acts : Frame → Act Frame A) → Agrees scope act acts → Agrees scope (λ s. script.counted s act) (λ s. code.counts s acts)
  agrees_counted act acts h s = counted_at s.turns s.locals act acts h

  pub agrees_chosen : {A : Type 0} (v : Value) (act other : State → Act State A) (acts others : Frame → Act Frame A)
      → Agrees scope act acts → Agrees scope other others → Agrees scope (λ s. chosen v (act s) (other s)) (λ s. chosen v (acts s) (others s))
  agrees_chosen (value.Bool true) act other acts others h k s = h s
  agrees_chosen (value.Bool false) act other acts others h k s = k s
  agrees_chosen value.Nil act other acts others h k s = k s
  agrees_chosen (value.Int n) act other acts others h k s = k s
  agrees_chosen (value.Text t) act other acts others h k s = k s
  agrees_chosen (value.Fun f) act other acts others h k s = k s
  agrees_chosen (value.Obj o) act other acts others h k s = k s

  agrees_if : {A : Type 0} (b : Bool) (act other : State → Act State A) (acts others : Frame → Act Frame A)
      → Agrees scope act acts → Agrees scope other others → Agrees scope (λ s. if b then act s else other s) (λ s. if b then acts s else others s)
  agrees_if true act other acts others h k s = h s
  agrees_if false act other acts others h k s = k s

  pub agrees_catches : {A : Type 0} (act : State → Act State A) (acts : Frame → Act Frame A) (handler : Fault → State → Act State A) (handlers : Fault → Frame → Act Frame A)
      → Agrees scope act acts → ((f : Fault) → Agrees scope (handler f) (handlers f)) → Agrees scope (λ s. catches (act s) handler) (λ s. catches (acts s) handlers)
  agrees_catches {A} act acts handler handlers one two = agrees_bind act acts (on_fault handler) (on_fault handlers) one ended
    where
      ended : (e : Ending A) → Agrees scope (on_fault handler e) (on_fault handlers e)
      ended (Gives a) s = refl
      ended (Fails f) s = agrees_if (is_caught f) (handler f) (fails f) (handlers f) (fails f) (two f) (λ t. refl) s

  agrees_answered : (o : Outcome) → Agrees scope (λ s. answered s o) (λ s. answered s o)
  agrees_answered (outcome.Value v) s = refl
  agrees_answered (outcome.Call f) s = refl
  agrees_answered (outcome.Make f) s = refl
  agrees_answered (outcome.Fault f) s = refl

  asked_on : (x : Option OnObject) (site : ℕ) (b : Binder) (operands : List Value) → Agrees scope (script.asks_on x site b operands) (code.asks_on x site b operands)
  asked_on None site b operands s = λ i. Asks site b operands (λ o. agrees_answered o s i)
  asked_on (Some x) site b operands s =
      agrees_counted (λ after. Asks site b operands (answered after)) (λ after. Asks site b operands (answered after))
      (λ after. λ i. Asks site b operands (λ o. agrees_answered o after i)) s

  -- an operation at a site of the plan that has its binder
  pub agrees_asks : (plan : Plan) (site : ℕ) (b : Binder) (operands : List Value) → binder_at plan site ≡ b → Agrees scope (script.asks site b operands) (code.asks plan site operands)
  agrees_asks plan site b operands has s =
      asked_on (on_object b operands) site b operands s
      ∙ ap (λ z. ends_in (state_of scope) (code.asks_on (on_object z operands) site z operands s)) (sym has)

  agrees_back : (s : Frame) (act : Act ℕ Value) → bind act (script.back_to (state_of scope s)) ≡ ends_in (state_of scope) (bind act (code.back_in s))
  agrees_back s (Ends e turns) = refl
  agrees_back s (Prints line act) = ap (Prints line) (agrees_back s act)
  agrees_back s (Asks site b operands act) = λ i. Asks site b operands (λ o. agrees_back s (act o) i)
  agrees_back s (Draws act) = λ i. Draws (λ n. agrees_back s (act n) i)

  module _ (given : Given) (around : Around) (same_calls : given.calls ≡ around.calls) (same_limit : given.limit ≡ around.limit) where
    abbrev called : ℕ → Arguments → List Value → ℕ → State → Act State Value
    called f info args inner s = bind (given.calls f info args inner s.turns) (script.back_to s)

    abbrev code_called : ℕ → Arguments → List Value → ℕ → Frame → Act Frame Value
    code_called f info args inner s = bind (around.calls f info args inner s.turns) (code.back_in s)

    agrees_calls : (f : ℕ) (info : Arguments) (args : List Value) (levels : ℕ) → Agrees scope (script.calls_on given f info args levels) (code.calls_on around f info args levels)
    agrees_calls f info args levels =
        agrees_counted (λ after. within levels after (λ inner. called f info args inner after)) (λ after. within levels after (λ inner. code_called f info args inner after))
        (agrees_within levels (called f info args) (code_called f info args) (λ inner s.
        ap (λ z. bind (z f info args inner s.turns) (script.back_to (state_of scope s))) same_calls ∙ agrees_back s (around.calls f info args inner s.turns)))

    agrees_invoked : (info : Arguments) (args : List Value) (levels : ℕ) (o : Outcome) → Agrees scope (λ s. script.invoked given info args levels s o) (λ s. code.invoked around info args levels s o)
    agrees_invoked info args levels (outcome.Value v) s = refl
    agrees_invoked info args levels (outcome.Call f) s = agrees_calls f info args levels s
    agrees_invoked info args levels (outcome.Make f) s = refl
    agrees_invoked info args levels (outcome.Fault f) s = refl

    -- a value is invoked at a site of the plan that has the call's binder
    pub agrees_invokes : (site : ℕ) (info : Arguments) (f : Value) (args : List Value) (levels : ℕ) → binder_at around.plan site ≡ binder.Invoke info
        → Agrees scope (script.invokes given site info f args levels) (code.invokes around site f args levels)
    agrees_invokes site info f args levels has s =
        (λ i. Asks site (binder.Invoke info) (f ∷ args) (λ o. agrees_invoked info args levels o s i))
        ∙ ap (λ z. ends_in (state_of scope) (Asks site z (f ∷ args) (code.invoked around (code.info_of z) args levels s))) (sym has)

    pub agrees_draws : (act : ℕ → State → Act State Value) (acts : ℕ → Frame → Act Frame Value) → ((n : ℕ) → Agrees scope (act n) (acts n))
        → Agrees scope (λ s. draws_object given.limit s (λ n. act n s)) (λ s. draws_object around.limit s (λ n. acts n s))
    agrees_draws act acts h s =
        (λ i. Draws (λ n. if nat_lt n (same_limit i) then act n (state_of scope s) else fails HeapFull (state_of scope s)))
        ∙ (λ i. Draws (λ n. agrees_if (nat_lt n around.limit) (act n) (fails HeapFull) (acts n) (fails HeapFull) (h n) (λ t. refl) s i))

    agrees_created : (info : Arguments) (args : List Value) (levels : ℕ) (o : Outcome) → Agrees scope (λ s. script.created given info args levels s o) (λ s. code.created around info args levels s o)
    agrees_created info args levels (outcome.Value v) s = refl
    agrees_created info args levels (outcome.Call f) s = refl
    agrees_created info args levels (outcome.Make f) s =
        agrees_draws (λ n s. and_then (script.calls_on given f (with_object info) (value.Obj n ∷ args) levels s) (λ v after. gives (value.Obj n) after))
        (λ n s. and_then (code.calls_on around f (with_object info) (value.Obj n ∷ args) levels s) (λ v after. gives (value.Obj n) after))
        (λ n. agrees_then (script.calls_on given f (with_object info) (value.Obj n ∷ args) levels) (code.calls_on around f (with_object info) (value.Obj n ∷ args) levels)
        (λ v after. gives (value.Obj n) after) (λ v after. gives (value.Obj n) after) (agrees_calls f (with_object info) (value.Obj n ∷ args) levels) (λ v after. refl)) s
    agrees_created info args levels (outcome.Fault f) s = refl

    -- an object is made at a site of the plan that has the call's binder
    pub agrees_creates : (site : ℕ) (info : Arguments) (operands args : List Value) (levels : ℕ) → binder_at around.plan site ≡ binder.CreateInstance info
        → Agrees scope (λ s. Asks site (binder.CreateInstance info) operands (script.created given info args levels s))
        (λ s. Asks site (binder_at around.plan site) operands (code.created around (code.info_at around.plan site) args levels s))
    agrees_creates site info operands args levels has s =
        (λ i. Asks site (binder.CreateInstance info) operands (λ o. agrees_created info args levels o s i))
        ∙ ap (λ z. ends_in (state_of scope) (Asks site z operands (code.created around (code.info_of z) args levels s))) (sym has)
