-- Statements and blocks over numbered locals agree with those over named ones.
use Rattle.std.proofs.Common.{◌≡◌, ℕ, zero, suc, ◌+◌, ◌≤◌, List, [], ◌∷◌, ◌++◌, length, take, Option, None, Some, refl, sym, ap, ◌∙◌, arith, append-nil}
use Rattle.std.specs.Str.{bytes_eq}
use Rattle.dyn_value.specs.declared.fault.Fault.{Fault}
use Rattle.dyn_value.specs.declared.fault.Fault.TheVariants.{Turns, Depth}
use Rattle.dyn_value.specs.declared.value.Value.{Value}
use Rattle.dyn_value.specs.declared.value.Value.TheVariants as value
use Rattle.dyn_value.specs.Texts.{plain, fault_text}
use Rattle.task_code.specs.declared.frame.Flow.{Flow}
use Rattle.task_code.specs.declared.frame.Flow.TheVariants as flow
use Rattle.task_code.specs.declared.frame.Frame.{Frame}
use Rattle.task_code.specs.Acts.{Act, Ending, Gives, Fails, Ends, Prints, Asks, Draws, gives, fails, bind, on_value, and_then, ends_in, within, chosen}
use Rattle.task_code.specs.Codes.{counts, put, with_put}
use Rattle.task_code.specs.Codes.{on_next as goes_on, loops as repeats}
use Rattle.task_compile.specs.States.{Names, Local, State, counted, declared, locals_of, left_scope}
use Rattle.task_compile.specs.Executions.{loops, on_next}
use Rattle.task_compile.specs.Agreements.{state_of, Agrees, cut, AgreesInside, AgreesBefore}
use Rattle.task_compile.proofs.Agreement.{bind_bind, agrees_then, agrees_within, agrees_counted, agrees_chosen}
use Rattle.task_compile.proofs.ArgumentForms.{then_then}
use Rattle.task_compile.proofs.LocalNumbers.{declares_next, length-locals_of, cut_scope}

module _ (scope : Names) where
  agrees_next : (act : State → Act State Flow) (acts : Frame → Act Frame Flow) → Agrees scope act acts → (x : Flow) → Agrees scope (on_next act x) (goes_on acts x)
  agrees_next act acts h flow.Next s = h s
  agrees_next act acts h (flow.Returned v) s = refl

  pub agrees_loops : (more : ℕ) (test : State → Act State Value) (tests : Frame → Act Frame Value) (act : State → Act State Flow) (acts : Frame → Act Frame Flow)
      → Agrees scope test tests → Agrees scope act acts → Agrees scope (loops more test act) (repeats more tests acts)
  agrees_loops zero test tests act acts one two s = refl
  agrees_loops (suc more) test tests act acts one two s =
      agrees_then scope test tests
      (λ v after. chosen v (counted after (λ entered. and_then (act entered) (on_next (loops more test act)))) (gives flow.Next after))
      (λ v after. chosen v (counts after (λ entered. and_then (acts entered) (goes_on (repeats more tests acts)))) (gives flow.Next after))
      one
      (λ v. agrees_chosen scope v (λ after. counted after (λ entered. and_then (act entered) (on_next (loops more test act)))) (gives flow.Next)
      (λ after. counts after (λ entered. and_then (acts entered) (goes_on (repeats more tests acts)))) (gives flow.Next)
      (agrees_counted scope (λ entered. and_then (act entered) (on_next (loops more test act))) (λ entered. and_then (acts entered) (goes_on (repeats more tests acts)))
      (agrees_then scope act acts (on_next (loops more test act)) (goes_on (repeats more tests acts)) two
      (agrees_next (loops more test act) (repeats more tests acts) (agrees_loops more test tests act acts one two))))
      (λ t. refl)) s

  cut_state : (s : Frame) → cut (length scope) (state_of scope s) ≡ state_of scope s
  cut_state s =
      let same : take (length scope) (locals_of scope s.locals) ≡ locals_of scope s.locals =
      ap (take (length scope)) (ap (λ z. locals_of z s.locals) (sym (append-nil scope))) ∙ cut_scope scope [] s.locals in
      λ i. record { turns = s.turns; locals = same i }

  -- what is cut after what agrees
  cut_after : {A : Type 0} (act : Act Frame A) → ends_in (cut (length scope)) (ends_in (state_of scope) act) ≡ ends_in (state_of scope) act
  cut_after act = bind_bind act (λ e s. Ends e (state_of scope s)) (λ e s. Ends e (cut (length scope) s))
      ∙ (λ i. bind act (λ e s. Ends e (cut_state s i)))

  pub inside_agreed : {A : Type 0} (act : State → Act State A) (acts : Frame → Act Frame A) → Agrees scope act acts → AgreesInside scope act acts
  inside_agreed act acts h s = ap (ends_in (cut (length scope))) (h s) ∙ cut_after (acts s)

  -- a block is left with the locals that were in scope before it
  pub agrees_block : (levels : ℕ) (act : ℕ → State → Act State Flow) (acts : ℕ → Frame → Act Frame Flow)
      → ((inner : ℕ) → AgreesInside scope (act inner) (acts inner))
      → Agrees scope (λ s. within levels s (λ inner. ends_in (left_scope s) (act inner s))) (λ s. within levels s (λ inner. acts inner s))
  agrees_block levels act acts h =
      agrees_within scope levels (λ inner s. ends_in (left_scope s) (act inner s)) acts
      (λ inner s. ap (λ z. ends_in (cut z) (act inner (state_of scope s))) (length-locals_of scope s.locals) ∙ h inner s)

  -- a statement after which the same names are in scope
  pub agrees_before : (act : State → Act State Flow) (acts : Frame → Act Frame Flow) → Agrees scope act acts → AgreesBefore scope scope act acts
  agrees_before act acts h rest rests inside s =
      ap (ends_in (cut (length scope))) (ap (λ z. and_then z (on_next rest)) (h s))
      ∙ ap (ends_in (cut (length scope))) (bind_bind (acts s) (λ e after. Ends e (state_of scope after)) (on_value (on_next rest)))
      ∙ bind_bind (acts s) (λ e after. on_value (on_next rest) e (state_of scope after)) (λ e after. Ends e (cut (length scope) after))
      ∙ (λ i. bind (acts s) (λ e after. ended e after i))
      ∙ sym (bind_bind (acts s) (on_value (goes_on rests)) (λ e after. Ends e (state_of scope after)))
    where
      ended : (e : Ending Flow) (after : Frame) → ends_in (cut (length scope)) (on_value (on_next rest) e (state_of scope after)) ≡ ends_in (state_of scope) (on_value (goes_on rests) e after)
      ended (Gives flow.Next) after = inside after
      ended (Gives (flow.Returned v)) after = λ i. Ends (Gives (flow.Returned v)) (cut_state after i)
      ended (Fails f) after = λ i. Ends (Fails f) (cut_state after i)

-- an act before a change of its endings, and what comes after it
cut_bind : {S T U A B : Type 0} (f : S → T) (h : T → U) (g : S → U) (act : Act S A) (next : Ending A → T → Act T B) (goes : Ending A → S → Act S B)
    → ((e : Ending A) (s : S) → ends_in h (next e (f s)) ≡ ends_in g (goes e s)) → ends_in h (bind (ends_in f act) next) ≡ ends_in g (bind act goes)
cut_bind f h g (Ends e s) next goes is = is e s
cut_bind f h g (Prints line act) next goes is = ap (Prints line) (cut_bind f h g act next goes is)
cut_bind f h g (Asks site b operands act) next goes is = λ i. Asks site b operands (λ o. cut_bind f h g (act o) next goes is i)
cut_bind f h g (Draws act) next goes is = λ i. Draws (λ n. cut_bind f h g (act n) next goes is i)

ends_twice : {S T U A : Type 0} (f : S → T) (g : T → U) (act : Act S A) → ends_in g (ends_in f act) ≡ ends_in (λ s. g (f s)) act
ends_twice f g act = bind_bind act (λ e s. Ends e (f s)) (λ e s. Ends e (g s))

take_shorter : (scope more : Names) (locals : List Local) → take (length scope) (take (length (scope ++ more)) locals) ≡ take (length scope) locals
take_shorter [] more locals = refl
take_shorter (n ∷ scope) more [] = refl
take_shorter (n ∷ scope) more (l ∷ locals) = ap (λ z. l ∷ z) (take_shorter scope more locals)

put_past : (scope : Names) (v : Value) (values : List Value) → locals_of scope (put (length scope) v values) ≡ locals_of scope values
put_past [] v values = refl
put_past (n ∷ scope) v [] = ap (λ z. record { name = n; value = value.Nil } ∷ z) (put_past scope v [])
put_past (n ∷ scope) v (w ∷ ws) = ap (λ z. record { name = n; value = w } ∷ z) (put_past scope v ws)

module _ (scope : Names) where
  pub inside_none : AgreesInside scope (λ s. gives flow.Next s) (λ s. gives flow.Next s)
  inside_none s = λ i. Ends (Gives flow.Next) (cut_state scope s i)

  -- what agrees inside where more names are in scope
  inside_less : (more : Names) (act : State → Act State Flow) (acts : Frame → Act Frame Flow) → AgreesInside (scope ++ more) act acts → (s : Frame)
      → ends_in (cut (length scope)) (act (state_of (scope ++ more) s)) ≡ ends_in (state_of scope) (acts s)
  inside_less more act acts h s =
      (λ i. ends_in (λ t. record { turns = t.turns; locals = sym (take_shorter scope more t.locals) i }) (act (state_of (scope ++ more) s)))
      ∙ sym (ends_twice (cut (length (scope ++ more))) (cut (length scope)) (act (state_of (scope ++ more) s)))
      ∙ ap (ends_in (cut (length scope))) (h s)
      ∙ ends_twice (state_of (scope ++ more)) (cut (length scope)) (acts s)
      ∙ (λ i. ends_in (λ t. record { turns = t.turns; locals = cut_scope scope more t.locals i }) (acts s))

  inside_declared : (name : List ℕ) (v : Value) (act : State → Act State Flow) (acts : Frame → Act Frame Flow) → AgreesInside (scope ++ name ∷ []) act acts → (s : Frame)
      → ends_in (cut (length scope)) (act (declared name v (state_of scope s))) ≡ ends_in (state_of scope) (acts (with_put (length scope) v s))
  inside_declared name v act acts h s =
      (λ i. ends_in (cut (length scope)) (act (record { turns = s.turns; locals = declares_next name v scope s.locals i })))
      ∙ inside_less (name ∷ []) act acts h (with_put (length scope) v s)

  -- a statement that declares a local
  pub agrees_declaring : (name : List ℕ) (act : State → Act State Value) (acts : Frame → Act Frame Value) → Agrees scope act acts
      → AgreesBefore scope (scope ++ name ∷ []) (λ s. and_then (act s) (λ v after. gives flow.Next (declared name v after))) (λ s. and_then (acts s) (λ v after. gives flow.Next (with_put (length scope) v after)))
  agrees_declaring name act acts one rest rests inside s =
      ap (ends_in (cut (length scope))) (then_then (act (state_of scope s)) (λ v after. gives flow.Next (declared name v after)) (on_next rest))
      ∙ ap (λ z. ends_in (cut (length scope)) (and_then z (λ v after. rest (declared name v after)))) (one s)
      ∙ cut_bind (state_of scope) (cut (length scope)) (state_of scope) (acts s) (on_value (λ v after. rest (declared name v after))) (on_value (λ v after. rests (with_put (length scope) v after))) ended
      ∙ ap (ends_in (state_of scope)) (sym (then_then (acts s) (λ v after. gives flow.Next (with_put (length scope) v after)) (goes_on rests)))
    where
      ended : (e : Ending Value) (after : Frame) → ends_in (cut (length scope)) (on_value (λ v t. rest (declared name v t)) e (state_of scope after)) ≡ ends_in (state_of scope) (on_value (λ v t. rests (with_put (length scope) v t)) e after)
      ended (Gives v) after = inside_declared name v rest rests inside after
      ended (Fails f) after = λ i. Ends (Fails f) (cut_state scope after i)

  -- a block where a local has the text of a fault
  pub agrees_caught : (name : List ℕ) (v : Value) (levels : ℕ) (act : ℕ → State → Act State Flow) (acts : ℕ → Frame → Act Frame Flow) → ((inner : ℕ) → AgreesInside (scope ++ name ∷ []) (act inner) (acts inner))
      → Agrees scope (λ s. within levels s (λ inner. ends_in (left_scope s) (act inner (declared name v s)))) (λ s. within levels (with_put (length scope) v s) (λ inner. acts inner (with_put (length scope) v s)))
  agrees_caught name v zero act acts h s = λ i. Ends (Fails Depth) (record { turns = s.turns; locals = sym (put_past scope v s.locals) i })
  agrees_caught name v (suc levels) act acts h s =
      ap (λ z. ends_in (cut z) (act levels (declared name v (state_of scope s)))) (length-locals_of scope s.locals) ∙ inside_declared name v (act levels) (acts levels) (h levels) s
