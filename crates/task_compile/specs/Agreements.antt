-- Code over numbered locals that does what a part of a script does over named ones.
use Rattle.std.specs.Prelude.{◌≡◌, ℕ, List, length, take}
use Rattle.task_code.specs.declared.frame.Flow.{Flow}
use Rattle.task_code.specs.declared.frame.Frame.{Frame}
use Rattle.task_code.specs.Acts.{Act, and_then, ends_in}
use Rattle.task_code.specs.Codes.{on_next as goes_on}
use Rattle.task_compile.specs.States.{Names, State, locals_of}
use Rattle.task_compile.specs.Executions.{on_next}

-- a frame as the state of a script whose locals in scope have these names; further values stand for no local in scope
abbrev pub state_of : Names → Frame → State
state_of scope s = record { turns = s.turns; locals = locals_of scope s.locals }

-- the code does what the part of the script does, where these names are in scope before it and after it
abbrev pub Agrees : {A : Type 0} → Names → (State → Act State A) → (Frame → Act Frame A) → Type 0
Agrees scope script code = (s : Frame) → script (state_of scope s) ≡ ends_in (state_of scope) (code s)

-- so many locals are left
abbrev pub cut : ℕ → State → State
cut n s = record { turns = s.turns; locals = take n s.locals }

-- the same of the statements of a block, whose further locals are out of scope after it
abbrev pub AgreesInside : {A : Type 0} → Names → (State → Act State A) → (Frame → Act Frame A) → Type 0
AgreesInside scope script code =
    (s : Frame) → ends_in (cut (length scope)) (script (state_of scope s)) ≡ ends_in (state_of scope) (code s)

-- The same of a statement, after which these other names are in scope: with any statements after it that agree there, it
-- agrees inside its block.
abbrev pub AgreesBefore : Names → Names → (State → Act State Flow) → (Frame → Act Frame Flow) → Type 0
AgreesBefore scope after script code = (rest : State → Act State Flow) (rest_code : Frame → Act Frame Flow)
    → AgreesInside after rest rest_code
    → AgreesInside scope (λ s. and_then (script s) (on_next rest)) (λ s. and_then (code s) (goes_on rest_code))
