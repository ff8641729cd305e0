-- What came from one moment of a walk to another.
use Rattle.std.specs.Prelude.{◌≡◌, ℕ, List, [], ◌∷◌, ◌++◌, Option, IfSome}
use Rattle.dyn_value.specs.declared.outcome.Outcome.{Outcome}
use Rattle.dyn_value.specs.declared.value.Value.{Value}
use Rattle.standard_binders.specs.declared.binder.Binder.{Binder}
use Rattle.task_code.specs.Acts.{Ending, Act, Ends, Prints, Asks, Draws}
use Rattle.task_code.specs.Codes.{Plan}
use Rattle.task_walk.specs.Tales.{Tale, Asked, asked, Suits, tale_answered, tale_drawn, Onto}

-- one thing that a task did
pub data Event : Type 0 where
  Line : List ℕ → Event
  Answer : ℕ → Binder → List Value → Outcome → Event
  Drawn : ℕ → Event

-- what a world tells, and the lines printed, at a moment
pub record Told : Type 0 where
  pub world : Tale
  pub lines : List (List ℕ)

abbrev pub told : Tale → List (List ℕ) → Told
told world lines = record { world = world; lines = lines }

abbrev pub after_one : Event → Told → Told
after_one (Line line) m = told m.world (m.lines ++ line ∷ [])
after_one (Answer site b operands o) m = told (tale_answered site b operands o m.world) m.lines
after_one (Drawn n) m = told (tale_drawn n m.world) m.lines

-- the moment after these events
abbrev pub after : List Event → Told → Told
after [] m = m
after (e ∷ es) m = after es (after_one e m)

-- the operations among events
abbrev pub asked_in : List Event → List Asked
asked_in [] = []
asked_in (Answer site b operands o ∷ es) = asked site operands ∷ asked_in es
asked_in (_ ∷ es) = asked_in es

-- The act does these things, and comes to this ending and state.
abbrev pub Does : {S A : Type 0} → Plan → Act S A → List Event → Ending A → S → Type 0
Does plan (Ends e s) [] ending last = (ending ≡ e) × (last ≡ s)
Does plan (Prints line act) (Line l ∷ es) ending last = (l ≡ line) × Does plan act es ending last
Does plan (Asks site b operands act) (Answer t c vs o ∷ es) ending last =
    (t ≡ site) × (c ≡ b) × (vs ≡ operands) × Suits plan b operands o × Does plan (act o) es ending last
Does plan (Draws act) (Drawn n ∷ es) ending last = Does plan (act n) es ending last
Does _ _ _ ending last = ⊥

-- From one moment to another the act was done: it came to this ending, where there is one, and state; and the
-- operations came after those that were answered before.
pub record Came {S A H : Type 0} (plan : Plan) (act : Act S A) (ending : Option (Ending A)) (last : S) (old new : Told)
    (before now : H → List Asked → Type 0) : Type 0 where
  pub events : List Event
  pub is : new ≡ after events old
  pub does : IfSome ending (λ e. Does plan act events e last)
  pub asked : Onto before now (asked_in events)
