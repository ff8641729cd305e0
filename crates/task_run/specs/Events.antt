-- What the events of a walk leave behind.
use Rattle.std.specs.Prelude.{◌≡◌, ℕ, nat_eq, if◌then◌else◌, List, [], ◌∷◌, ◌++◌, drop, length, Option, None, Some}
use Rattle.std.specs.List.{AllByRecursion}
use Rattle.dyn_value.specs.declared.entry.Entry.{Entry}
use Rattle.dyn_value.specs.declared.outcome.Outcome.{Outcome}
use Rattle.object_model.specs.Steps.{OnObject, on_object}
use Rattle.task_code.specs.Acts.{Ending}
use Rattle.task_walk.specs.Comings.{Event, Line, Answer, Drawn, Told}
use Rattle.task_walk.specs.Tales.{Asked, Tale, Teller, entry_of}
use Rattle.task_run.specs.Stores.{Begins, IsToldBy, Left, Lines, Run}

-- the entries that an operation adds to an object's
abbrev pub entry_on : Teller → ℕ → Option OnObject → Outcome → ℕ → List Entry
entry_on by site None o object = []
entry_on by site (Some x) o object = if nat_eq object x.object then entry_of by site x o ∷ [] else []

-- the entries that events add to an object's
abbrev pub entries_in : Teller → List Event → ℕ → List Entry
entries_in by [] object = []
entries_in by (Answer site b operands o ∷ es) object =
    entry_on by site (on_object b operands) o object ++ entries_in by es object
entries_in by (_ ∷ es) object = entries_in by es object

-- the numbers that are drawn
abbrev pub drawn_in : List Event → List ℕ
drawn_in [] = []
drawn_in (Drawn n ∷ es) = n ∷ drawn_in es
drawn_in (_ ∷ es) = drawn_in es

-- the lines that are printed
abbrev pub lines_in : List Event → Lines
lines_in [] = []
lines_in (Line line ∷ es) = line ∷ lines_in es
lines_in (_ ∷ es) = lines_in es

-- the entries and numbers that a world gained from one moment to another
abbrev pub gained : Tale → Tale → Left
gained old new = record {
  entries = λ object. drop (length (old.entries object)) (new.entries object);
  drawn = drop (length old.drawn) new.drawn;
}

-- nothing is left
abbrev pub nothing : Left
nothing = record { entries = λ object. []; drawn = [] }

-- A run came to this ending and state with these lines and operations, and left the rest.
pub record CameTo {S A : Type 0} (run : Run Left S A) (ending : Ending A) (last : S)
    (printed : Lines) (operations : List Asked) (rest : Left) : Type 0 where
  pub came : run.came ≡ Some (ending, last)
  pub lines : run.lines ≡ printed
  pub asked : run.asked ≡ operations
  pub entries : (object : ℕ) → run.store.entries object ≡ rest.entries object
  pub drawn : run.store.drawn ≡ rest.drawn

-- From one moment to another the world, which answers for the same, only added: entries of its own at the end of each
-- object's, and numbers; and lines were added.
pub record Grew (old new : Told) : Type 0 where
  pub by : new.world.by ≡ old.world.by
  pub entries : (object : ℕ) → Begins (old.world.entries object) (new.world.entries object)
  pub told : (object : ℕ) → AllByRecursion (IsToldBy old.world.by) ((gained old.world new.world).entries object)
  pub drawn : Begins old.world.drawn new.world.drawn
  pub lines : Begins old.lines new.lines
