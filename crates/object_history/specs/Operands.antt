-- The operands of an operation on an object.
use Rattle.std.specs.Prelude.{List, ◌∷◌, ⊤}
use Rattle.dyn_value.specs.declared.value.Value.{Value}
use Rattle.dyn_value.specs.declared.value.Value.TheVariants as value

-- the first of them is an object
abbrev pub IsOperation : List Value → Type 0
IsOperation (value.Obj o ∷ arguments) = ⊤
IsOperation _ = ⊥
