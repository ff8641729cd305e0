-- The operation of the tests.
use Rattle.std.specs.Prelude.{List, [], ◌∷◌, pos}
use Rattle.dyn_value.specs.declared.value.Value.{Value}
use Rattle.dyn_value.specs.declared.value.Value.TheVariants as value

-- the operands of a write of 7 at a key of object 0
abbrev pub write : Value → List Value
write key = value.Obj 0 ∷ key ∷ value.Int (pos 7) ∷ []
