-- What a user sees of the state of an object.
use Rattle.std.specs.Prelude.{ℕ, ◌-◌, List, vec_len, vec_capacity}
use Rattle.dyn_value.specs.declared.value.Value.{Value}
use Rattle.expando_class.specs.declared.class.ClassRef.{ClassRef}
use Rattle.expando_class.specs.Class.{names_of}
use Rattle.expando_object.specs.declared.state.ObjState.{ObjState}

-- the class that the object is of
abbrev pub class_in : ObjState → ClassRef
class_in state = state.class

-- the names of its members, in the order in which they were added
abbrev pub names_in : ObjState → List (List ℕ)
names_in state = names_of state.class

-- the values of its members, each at the place of its name
abbrev pub values_in : ObjState → List Value
values_in state = state.values.items

-- how many more values fit before memory is taken
abbrev pub spare_in : ObjState → ℕ
spare_in state = vec_capacity state.values - vec_len state.values
