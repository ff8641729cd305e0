-- The state of an object, and its members.
use Rattle.std.specs.Prelude.{◌≡◌, map}
use Rattle.dyn_value.specs.declared.value.Value.{Value}
use Rattle.expr_tree.specs.Meanings.{State}
use Rattle.object_model.specs.Members.{Member, Members, member_name}

abbrev pub member_value : Member → Value
member_value m = m.value

-- the state has these members: its names are theirs, and its values are theirs
abbrev pub HasMembers : State → Members → Type 0
HasMembers s ms = (s.names ≡ map member_name ms) × (s.values ≡ map member_value ms)
