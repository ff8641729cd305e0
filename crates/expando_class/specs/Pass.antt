-- What a user sees of a pass: a map from the numbers of the classes that it knows to their lists of names.
use Rattle.std.specs.Prelude.{◌≡◌, ◌≢◌, ℕ, ◌==◌, List, [], Option, Some, None, cond}
use Rattle.std.specs.Ordering.{nat_cmp}
use Rattle.std.specs.BTreeMap.{get}
use Rattle.expando_class.specs.declared.class.ClassRef.{ClassRef}
use Rattle.expando_class.specs.declared.pass.ClassPass.{ClassPass}
use Rattle.expando_class.specs.declared.table.ClassTable.{ClassTable}
use Rattle.expando_class.specs.Known.{names_at}
use Rattle.expando_class.specs.Class.{number_of, names_of, IsClassOf}

-- the names of the class with this number, where the pass knows it
abbrev pub class_map : ClassPass → ℕ → Option (List (List ℕ))
class_map pass number = names_at pass.by_number number

-- all classes that the pass knows are of this table
abbrev pub IsPassOf : ClassTable → ClassPass → Type 0
IsPassOf table pass = (number : ℕ) (class : ClassRef) →
    get nat_cmp pass.by_number number ≡ Some class → IsClassOf table class

-- the pass knows the root and no other class
abbrev pub KnowsRootAlone : ClassPass → Type 0
KnowsRootAlone pass = (number : ℕ) → class_map pass number ≡ cond (number == 0) (Some []) None

-- the pass knows no class with this list
abbrev pub KnowsNone : ClassPass → List (List ℕ) → Type 0
KnowsNone pass names = (number : ℕ) → class_map pass number ≢ Some names

-- no two classes that the pass knows have one list
abbrev pub KnowsEachOnce : ClassPass → Type 0
KnowsEachOnce pass = (one other : ℕ) (names : List (List ℕ)) →
    class_map pass one ≡ Some names → class_map pass other ≡ Some names → one ≡ other

-- the pass knows what it knew, and this class
abbrev pub Learns : ClassPass → ClassPass → ClassRef → Type 0
Learns old new class = (number : ℕ) →
    class_map new number ≡ cond (number_of class == number) (Some (names_of class)) (class_map old number)

-- the pass knows all that it knew
abbrev pub KnowsAll : ClassPass → ClassPass → Type 0
KnowsAll old new = (number : ℕ) (names : List (List ℕ)) →
    class_map old number ≡ Some names → class_map new number ≡ Some names

-- the pass knows what it knew, and no more
abbrev pub KnowsSame : ClassPass → ClassPass → Type 0
KnowsSame old new = (number : ℕ) → class_map new number ≡ class_map old number
