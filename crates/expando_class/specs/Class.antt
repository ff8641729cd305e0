-- What a user sees of a class.
use Rattle.std.specs.Prelude.{ℕ, List}
use Rattle.expando_class.specs.declared.class.ClassRef.{ClassRef}
use Rattle.expando_class.specs.declared.table.ClassTable.{ClassTable}
use Rattle.expando_class.specs.Shown.{number_shown, names_shown, IsShownBy}

-- the number of the class, 0 for the root
abbrev pub number_of : ClassRef → ℕ
number_of class = number_shown class.token

-- the names of the class, each as its characters, in the order in which they were added
abbrev pub names_of : ClassRef → List (List ℕ)
names_of class = names_shown class.token

-- the class is one of this table
abbrev pub IsClassOf : ClassTable → ClassRef → Type 0
IsClassOf table class = IsShownBy table.classes class.token
