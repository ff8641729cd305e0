-- The calls of a script.
use Rattle.std.specs.Prelude.{◌≡◌, ℕ, Bool, true, false, not, ◌&&◌, nat_le, List, [], ◌∷◌, Option, None, Some, if◌then◌else◌}
use Rattle.std.specs.List.{list_any}
use Rattle.std.specs.Str.{bytes_eq}
use Rattle.standard_binders.specs.Arguments.{Arguments}
use Rattle.standard_binders.specs.declared.binder.Binder.{Binder}
use Rattle.standard_binders.specs.declared.binder.Binder.TheVariants as binder

-- whether no name is one of those after it
abbrev pub are_names_distinct : List (List ℕ) → Bool
are_names_distinct [] = true
are_names_distinct (n ∷ ns) = not (list_any (bytes_eq n) ns) && are_names_distinct ns

-- whether no two arguments of the call that a binder stands for, if it does, have one name
abbrev pub has_distinct_names : Binder → Bool
has_distinct_names (binder.Invoke info) = are_names_distinct info.names
has_distinct_names (binder.InvokeMember name ignore_case info) = are_names_distinct info.names
has_distinct_names (binder.CreateInstance info) = are_names_distinct info.names
has_distinct_names _ = true

-- whether the call that a binder stands for, if it does, has at most 16 arguments
abbrev pub has_few_arguments : Binder → Bool
has_few_arguments (binder.Invoke info) = nat_le info.count 16
has_few_arguments (binder.InvokeMember name ignore_case info) = nat_le info.count 16
has_few_arguments (binder.CreateInstance info) = nat_le info.count 16
has_few_arguments _ = true

-- the binder, where its call keeps both rules
abbrev pub checked : Binder → Option Binder
checked b = if has_few_arguments b && has_distinct_names b then Some b else None

-- what a call is handed, where it keeps both rules; none where it breaks one
abbrev pub IsCall : Arguments → Option Arguments → Type 0
IsCall wanted None = (nat_le wanted.count 16 && are_names_distinct wanted.names) ≡ false
IsCall wanted (Some info) = (info ≡ wanted) × ((nat_le wanted.count 16 && are_names_distinct wanted.names) ≡ true)
