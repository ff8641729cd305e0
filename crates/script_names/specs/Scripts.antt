-- The names of a script, judged in the order of its tokens.
use Rattle.std.specs.Prelude.{◌≡◌, ℕ, false, List, [], ◌∷◌, ◌++◌, map, Option}
use Rattle.std.specs.List.{position}
use Rattle.script_grammar.specs.declared.tree.Item.{Item}
use Rattle.script_grammar.specs.declared.tree.Item.TheVariants as item
use Rattle.script_grammar.specs.declared.tree.Function.{Function}
use Rattle.script_grammar.specs.declared.tree.Task.{Task}
use Rattle.script_grammar.specs.declared.tree.Script.{Script}
use Rattle.script_names.specs.declared.item_names.ItemNames.{ItemNames}
use Rattle.script_names.specs.Names.{Flags, Names, is_in, is_taken, row}
use Rattle.script_names.specs.Statements.{block_flags}

abbrev pub function_name : Function → List ℕ
function_name f = f.name

abbrev pub task_name : Task → List ℕ
task_name t = t.name

-- the names of a script's items: of all, and of those that are values, which tasks are not
abbrev pub item_names : Script → ItemNames
item_names s = record {
  all = s.shared ++ map function_name s.functions ++ map task_name s.tasks;
  values = s.shared ++ map function_name s.functions;
}

-- parameters, after those with these names
abbrev pub params_flags : ItemNames → Names → Names → List Flags
params_flags items earlier [] = []
params_flags items earlier (n ∷ rest) = (is_taken items earlier n ∷ []) ∷ params_flags items (earlier ++ n ∷ []) rest

-- Items after those with these names. An item's name breaks a rule where an earlier item has it; the locals of a
-- function are its parameters at first.

abbrev pub shared_flags : Names → List ℕ → Flags
shared_flags earlier n = false ∷ is_in earlier n ∷ false ∷ []

abbrev pub function_flags : ItemNames → Names → Function → Flags
function_flags items earlier f = false ∷ is_in earlier f.name ∷ false ∷ row (params_flags items [] f.params) ++ block_flags items f.params f.body

abbrev pub task_flags : ItemNames → Names → Task → Flags
task_flags items earlier t = false ∷ is_in earlier t.name ∷ block_flags items [] t.body

abbrev pub items_flags : ItemNames → Names → List Item → Names → List Function → List Task → Flags
items_flags names earlier (item.Shared k ∷ items) (n ∷ shared) functions tasks = shared_flags earlier n ++ items_flags names (earlier ++ n ∷ []) items shared functions tasks
items_flags names earlier (item.Fun k ∷ items) shared (f ∷ functions) tasks = function_flags names earlier f ++ items_flags names (earlier ++ f.name ∷ []) items shared functions tasks
items_flags names earlier (item.Task k ∷ items) shared functions (t ∷ tasks) = task_flags names earlier t ++ items_flags names (earlier ++ t.name ∷ []) items shared functions tasks
items_flags _ _ _ _ _ _ = []

-- for each token of a script whether it is a name that breaks a rule
abbrev pub judged : Script → Flags
judged s = items_flags (item_names s) [] s.items s.shared s.functions s.tasks

-- the number of the first token that is a name that breaks a rule
abbrev pub first_bad : Script → Option ℕ
first_bad s = position (λ bad. bad) (judged s)
