-- What the items of a script that can be written hold of its functions and tasks.
use Rattle.std.proofs.Common.{◌≡◌, ℕ, zero, suc, ◌+◌, ◌≤◌, Bool, true, false, ◌&&◌, ◌==◌, List, [], ◌∷◌, ◌++◌, length, map, slice_get, Some, refl, ap, arith, length-append}
use Rattle.std.proofs.lemmas.Bool.{and_parts}
use Rattle.std.proofs.lemmas.Option.{none-some, same_Some}
use Rattle.script_grammar.specs.declared.tree.Function.{Function}
use Rattle.script_grammar.specs.declared.tree.Item.{Item}
use Rattle.script_grammar.specs.declared.tree.Item.TheVariants as item
use Rattle.script_grammar.specs.declared.tree.Script.{Script}
use Rattle.script_grammar.specs.declared.tree.Task.{Task}
use Rattle.script_grammar.specs.Spelling.{name_tokens, parts, spell, spell_block, spell_function, spell_items, spell_shared, spell_task}
use Rattle.script_grammar.specs.WrittenStatements.{are_written_items, is_written, is_written_block}
use Rattle.script_sites.specs.Sites.{function_sites, function_starts, starts_of_functions, starts_of_tasks, task_sites, task_starts}

written_rest : (a b c : Bool) → (a && (b && c)) ≡ true → c ≡ true
written_rest a b c h = (and_parts b c (and_parts a (b && c) h).1).1

-- each function has a start
many_functions : (s f t before : ℕ) (items : List Item) (ss : List (List ℕ)) (fs : List Function) (ts : List Task) → are_written_items s f t items ss fs ts ≡ true → length (starts_of_functions before items ss fs ts) ≡ length fs
many_functions s f t before [] [] [] [] h = refl
many_functions s f t before [] (n ∷ ss) fs ts h = absurd (cc)
many_functions s f t before [] [] (g ∷ fs) ts h = absurd (cc)
many_functions s f t before [] [] [] (x ∷ ts) h = absurd (cc)
many_functions s f t before (item.Shared k ∷ items) [] fs ts h = absurd (cc)
many_functions s f t before (item.Shared k ∷ items) (n ∷ ss) fs ts h =
    many_functions (s + 1) f t before items ss fs ts (and_parts (k == s) (are_written_items (s + 1) f t items ss fs ts) h).1
many_functions s f t before (item.Fun k ∷ items) ss [] ts h = absurd (cc)
many_functions s f t before (item.Fun k ∷ items) ss (g ∷ fs) ts h =
    ap suc (many_functions s (f + 1) t (before + length (function_sites g)) items ss fs ts (written_rest (k == f) (is_written_block g.body) (are_written_items s (f + 1) t items ss fs ts) h))
many_functions s f t before (item.Task k ∷ items) ss fs [] h = absurd (cc)
many_functions s f t before (item.Task k ∷ items) ss fs (x ∷ ts) h =
    many_functions s f (t + 1) (before + length (task_sites x)) items ss fs ts (written_rest (k == t) (is_written_block x.body) (are_written_items s f (t + 1) items ss fs ts) h)

-- and so has each task
many_tasks : (s f t before : ℕ) (items : List Item) (ss : List (List ℕ)) (fs : List Function) (ts : List Task) → are_written_items s f t items ss fs ts ≡ true → length (starts_of_tasks before items ss fs ts) ≡ length ts
many_tasks s f t before [] [] [] [] h = refl
many_tasks s f t before [] (n ∷ ss) fs ts h = absurd (cc)
many_tasks s f t before [] [] (g ∷ fs) ts h = absurd (cc)
many_tasks s f t before [] [] [] (x ∷ ts) h = absurd (cc)
many_tasks s f t before (item.Shared k ∷ items) [] fs ts h = absurd (cc)
many_tasks s f t before (item.Shared k ∷ items) (n ∷ ss) fs ts h =
    many_tasks (s + 1) f t before items ss fs ts (and_parts (k == s) (are_written_items (s + 1) f t items ss fs ts) h).1
many_tasks s f t before (item.Fun k ∷ items) ss [] ts h = absurd (cc)
many_tasks s f t before (item.Fun k ∷ items) ss (g ∷ fs) ts h =
    many_tasks s (f + 1) t (before + length (function_sites g)) items ss fs ts (written_rest (k == f) (is_written_block g.body) (are_written_items s (f + 1) t items ss fs ts) h)
many_tasks s f t before (item.Task k ∷ items) ss fs [] h = absurd (cc)
many_tasks s f t before (item.Task k ∷ items) ss fs (x ∷ ts) h =
    ap suc (many_tasks s f (t + 1) (before + length (task_sites x)) items ss fs ts (written_rest (k == t) (is_written_block x.body) (are_written_items s f (t + 1) items ss fs ts) h))

-- the tokens of a function's body are among the script's
body_in_function : (g : Function) → length (spell_block g.body) ≤ length (spell_function g)
body_in_function g = omega (arith, length-append (parts (map name_tokens g.params)) (spell_block g.body))

function_tokens : (s f t : ℕ) (items : List Item) (ss : List (List ℕ)) (fs : List Function) (ts : List Task) (k : ℕ) (g : Function) → are_written_items s f t items ss fs ts ≡ true → slice_get fs k ≡ Some g
    → length (spell_block g.body) ≤ length (spell_items items ss fs ts)
function_tokens s f t [] [] [] [] k g h at = absurd (none-some g at)
function_tokens s f t [] (n ∷ ss) fs ts k g h at = absurd (cc)
function_tokens s f t [] [] (x ∷ fs) ts k g h at = absurd (cc)
function_tokens s f t [] [] [] (x ∷ ts) k g h at = absurd (cc)
function_tokens s f t (item.Shared j ∷ items) [] fs ts k g h at = absurd (cc)
function_tokens s f t (item.Shared j ∷ items) (n ∷ ss) fs ts k g h at =
    omega (arith, length-append (spell_shared n) (spell_items items ss fs ts), function_tokens (s + 1) f t items ss fs ts k g (and_parts (j == s) (are_written_items (s + 1) f t items ss fs ts) h).1 at)
function_tokens s f t (item.Fun j ∷ items) ss [] ts k g h at = absurd (cc)
function_tokens s f t (item.Fun j ∷ items) ss (x ∷ fs) ts zero g h at =
    omega (arith, length-append (spell_function x) (spell_items items ss fs ts), body_in_function x, ap (λ (z : Function). length (spell_block z.body)) (same_Some x g at))
function_tokens s f t (item.Fun j ∷ items) ss (x ∷ fs) ts (suc k) g h at =
    omega (
      arith,
      length-append (spell_function x) (spell_items items ss fs ts),
      function_tokens s (f + 1) t items ss fs ts k g (written_rest (j == f) (is_written_block x.body) (are_written_items s (f + 1) t items ss fs ts) h) at,
    )
function_tokens s f t (item.Task j ∷ items) ss fs [] k g h at = absurd (cc)
function_tokens s f t (item.Task j ∷ items) ss fs (x ∷ ts) k g h at =
    omega (
      arith,
      length-append (spell_task x) (spell_items items ss fs ts),
      function_tokens s f (t + 1) items ss fs ts k g (written_rest (j == t) (is_written_block x.body) (are_written_items s f (t + 1) items ss fs ts) h) at,
    )

task_tokens : (s f t : ℕ) (items : List Item) (ss : List (List ℕ)) (fs : List Function) (ts : List Task) (k : ℕ) (g : Task) → are_written_items s f t items ss fs ts ≡ true → slice_get ts k ≡ Some g
    → length (spell_block g.body) ≤ length (spell_items items ss fs ts)
task_tokens s f t [] [] [] [] k g h at = absurd (none-some g at)
task_tokens s f t [] (n ∷ ss) fs ts k g h at = absurd (cc)
task_tokens s f t [] [] (x ∷ fs) ts k g h at = absurd (cc)
task_tokens s f t [] [] [] (x ∷ ts) k g h at = absurd (cc)
task_tokens s f t (item.Shared j ∷ items) [] fs ts k g h at = absurd (cc)
task_tokens s f t (item.Shared j ∷ items) (n ∷ ss) fs ts k g h at =
    omega (arith, length-append (spell_shared n) (spell_items items ss fs ts), task_tokens (s + 1) f t items ss fs ts k g (and_parts (j == s) (are_written_items (s + 1) f t items ss fs ts) h).1 at)
task_tokens s f t (item.Fun j ∷ items) ss [] ts k g h at = absurd (cc)
task_tokens s f t (item.Fun j ∷ items) ss (x ∷ fs) ts k g h at =
    omega (
      arith,
      length-append (spell_function x) (spell_items items ss fs ts),
      task_tokens s (f + 1) t items ss fs ts k g (written_rest (j == f) (is_written_block x.body) (are_written_items s (f + 1) t items ss fs ts) h) at,
    )
task_tokens s f t (item.Task j ∷ items) ss fs [] k g h at = absurd (cc)
task_tokens s f t (item.Task j ∷ items) ss fs (x ∷ ts) zero g h at =
    omega (arith, length-append (spell_task x) (spell_items items ss fs ts), ap (λ (z : Task). length (spell_block z.body)) (same_Some x g at))
task_tokens s f t (item.Task j ∷ items) ss fs (x ∷ ts) (suc k) g h at =
    omega (
      arith,
      length-append (spell_task x) (spell_items items ss fs ts),
      task_tokens s f (t + 1) items ss fs ts k g (written_rest (j == t) (is_written_block x.body) (are_written_items s f (t + 1) items ss fs ts) h) at,
    )

pub starts_of_each_function : (script : Script) → is_written script ≡ true → length (function_starts script) ≡ length script.functions
starts_of_each_function script h = many_functions 0 0 0 0 script.items script.shared script.functions script.tasks h

pub starts_of_each_task : (script : Script) → is_written script ≡ true → length (task_starts script) ≡ length script.tasks
starts_of_each_task script h = many_tasks 0 0 0 0 script.items script.shared script.functions script.tasks h

pub function_among : (script : Script) (k : ℕ) (g : Function) → is_written script ≡ true → slice_get script.functions k ≡ Some g → length (spell_block g.body) ≤ length (spell script)
function_among script k g h at = function_tokens 0 0 0 script.items script.shared script.functions script.tasks k g h at

pub task_among : (script : Script) (k : ℕ) (g : Task) → is_written script ≡ true → slice_get script.tasks k ≡ Some g → length (spell_block g.body) ≤ length (spell script)
task_among script k g h at = task_tokens 0 0 0 script.items script.shared script.functions script.tasks k g h at
