-- Scripts as rows of what their items declare.
use Rattle.std.proofs.Common.{◌≡◌, ℕ, suc, ◌+◌, Bool, true, ◌&&◌, ◌==◌, length, List, [], ◌∷◌, ◌++◌, refl, ap, ◌∙◌, arith}
use Rattle.std.specs.List.{flat_map, list_all}
use Rattle.std.proofs.lemmas.Bool.{and_parts, and_from, eqb-true, eq-eqb}
use Rattle.script_grammar.specs.declared.parser.items.Declaration.{Declaration}
use Rattle.script_grammar.specs.declared.parser.items.Declaration.TheVariants as declaration
use Rattle.script_grammar.specs.declared.tree.Function.{Function}
use Rattle.script_grammar.specs.declared.tree.Item.{Item}
use Rattle.script_grammar.specs.declared.tree.Item.TheVariants as item
use Rattle.script_grammar.specs.declared.tree.Script.{Script}
use Rattle.script_grammar.specs.declared.tree.Task.{Task}
use Rattle.script_grammar.specs.Spelling.{spell, spell_shared, spell_function, spell_task}
use Rattle.script_grammar.specs.StatementForms.{spell_declaration, is_written_declaration, with_declaration}
use Rattle.script_grammar.specs.WrittenStatements.{are_written_items, is_written, is_written_block}

-- A script with one item more before it, which has this number.

abbrev shared_before : ℕ → List ℕ → Script → Script
shared_before k n s = record { items = item.Shared k ∷ s.items; shared = n ∷ s.shared; functions = s.functions; tasks = s.tasks }

abbrev function_before : ℕ → Function → Script → Script
function_before k f s = record { items = item.Fun k ∷ s.items; shared = s.shared; functions = f ∷ s.functions; tasks = s.tasks }

abbrev task_before : ℕ → Task → Script → Script
task_before k t s = record { items = item.Task k ∷ s.items; shared = s.shared; functions = s.functions; tasks = t ∷ s.tasks }

abbrev empty : Script
empty = record { items = []; shared = []; functions = []; tasks = [] }

-- the script of these declarations, after so many shared names, functions and tasks
abbrev pub numbered : ℕ → ℕ → ℕ → List Declaration → Script
numbered s f t [] = empty
numbered s f t (declaration.Shared n ∷ ds) = shared_before s n (numbered (s + 1) f t ds)
numbered s f t (declaration.Fun g ∷ ds) = function_before f g (numbered s (f + 1) t ds)
numbered s f t (declaration.Task h ∷ ds) = task_before t h (numbered s f (t + 1) ds)

abbrev pub script_of : List Declaration → Script
script_of ds = numbered 0 0 0 ds

-- it is spelled as they are
pub numbered-spelling : (s f t : ℕ) (ds : List Declaration) → spell (numbered s f t ds) ≡ flat_map spell_declaration ds
numbered-spelling s f t [] = refl
numbered-spelling s f t (declaration.Shared n ∷ ds) = ap (λ z. spell_shared n ++ z) (numbered-spelling (s + 1) f t ds)
numbered-spelling s f t (declaration.Fun g ∷ ds) = ap (λ z. spell_function g ++ z) (numbered-spelling s (f + 1) t ds)
numbered-spelling s f t (declaration.Task h ∷ ds) = ap (λ z. spell_task h ++ z) (numbered-spelling s f (t + 1) ds)

abbrev written_from : ℕ → ℕ → ℕ → Script → Bool
written_from s f t script = are_written_items s f t script.items script.shared script.functions script.tasks

-- and can be written where they can
pub numbered-writing : (s f t : ℕ) (ds : List Declaration) →
    written_from s f t (numbered s f t ds) ≡ list_all is_written_declaration ds
numbered-writing s f t [] = refl
numbered-writing s f t (declaration.Shared n ∷ ds) =
    ap (λ z. z && written_from (s + 1) f t (numbered (s + 1) f t ds)) (eq-eqb s s refl) ∙ numbered-writing (s + 1) f t ds
numbered-writing s f t (declaration.Fun g ∷ ds) =
    ap (λ z. z && (is_written_block g.body && written_from s (f + 1) t (numbered s (f + 1) t ds))) (eq-eqb f f refl)
    ∙ ap (λ z. is_written_block g.body && z) (numbered-writing s (f + 1) t ds)
numbered-writing s f t (declaration.Task h ∷ ds) =
    ap (λ z. z && (is_written_block h.body && written_from s f (t + 1) (numbered s f (t + 1) ds))) (eq-eqb t t refl)
    ∙ ap (λ z. is_written_block h.body && z) (numbered-writing s f (t + 1) ds)

-- the declarations of a script that can be written
pub record Declared (s f t : ℕ) (script : Script) : Type 0 where
  pub row : List Declaration
  pub same : script ≡ numbered s f t row
  pub written : list_all is_written_declaration row ≡ true

declared_items : (s f t : ℕ) (items : List Item) (shared : List (List ℕ)) (functions : List Function) (tasks : List Task) →
    are_written_items s f t items shared functions tasks ≡ true →
    Declared s f t (record { items = items; shared = shared; functions = functions; tasks = tasks })
declared_items s f t [] [] [] [] w = record { row = []; same = refl; written = refl }
declared_items s f t [] (n ∷ shared) functions tasks w = absurd (cc)
declared_items s f t [] [] (g ∷ functions) tasks w = absurd (cc)
declared_items s f t [] [] [] (h ∷ tasks) w = absurd (cc)
declared_items s f t (item.Shared k ∷ items) [] functions tasks w = absurd (cc)
declared_items s f t (item.Shared k ∷ items) (n ∷ shared) functions tasks w =
    let parts = and_parts (k == s) (are_written_items (s + 1) f t items shared functions tasks) w in
    let rest = declared_items (s + 1) f t items shared functions tasks parts.1 in
    record {
      row = declaration.Shared n ∷ rest.row;
      same = ap (λ z. shared_before z n (record { items = items; shared = shared; functions = functions; tasks = tasks })) (eqb-true k s parts.0)
          ∙ ap (λ z. shared_before s n z) rest.same;
      written = rest.written;
    }
declared_items s f t (item.Fun k ∷ items) shared [] tasks w = absurd (cc)
declared_items s f t (item.Fun k ∷ items) shared (g ∷ functions) tasks w =
    let rest_writing = are_written_items s (f + 1) t items shared functions tasks in
    let parts = and_parts (k == f) (is_written_block g.body && rest_writing) w in
    let bodies = and_parts (is_written_block g.body) rest_writing parts.1 in
    let rest = declared_items s (f + 1) t items shared functions tasks bodies.1 in
    record {
      row = declaration.Fun g ∷ rest.row;
      same = ap (λ z. function_before z g (record { items = items; shared = shared; functions = functions; tasks = tasks })) (eqb-true k f parts.0)
          ∙ ap (λ z. function_before f g z) rest.same;
      written = and_from (is_written_block g.body) (list_all is_written_declaration rest.row) bodies.0 rest.written;
    }
declared_items s f t (item.Task k ∷ items) shared functions [] w = absurd (cc)
declared_items s f t (item.Task k ∷ items) shared functions (h ∷ tasks) w =
    let rest_writing = are_written_items s f (t + 1) items shared functions tasks in
    let parts = and_parts (k == t) (is_written_block h.body && rest_writing) w in
    let bodies = and_parts (is_written_block h.body) rest_writing parts.1 in
    let rest = declared_items s f (t + 1) items shared functions tasks bodies.1 in
    record {
      row = declaration.Task h ∷ rest.row;
      same = ap (λ z. task_before z h (record { items = items; shared = shared; functions = functions; tasks = tasks })) (eqb-true k t parts.0)
          ∙ ap (λ z. task_before t h z) rest.same;
      written = and_from (is_written_block h.body) (list_all is_written_declaration rest.row) bodies.0 rest.written;
    }

pub declared_script : (script : Script) → is_written script ≡ true → Declared 0 0 0 script
declared_script script w = declared_items 0 0 0 script.items script.shared script.functions script.tasks w

-- One item more after others.

-- the script with one item more, where so many of each kind stand before it
abbrev appended : ℕ → ℕ → ℕ → Script → Declaration → Script
appended s f t script (declaration.Shared n) = record {
  items = script.items ++ item.Shared (s + length script.shared) ∷ [];
  shared = script.shared ++ n ∷ [];
  functions = script.functions;
  tasks = script.tasks;
}
appended s f t script (declaration.Fun g) = record {
  items = script.items ++ item.Fun (f + length script.functions) ∷ [];
  shared = script.shared;
  functions = script.functions ++ g ∷ [];
  tasks = script.tasks;
}
appended s f t script (declaration.Task h) = record {
  items = script.items ++ item.Task (t + length script.tasks) ∷ [];
  shared = script.shared;
  functions = script.functions;
  tasks = script.tasks ++ h ∷ [];
}

-- Sums of numbers of items.

counted_on : (k n : ℕ) → (k + 1) + n ≡ k + suc n
counted_on k n = omega arith

none_more : (k : ℕ) → k ≡ k + 0
none_more k = omega arith

none_before : (k : ℕ) → 0 + k ≡ k
none_before k = omega arith

after_shared : (s f t : ℕ) (n : List ℕ) (script : Script) (d : Declaration) →
    shared_before s n (appended (s + 1) f t script d) ≡ appended s f t (shared_before s n script) d
after_shared s f t n script (declaration.Shared m) =
    ap (λ z. let x : Script = record { items = item.Shared s ∷ (script.items ++ item.Shared z ∷ []); shared = n ∷ (script.shared ++ m ∷ []); functions = script.functions; tasks = script.tasks } in x)
    (counted_on s (length script.shared))
after_shared s f t n script (declaration.Fun g) = refl
after_shared s f t n script (declaration.Task h) = refl

after_function : (s f t : ℕ) (g : Function) (script : Script) (d : Declaration) →
    function_before f g (appended s (f + 1) t script d) ≡ appended s f t (function_before f g script) d
after_function s f t g script (declaration.Shared m) = refl
after_function s f t g script (declaration.Fun h) =
    ap (λ z. let x : Script = record { items = item.Fun f ∷ (script.items ++ item.Fun z ∷ []); shared = script.shared; functions = g ∷ (script.functions ++ h ∷ []); tasks = script.tasks } in x)
    (counted_on f (length script.functions))
after_function s f t g script (declaration.Task h) = refl

after_task : (s f t : ℕ) (h : Task) (script : Script) (d : Declaration) →
    task_before t h (appended s f (t + 1) script d) ≡ appended s f t (task_before t h script) d
after_task s f t h script (declaration.Shared m) = refl
after_task s f t h script (declaration.Fun g) = refl
after_task s f t h script (declaration.Task i) =
    ap (λ z. let x : Script = record { items = item.Task t ∷ (script.items ++ item.Task z ∷ []); shared = script.shared; functions = script.functions; tasks = h ∷ (script.tasks ++ i ∷ []) } in x)
    (counted_on t (length script.tasks))

first_of : (s f t : ℕ) (d : Declaration) → numbered s f t (d ∷ []) ≡ appended s f t empty d
first_of s f t (declaration.Shared n) =
    ap (λ z. let x : Script = record { items = item.Shared z ∷ []; shared = n ∷ []; functions = []; tasks = [] } in x) (none_more s)
first_of s f t (declaration.Fun g) =
    ap (λ z. let x : Script = record { items = item.Fun z ∷ []; shared = []; functions = g ∷ []; tasks = [] } in x) (none_more f)
first_of s f t (declaration.Task h) =
    ap (λ z. let x : Script = record { items = item.Task z ∷ []; shared = []; functions = []; tasks = h ∷ [] } in x) (none_more t)

numbered_more : (s f t : ℕ) (ds : List Declaration) (d : Declaration) →
    numbered s f t (ds ++ d ∷ []) ≡ appended s f t (numbered s f t ds) d
numbered_more s f t [] d = first_of s f t d
numbered_more s f t (declaration.Shared n ∷ ds) d =
    ap (λ z. shared_before s n z) (numbered_more (s + 1) f t ds d) ∙ after_shared s f t n (numbered (s + 1) f t ds) d
numbered_more s f t (declaration.Fun g ∷ ds) d =
    ap (λ z. function_before f g z) (numbered_more s (f + 1) t ds d) ∙ after_function s f t g (numbered s (f + 1) t ds) d
numbered_more s f t (declaration.Task h ∷ ds) d =
    ap (λ z. task_before t h z) (numbered_more s f (t + 1) ds d) ∙ after_task s f t h (numbered s f (t + 1) ds) d

from_zero : (script : Script) (d : Declaration) → appended 0 0 0 script d ≡ with_declaration script d
from_zero script (declaration.Shared n) =
    ap (λ z. let x : Script = record { items = script.items ++ item.Shared z ∷ []; shared = script.shared ++ n ∷ []; functions = script.functions; tasks = script.tasks } in x)
    (none_before (length script.shared))
from_zero script (declaration.Fun g) =
    ap (λ z. let x : Script = record { items = script.items ++ item.Fun z ∷ []; shared = script.shared; functions = script.functions ++ g ∷ []; tasks = script.tasks } in x)
    (none_before (length script.functions))
from_zero script (declaration.Task h) =
    ap (λ z. let x : Script = record { items = script.items ++ item.Task z ∷ []; shared = script.shared; functions = script.functions; tasks = script.tasks ++ h ∷ [] } in x)
    (none_before (length script.tasks))

-- one declaration more makes the script with one item more
pub script_more : (ds : List Declaration) (d : Declaration) → script_of (ds ++ d ∷ []) ≡ with_declaration (script_of ds) d
script_more ds d = numbered_more 0 0 0 ds d ∙ from_zero (script_of ds) d
