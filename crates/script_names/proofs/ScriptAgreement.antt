-- The judged tokens of a script agree with its spelling and its sites.
use Rattle.std.proofs.Common.{◌≡◌, ℕ, true, false, List, [], ◌∷◌, ◌++◌, Option, None, Some, Bool, cond, refl, ◌<◌, length, map, sym, ap, ◌∙◌, arith}
use Rattle.std.specs.Prelude.{IfSome, nat_lt}
use Rattle.std.specs.List.{list_all, list_any, position, position_or_len}
use Rattle.std.proofs.lemmas.List.Quantifiers.{position-Some}
use Rattle.std.proofs.lemmas.Bool.Decides.{nat_tests}
use Rattle.script_tokens.specs.declared.token.Token.TheVariants.{Name, Word, Mark}
use Rattle.script_tokens.specs.declared.token.Keyword.TheVariants as word
use Rattle.script_tokens.specs.declared.token.Symbol.TheVariants as mark
use Rattle.script_grammar.specs.declared.tree.Function.{Function}
use Rattle.script_grammar.specs.declared.tree.Item.{Item}
use Rattle.script_grammar.specs.declared.tree.Item.TheVariants as item
use Rattle.script_grammar.specs.declared.tree.Script.{Script}
use Rattle.script_grammar.specs.declared.tree.Task.{Task}
use Rattle.script_grammar.specs.Spelling.{more_parts, name_tokens, parts, spell, spell_function, spell_items, spell_shared, spell_task}
use Rattle.script_sites.specs.Calls.{has_distinct_names}
use Rattle.script_sites.specs.Sites.{function_sites, items_sites, site_binders, task_sites}
use Rattle.script_names.specs.declared.item_names.ItemNames.{ItemNames}
use Rattle.script_names.specs.Names.{Names, is_in, is_taken, more_row, row}
use Rattle.script_names.specs.Scripts.{first_bad, function_flags, item_names, items_flags, judged, params_flags, shared_flags, task_flags}
use Rattle.script_names.proofs.Agreement.{Agrees, AllKeep, both, nothing, token, untoken}
use Rattle.script_names.proofs.StatementAgreement.{block_agrees}

params_agree : (items : ItemNames) (earlier params : Names) → Agrees (more_row (params_flags items earlier params)) (more_parts (map name_tokens params)) []
params_agree items earlier [] = token false (Mark mark.CloseParenthesis) nothing
params_agree items earlier (n ∷ params) = both (token false (Mark mark.Comma) (token (is_taken items earlier n) (Name n) nothing)) (params_agree items (earlier ++ n ∷ []) params)

row_agrees : (items : ItemNames) (params : Names) → Agrees (row (params_flags items [] params)) (parts (map name_tokens params)) []
row_agrees items [] = token false (Mark mark.CloseParenthesis) nothing
row_agrees items (n ∷ params) = untoken (Mark mark.Comma) (params_agree items [] (n ∷ params))

shared_agrees : (earlier : Names) (n : List ℕ) → Agrees (shared_flags earlier n) (spell_shared n) []
shared_agrees earlier n = token false (Word word.Shared) (token (is_in earlier n) (Name n) (token false (Mark mark.Semicolon) nothing))

function_agrees : (items : ItemNames) (earlier : Names) (f : Function) → Agrees (function_flags items earlier f) (spell_function f) (function_sites f)
function_agrees items earlier f =
    both (token false (Word word.Fn) (token (is_in earlier f.name) (Name f.name) (token false (Mark mark.OpenParenthesis) (row_agrees items f.params)))) (block_agrees f.body items f.params)

task_agrees : (items : ItemNames) (earlier : Names) (t : Task) → Agrees (task_flags items earlier t) (spell_task t) (task_sites t)
task_agrees items earlier t = token false (Word word.Task) (token (is_in earlier t.name) (Name t.name) (block_agrees t.body items []))

items_agree : (names : ItemNames) (earlier : Names) (items : List Item) (shared : Names) (fs : List Function) (ts : List Task) →
    Agrees (items_flags names earlier items shared fs ts) (spell_items items shared fs ts) (items_sites items shared fs ts)
items_agree names earlier [] shared fs ts = nothing
items_agree names earlier (item.Shared k ∷ items) [] fs ts = nothing
items_agree names earlier (item.Shared k ∷ items) (n ∷ shared) fs ts = both (shared_agrees earlier n) (items_agree names (earlier ++ n ∷ []) items shared fs ts)
items_agree names earlier (item.Fun k ∷ items) shared [] ts = nothing
items_agree names earlier (item.Fun k ∷ items) shared (f ∷ fs) ts = both (function_agrees names earlier f) (items_agree names (earlier ++ f.name ∷ []) items shared fs ts)
items_agree names earlier (item.Task k ∷ items) shared fs [] = nothing
items_agree names earlier (item.Task k ∷ items) shared fs (t ∷ ts) = both (task_agrees names earlier t) (items_agree names (earlier ++ t.name ∷ []) items shared fs ts)

pub script_agrees : (s : Script) → Agrees (judged s) (spell s) (site_binders s)
script_agrees s = items_agree (item_names s) [] s.items s.shared s.functions s.tasks

-- as many tokens are judged as spell the script
pub judged_count : (s : Script) → length (judged s) ≡ length (spell s)
judged_count s = (script_agrees s).counted

-- where each name keeps the rules, no call repeats an argument's name
pub names_distinct : (s : Script) → AllKeep (judged s) → list_all has_distinct_names (site_binders s) ≡ true
names_distinct s keep = (script_agrees s).distinct keep

is_less : (m n : ℕ) → m < n → nat_lt m n ≡ true
is_less m n h = grind (arith, nat_tests)

bad_place : (fs : List Bool) → list_any (λ bad. bad) fs ≡ true → position_or_len (λ bad. bad) fs < length fs
bad_place [] bad = cc
bad_place (true ∷ fs) bad = omega arith
bad_place (false ∷ fs) bad = let rest = bad_place fs bad in omega arith

keep_where_none : (fs : List Bool) (b : Bool) → list_any (λ bad. bad) fs ≡ b → position (λ bad. bad) fs ≡ None → AllKeep fs
keep_where_none fs false is none = is
keep_where_none fs true is none =
    let test : nat_lt (position_or_len (λ bad. bad) fs) (length fs) ≡ true = is_less (position_or_len (λ bad. bad) fs) (length fs) (bad_place fs is) in
    let found = ap (λ b. cond b (Some (position_or_len (λ bad. bad) fs)) None) test in
    cc

all_keep : (fs : List Bool) → position (λ bad. bad) fs ≡ None → AllKeep fs
all_keep fs none = keep_where_none fs (list_any (λ bad. bad) fs) refl none

-- the first bad token is one of the script
pub bad_within : (s : Script) (place : Option ℕ) → place ≡ first_bad s → IfSome place (λ i. i < length (spell s))
bad_within s None is = tt
bad_within s (Some i) is = let found = position-Some (λ bad. bad) (judged s) i false (sym is) in omega (arith, found.0, judged_count s)

pub distinct_where_none : (s : Script) (place : Option ℕ) → place ≡ first_bad s → place ≡ None → list_all has_distinct_names (site_binders s) ≡ true
distinct_where_none s place is none = names_distinct s (all_keep (judged s) (sym is ∙ none))
