-- Where the reading of a script stands after each of its items, and what its end says.
use Rattle.std.proofs.Common.{◌≡◌, ◌≢◌, ℕ, ◌+◌, ◌≤◌, ◌<◌, Bool, true, false, ◌==◌, length, List, [], ◌∷◌, ◌++◌, refl, sym, ap, ◌∙◌, subst, arith, append_assoc, append-nil, length-append}
use Rattle.std.specs.List.{flat_map, list_all}
use Rattle.std.proofs.lemmas.Bool.{and_from, and_parts, eqb-true}
use Rattle.std.proofs.lemmas.List.{nil_from_length}
use Rattle.script_grammar.specs.declared.halt.Halt.{Halt}
use Rattle.script_grammar.specs.declared.parser.items.Declaration.{Declaration}
use Rattle.script_grammar.specs.declared.parser.items.Declaration.TheVariants as declaration
use Rattle.script_grammar.specs.declared.tree.Function.{Function}
use Rattle.script_grammar.specs.declared.tree.Item.{Item}
use Rattle.script_grammar.specs.declared.tree.Script.{Script}
use Rattle.script_grammar.specs.declared.tree.Task.{Task}
use Rattle.script_grammar.specs.Forms.{Tokens, Form, GoesOnAs, Reads, seq}
use Rattle.script_grammar.specs.Halts.{Halts}
use Rattle.script_grammar.specs.Spelling.{spell}
use Rattle.script_grammar.specs.StatementForms.{declaration_form, spell_declaration, is_written_declaration, script_form, with_declaration}
use Rattle.script_grammar.specs.WrittenStatements.{is_written}
use Rattle.script_grammar.proofs.Exits.{halts_first}
use Rattle.script_grammar.proofs.ItemRules.{lawful_declaration}
use Rattle.script_grammar.proofs.Items.{At, Complete, branch, into, at_same, step, read_rest}
use Rattle.script_grammar.proofs.Numbering.{script_of, numbered-spelling, numbered-writing, declared_script, script_more}

-- declarations up to the end
abbrev pub rows_form : Form
rows_form = record {
  Tree = List Declaration;
  tokens = λ ds. flat_map spell_declaration ds;
  May = λ ds post. (list_all is_written_declaration ds ≡ true) × (post ≡ []);
}

-- a declaration, and more of them
abbrev pub more_rows_form : Form
more_rows_form = seq declaration_form (λ _. rows_form)

abbrev first_declaration : more_rows_form.Tree → List Declaration
first_declaration p = p.0 ∷ p.1

-- what goes on as tokens is no end
no_end : (r us : Tokens) → r ≢ [] → GoesOnAs r us → us ≡ [] → ⊥
no_end [] us more go e = more refl
no_end (t ∷ r) us more go e = let f = go.1 in cc

-- where tokens are, an item stands
rows_0 : (r : Tokens) → r ≢ [] → At rows_form r more_rows_form r first_declaration
rows_0 r some = branch rows_form more_rows_form r first_declaration
    (λ b post m. refl)
    (λ b post m. (and_from (is_written_declaration b.0) (list_all is_written_declaration b.1) m.0 m.1.0, m.1.1))
    (λ us go a post m e. only us go post a m e)
  where
    only : (us : Tokens) → GoesOnAs r us → (post : Tokens) (a : List Declaration) → rows_form.May a post →
        us ≡ rows_form.tokens a ++ post → (b : more_rows_form.Tree) × ((a ≡ first_declaration b) × more_rows_form.May b post)
    only us go post [] m e = absurd (no_end r us some go (e ∙ m.1))
    only us go post (d ∷ ds) m e =
        let parts = and_parts (is_written_declaration d) (list_all is_written_declaration ds) m.0 in
        ((d, ds), (refl, (parts.0, (parts.1, m.1))))

-- a script is the one of its declarations
script_0 : (r : Tokens) → At script_form r rows_form r script_of
script_0 r = branch script_form rows_form r script_of
    (λ b post m. numbered-spelling 0 0 0 b)
    (λ b post m. (numbered-writing 0 0 0 b ∙ m.0, m.1))
    (λ us go a post m e. let d = declared_script a m.0 in (d.row, (d.same, (d.written, m.1))))

rows_complete : Complete rows_form
rows_complete = record { tree = []; may = (refl, refl); plain = tt }

-- this script was read from ts, and rest is left
pub record ScriptRead (ts : Tokens) (script : Script) (rest : Tokens) : Type 0 where
  pub row : List Declaration
  pub same : script ≡ script_of row
  pub at : At script_form ts rows_form rest (λ more. script_of (row ++ more))
  pub fits : length script.shared + length script.functions + length script.tasks + length rest ≤ length ts

-- nothing is read yet
pub script_begin : (ts : Tokens) (items : List Item) (shared : List (List ℕ)) (functions : List Function) (tasks : List Task) →
    items ≡ [] → shared ≡ [] → functions ≡ [] → tasks ≡ [] →
    ScriptRead ts (record { items = items; shared = shared; functions = functions; tasks = tasks }) ts
script_begin ts items shared functions tasks no_items no_shared no_functions no_tasks =
    subst (λ z. ScriptRead ts z ts) (sym is) (record { row = []; same = refl; at = script_0 ts; fits = omega arith })
  where
    is : (let s : Script = record { items = items; shared = shared; functions = functions; tasks = tasks } in s) ≡ script_of []
    is =
        ap (λ z. let s : Script = record { items = z; shared = shared; functions = functions; tasks = tasks } in s) no_items
        ∙ ap (λ z. let s : Script = record { items = []; shared = z; functions = functions; tasks = tasks } in s) no_shared
        ∙ ap (λ z. let s : Script = record { items = []; shared = []; functions = z; tasks = tasks } in s) no_functions
        ∙ ap (λ z. let s : Script = record { items = []; shared = []; functions = []; tasks = z } in s) no_tasks

pub not_empty : (ts : Tokens) (b : Bool) → b ≡ (length ts == 0) → b ≡ false → ts ≢ []
not_empty ts b test is e =
    let empty : (length ts == 0) ≡ true = ap (λ z. length z == 0) e in
    let same : true ≡ false = sym empty ∙ sym test ∙ is in
    cc

pub is_empty : (ts : Tokens) (b : Bool) → b ≡ (length ts == 0) → b ≡ true → ts ≡ []
is_empty ts b test is = nil_from_length ts (eqb-true (length ts) 0 (sym test ∙ is))

-- an item stands next
script_next : (ts rest : Tokens) (s : Script) (read : ScriptRead ts s rest) → rest ≢ [] →
    At script_form ts more_rows_form rest (λ p. script_of (read.row ++ first_declaration p))
script_next ts rest s read some =
    into rows_form more_rows_form (λ more. script_of (read.row ++ more)) first_declaration read.at (rows_0 rest some)

pub script_halts : (ts rest : Tokens) (s : Script) (h : Halt) → ScriptRead ts s rest → rest ≢ [] →
    Halts declaration_form rest h → Halts script_form ts h
script_halts ts rest s h read some stop =
    halts_first declaration_form (λ _. rows_form) (λ p. script_of (read.row ++ first_declaration p)) h
    (script_next ts rest s read some) (λ g b post m n. m) (λ g. rows_complete) stop

one_more : (s : Script) (d : Declaration) →
    length (with_declaration s d).shared + length (with_declaration s d).functions + length (with_declaration s d).tasks
    ≡ length s.shared + length s.functions + length s.tasks + 1
one_more s (declaration.Shared n) = omega (arith, length-append s.shared (n ∷ []))
one_more s (declaration.Fun f) = omega (arith, length-append s.functions (f ∷ []))
one_more s (declaration.Task t) = omega (arith, length-append s.tasks (t ∷ []))

pub read_more : (ts rest more : Tokens) (s : Script) (d : Declaration) → ScriptRead ts s rest → rest ≢ [] →
    Reads declaration_form rest d more → length more < length rest → ScriptRead ts (with_declaration s d) more
read_more ts rest more s d read some reads less = record {
  row = read.row ++ d ∷ [];
  same = ap (λ z. with_declaration z d) read.same ∙ sym (script_more read.row d);
  at = at_same script_form rows_form ts more (λ b. script_of (read.row ++ (d ∷ b))) (λ b. script_of ((read.row ++ d ∷ []) ++ b))
      (λ b. ap script_of (sym (append_assoc read.row (d ∷ []) b)))
      (step declaration_form (λ _. rows_form) (λ p. script_of (read.row ++ first_declaration p)) d
      (script_next ts rest s read some) lawful_declaration (λ g b post m n. m) reads);
  fits = let old = read.fits in let new = one_more s d in omega arith;
}

-- no token is left
pub script_read : (ts rest : Tokens) (s : Script) → ScriptRead ts s rest → rest ≡ [] → Reads script_form ts s []
script_read ts rest s read end =
    let nothing_left : Reads rows_form rest [] [] = record { split = end; may = (refl, refl) } in
    subst (λ z. Reads script_form ts z []) (ap script_of (append-nil read.row) ∙ sym read.same)
    (read_rest script_form rows_form ts rest [] (λ more. script_of (read.row ++ more)) [] read.at nothing_left)

-- Two scripts have two spellings.

some_first : (d : Declaration) (ts : Tokens) → spell_declaration d ++ ts ≢ []
some_first (declaration.Shared n) ts e = cc
some_first (declaration.Fun f) ts e = cc
some_first (declaration.Task t) ts e = cc

rows_same : (a b : List Declaration) → list_all is_written_declaration a ≡ true → list_all is_written_declaration b ≡ true →
    rows_form.tokens a ≡ rows_form.tokens b → a ≡ b
rows_same [] [] v w e = refl
rows_same [] (d ∷ b) v w e = absurd (some_first d (rows_form.tokens b) (sym e))
rows_same (d ∷ a) [] v w e = absurd (some_first d (rows_form.tokens a) e)
rows_same (c ∷ a) (d ∷ b) v w e =
    let first = and_parts (is_written_declaration c) (list_all is_written_declaration a) v in
    let second = and_parts (is_written_declaration d) (list_all is_written_declaration b) w in
    let both = lawful_declaration.unique c d (rows_form.tokens a) (rows_form.tokens b) first.0 second.0 e in
    let rest = rows_same a b first.1 second.1 both.1 in
    ap (λ z. z ∷ a) both.0 ∙ ap (λ z. d ∷ z) rest

pub script_unique : (s t : Script) → is_written s ≡ true → is_written t ≡ true → spell s ≡ spell t → s ≡ t
script_unique s t v w e =
    let a = declared_script s v in
    let b = declared_script t w in
    let rows = rows_same a.row b.row a.written b.written
    (sym (numbered-spelling 0 0 0 a.row) ∙ ap spell (sym a.same) ∙ e ∙ ap spell b.same ∙ numbered-spelling 0 0 0 b.row) in
    a.same ∙ ap script_of rows ∙ sym b.same
