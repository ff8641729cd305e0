-- Which form stands where the reading of an item is, and where that reading stands after each part.
use Rattle.std.proofs.Common.{◌≡◌, ℕ, ◌≤◌, ◌<◌, length, arith, true, List, [], ◌∷◌, ◌++◌, map, refl, sym, ap, subst, append_assoc, append-nil, codes}
use Rattle.script_tokens.specs.declared.token.Keyword.TheVariants as word
use Rattle.script_tokens.specs.declared.token.Symbol.TheVariants as mark
use Rattle.script_tokens.specs.declared.token.Token.TheVariants.{Mark, Name, Word}
use Rattle.script_grammar.specs.declared.halt.Halt.{Halt}
use Rattle.script_grammar.specs.declared.parser.items.Declaration.{Declaration}
use Rattle.script_grammar.specs.declared.parser.items.Declaration.TheVariants as declaration
use Rattle.script_grammar.specs.declared.tree.Block.{Block}
use Rattle.script_grammar.specs.ExpressionForms.{BeginsNot, name_form}
use Rattle.script_grammar.specs.Forms.{Tokens, Form, GoesOnAs, Reads, Stops, tok, seq}
use Rattle.script_grammar.specs.Halts.{Halts}
use Rattle.script_grammar.specs.Spelling.{parts, name_tokens}
use Rattle.script_grammar.specs.StatementForms.{block_form, params_form, more_names_form, declaration_form, spell_declaration, is_written_declaration}
use Rattle.script_grammar.proofs.Exits.{halts_first, halts_last}
use Rattle.script_grammar.proofs.Fronts.{stops_here, first_is}
use Rattle.script_grammar.proofs.Items.{At, Complete, Lawful, after_first, branch, here, into, at_same, step, read_rest}
use Rattle.script_grammar.proofs.StatementLaws.{lawful_block}
use Rattle.script_grammar.proofs.StatementRules.{semicolon_form}
use Rattle.script_grammar.proofs.StatementSteps.{semicolon_complete, block_complete}
use Rattle.script_grammar.proofs.TokenLaws.{lawful_name}
use Rattle.script_grammar.proofs.Unique.{UniqueAt, lawful_tok, tok_unique, seq_unique, unique_by}

-- Further names, each after a comma.

abbrev pub comma_form : Form
comma_form = tok (Mark mark.Comma)

abbrev pub next_name_form : Form
next_name_form = seq name_form (λ _. more_names_form)

abbrev pub after_comma_form : Form
after_comma_form = seq comma_form (λ _. next_name_form)

abbrev next_names : after_comma_form.Tree → List (List ℕ)
next_names p = p.1.0 ∷ p.1.1

more_names_0 : (r : Tokens) → BeginsNot (Mark mark.CloseParenthesis) r → At more_names_form r after_comma_form r next_names
more_names_0 r none = branch more_names_form after_comma_form r next_names
    (λ b post m. refl)
    (λ b post m. tt)
    (λ us go a post m e. only us go post a e)
  where
    only : (us : Tokens) → GoesOnAs r us → (post : Tokens) (a : List (List ℕ)) → us ≡ more_names_form.tokens a ++ post →
        (b : after_comma_form.Tree) × ((a ≡ next_names b) × after_comma_form.May b post)
    only us go post [] e = let f = first_is r us post (Mark mark.CloseParenthesis) go e in absurd (none f.0 f.1)
    only us go post (n ∷ ns) e = ((tt, (n, ns)), (refl, (tt, (tt, tt))))

-- these names were read from ts after the first one, and rest is left
pub record NamesRead (ts : Tokens) (first : List ℕ) (names : List (List ℕ)) (rest : Tokens) : Type 0 where
  pub further : List (List ℕ)
  pub same : names ≡ first ∷ further
  pub at : At more_names_form ts more_names_form rest (λ more. further ++ more)
  pub shorter : length rest ≤ length ts

no_names_complete : Complete more_names_form
no_names_complete = record { tree = []; may = tt; plain = (tt, tt) }

next_name_complete : Complete next_name_form
next_name_complete = record { tree = (codes "a", []); may = (tt, tt); plain = (refl, (tt, tt)) }

names_next : (ts rest : Tokens) (first : List ℕ) (names : List (List ℕ)) (read : NamesRead ts first names rest) →
    BeginsNot (Mark mark.CloseParenthesis) rest →
    At more_names_form ts after_comma_form rest (λ p. read.further ++ next_names p)
names_next ts rest first names read none =
    into more_names_form after_comma_form (λ more. read.further ++ more) next_names read.at (more_names_0 rest none)

pub comma_halts : (ts rest : Tokens) (first : List ℕ) (names : List (List ℕ)) (h : Halt) → NamesRead ts first names rest →
    BeginsNot (Mark mark.CloseParenthesis) rest → Halts comma_form rest h → Halts more_names_form ts h
comma_halts ts rest first names h read none stop =
    halts_first comma_form (λ _. next_name_form) (λ p. read.further ++ next_names p) h
    (names_next ts rest first names read none) (λ g b post m n. m) (λ g. next_name_complete) stop

-- after the comma
names_comma : (ts rest q : Tokens) (first : List ℕ) (names : List (List ℕ)) (read : NamesRead ts first names rest) →
    BeginsNot (Mark mark.CloseParenthesis) rest → Reads comma_form rest tt q →
    At more_names_form ts next_name_form q (λ p. read.further ++ (p.0 ∷ p.1))
names_comma ts rest q first names read none comma =
    step comma_form (λ _. next_name_form) (λ p. read.further ++ next_names p) tt
    (names_next ts rest first names read none) (lawful_tok (Mark mark.Comma)) (λ g b post m n. m) comma

pub next_name_halts : (ts rest q : Tokens) (first : List ℕ) (names : List (List ℕ)) (h : Halt) → NamesRead ts first names rest →
    BeginsNot (Mark mark.CloseParenthesis) rest → Reads comma_form rest tt q → Halts name_form q h → Halts more_names_form ts h
next_name_halts ts rest q first names h read none comma stop =
    halts_first name_form (λ _. more_names_form) (λ p. read.further ++ (p.0 ∷ p.1)) h
    (names_comma ts rest q first names read none comma) (λ g b post m n. m) (λ g. no_names_complete) stop

pub names_more : (ts rest q more : Tokens) (first : List ℕ) (names : List (List ℕ)) (one : List ℕ) →
    NamesRead ts first names rest → BeginsNot (Mark mark.CloseParenthesis) rest → Reads comma_form rest tt q →
    Reads name_form q one more → length q < length rest → length more < length q → NamesRead ts first (names ++ one ∷ []) more
names_more ts rest q more first names one read none comma reads less fewer = record {
  further = read.further ++ one ∷ [];
  same = ap (λ z. z ++ one ∷ []) read.same;
  at = at_same more_names_form more_names_form ts more (λ b. read.further ++ (one ∷ b)) (λ b. (read.further ++ one ∷ []) ++ b)
      (λ b. sym (append_assoc read.further (one ∷ []) b))
      (step name_form (λ _. more_names_form) (λ p. read.further ++ (p.0 ∷ p.1)) one
      (names_comma ts rest q first names read none comma) lawful_name (λ g b post m n. m) reads);
  shorter = let f = read.shorter in omega arith;
}

pub names_begin : (ts : Tokens) (first : List ℕ) (names : List (List ℕ)) → names ≡ first ∷ [] → NamesRead ts first names ts
names_begin ts first names is = record { further = []; same = is; at = here more_names_form ts; shorter = omega arith }

pub names_read : (ts rest after : Tokens) (first : List ℕ) (names : List (List ℕ)) → NamesRead ts first names rest →
    rest ≡ Mark mark.CloseParenthesis ∷ after →
    (ns : List (List ℕ)) × ((names ≡ first ∷ ns) × Reads more_names_form ts ns after)
names_read ts rest after first names read closed = (
  read.further,
  (
    read.same,
    subst (λ z. Reads more_names_form ts z after) (append-nil read.further)
        (read_rest more_names_form more_names_form ts rest after (λ more. read.further ++ more) [] read.at
        (record { split = closed; may = tt })),
  ),
)

-- Names between parentheses.

abbrev pub open_form : Form
open_form = tok (Mark mark.OpenParenthesis)

-- names with commas between them, and the parenthesis that closes them
abbrev pub names_form : Form
names_form = record { Tree = List (List ℕ); tokens = λ ns. parts (map name_tokens ns); May = λ ns post. Unit {0} }

abbrev pub enclosed_form : Form
enclosed_form = seq open_form (λ _. names_form)

params_0 : (r : Tokens) → At params_form r enclosed_form r (λ p. p.1)
params_0 r = branch params_form enclosed_form r (λ p. p.1)
    (λ b post m. refl)
    (λ b post m. tt)
    (λ us go a post m e. ((tt, a), (refl, (tt, tt))))

names_complete : Complete names_form
names_complete = record { tree = []; may = tt; plain = (tt, tt) }

pub open_halts : (r : Tokens) (h : Halt) → Halts open_form r h → Halts params_form r h
open_halts r h stop =
    halts_first open_form (λ _. names_form) (λ p. p.1) h (params_0 r) (λ g b post m n. m) (λ g. names_complete) stop

-- after the opening parenthesis
params_1 : {r q : Tokens} → Reads open_form r tt q → At params_form r names_form q (λ ns. ns)
params_1 {r} {q} opened =
    step open_form (λ _. names_form) (λ p. p.1) tt (params_0 r) (lawful_tok (Mark mark.OpenParenthesis)) (λ g b post m n. m) opened

pub no_params_read : {r q rest : Tokens} → Reads open_form r tt q → q ≡ Mark mark.CloseParenthesis ∷ rest → Reads params_form r [] rest
no_params_read {r} {q} {rest} opened closed =
    read_rest params_form names_form r q rest (λ ns. ns) [] (params_1 opened) (record { split = closed; may = tt })

names_0 : (r : Tokens) → BeginsNot (Mark mark.CloseParenthesis) r → At names_form r next_name_form r (λ p. p.0 ∷ p.1)
names_0 r none = branch names_form next_name_form r (λ p. p.0 ∷ p.1)
    (λ b post m. refl)
    (λ b post m. tt)
    (λ us go a post m e. only us go post a e)
  where
    only : (us : Tokens) → GoesOnAs r us → (post : Tokens) (a : List (List ℕ)) → us ≡ names_form.tokens a ++ post →
        (b : next_name_form.Tree) × ((a ≡ b.0 ∷ b.1) × next_name_form.May b post)
    only us go post [] e = let f = first_is r us post (Mark mark.CloseParenthesis) go e in absurd (none f.0 f.1)
    only us go post (n ∷ ns) e = ((n, ns), (refl, (tt, tt)))

-- where no parenthesis closes them, a name stands
params_2 : {r q : Tokens} → Reads open_form r tt q → BeginsNot (Mark mark.CloseParenthesis) q →
    At params_form r next_name_form q (λ p. p.0 ∷ p.1)
params_2 {r} {q} opened none = into names_form next_name_form (λ ns. ns) (λ p. p.0 ∷ p.1) (params_1 opened) (names_0 q none)

pub first_name_halts : {r q : Tokens} (h : Halt) → Reads open_form r tt q → BeginsNot (Mark mark.CloseParenthesis) q →
    Halts name_form q h → Halts params_form r h
first_name_halts {r} {q} h opened none stop =
    halts_first name_form (λ _. more_names_form) (λ p. p.0 ∷ p.1) h (params_2 opened none) (λ g b post m n. m)
    (λ g. no_names_complete) stop

-- after the first name
params_3 : {r q p : Tokens} {first : List ℕ} → Reads open_form r tt q → BeginsNot (Mark mark.CloseParenthesis) q →
    Reads name_form q first p → At params_form r more_names_form p (λ ns. first ∷ ns)
params_3 {r} {q} {p} {first} opened none named =
    step name_form (λ _. more_names_form) (λ p. p.0 ∷ p.1) first (params_2 opened none) lawful_name (λ g b post m n. m) named

pub further_halts : {r q p : Tokens} {first : List ℕ} (h : Halt) → Reads open_form r tt q → BeginsNot (Mark mark.CloseParenthesis) q →
    Reads name_form q first p → Halts more_names_form p h → Halts params_form r h
further_halts {r} {q} {p} {first} h opened none named stop =
    halts_last more_names_form (λ ns. first ∷ ns) h (params_3 opened none named) stop

pub params_read : {r q p rest : Tokens} {first : List ℕ} {names : List (List ℕ)} → Reads open_form r tt q →
    BeginsNot (Mark mark.CloseParenthesis) q → Reads name_form q first p →
    (ns : List (List ℕ)) × ((names ≡ first ∷ ns) × Reads more_names_form p ns rest) → Reads params_form r names rest
params_read {r} {q} {p} {rest} {first} {names} opened none named further =
    subst (λ z. Reads params_form r z rest) (sym further.1.0)
    (read_rest params_form more_names_form r p rest (λ ns. first ∷ ns) further.0 (params_3 opened none named) further.1.1)

-- Two lists of names have two spellings.

more_names_unique : (a b : List (List ℕ)) (x y : Tokens) → more_names_form.tokens a ++ x ≡ more_names_form.tokens b ++ y → (a ≡ b) × (x ≡ y)
more_names_unique [] [] x y e = (refl, cc)
more_names_unique [] (k ∷ b) x y e = cc
more_names_unique (n ∷ a) [] x y e = cc
more_names_unique (n ∷ a) (k ∷ b) x y e =
    let same : n ≡ k = cc in
    let rest = more_names_unique a b x y cc in
    (cc, rest.1)

params_unique : (a b : List (List ℕ)) (x y : Tokens) → params_form.tokens a ++ x ≡ params_form.tokens b ++ y → (a ≡ b) × (x ≡ y)
params_unique [] [] x y e = (refl, cc)
params_unique [] (k ∷ b) x y e = cc
params_unique (n ∷ a) [] x y e = cc
params_unique (n ∷ a) (k ∷ b) x y e =
    let same : n ≡ k = cc in
    let rest = more_names_unique a b x y cc in
    (cc, rest.1)

lawful_params : Lawful params_form
lawful_params = record {
  unique = λ a b x y m n e. params_unique a b x y e;
  local = λ a x y go m. m;
  ends = λ a x m. m;
}

-- What stands after the word of an item.

abbrev shared_form : Form
shared_form = seq name_form (λ _. semicolon_form)

abbrev shared_of : shared_form.Tree → Declaration
shared_of p = declaration.Shared p.0

abbrev task_form : Form
task_form = seq name_form (λ _. block_form)

abbrev task_of : task_form.Tree → Declaration
task_of p = declaration.Task (record { name = p.0; body = p.1 })

abbrev body_form : Form
body_form = seq params_form (λ _. block_form)

abbrev function_form : Form
function_form = seq name_form (λ _. body_form)

abbrev function_of : function_form.Tree → Declaration
function_of p = declaration.Fun (record { name = p.0; params = p.1.0; body = p.1.1 })

-- these tokens after the word of an item

abbrev shared : Tokens → Tokens
shared r = Word word.Shared ∷ r

abbrev function : Tokens → Tokens
function r = Word word.Fn ∷ r

abbrev task : Tokens → Tokens
task r = Word word.Task ∷ r

shared_0 : (r : Tokens) → At declaration_form (shared r) shared_form r shared_of
shared_0 r = after_first declaration_form shared_form (Word word.Shared) r shared_of
    (λ b post m. refl)
    (λ b post m. refl)
    only
  where
    only : (us : Tokens) (a : Declaration) (post : Tokens) → is_written_declaration a ≡ true →
        shared us ≡ spell_declaration a ++ post → (b : shared_form.Tree) × ((a ≡ shared_of b) × shared_form.May b post)
    only us (declaration.Shared n) post m e = ((n, tt), (refl, (tt, tt)))
    only us (declaration.Fun f) post m e = cc
    only us (declaration.Task t) post m e = cc

function_0 : (r : Tokens) → At declaration_form (function r) function_form r function_of
function_0 r = after_first declaration_form function_form (Word word.Fn) r function_of
    (λ b post m. refl)
    (λ b post m. m.1.1)
    only
  where
    only : (us : Tokens) (a : Declaration) (post : Tokens) → is_written_declaration a ≡ true →
        function us ≡ spell_declaration a ++ post → (b : function_form.Tree) × ((a ≡ function_of b) × function_form.May b post)
    only us (declaration.Shared n) post m e = cc
    only us (declaration.Fun f) post m e = ((f.name, (f.params, f.body)), (refl, (tt, (tt, m))))
    only us (declaration.Task t) post m e = cc

task_0 : (r : Tokens) → At declaration_form (task r) task_form r task_of
task_0 r = after_first declaration_form task_form (Word word.Task) r task_of
    (λ b post m. refl)
    (λ b post m. m.1)
    only
  where
    only : (us : Tokens) (a : Declaration) (post : Tokens) → is_written_declaration a ≡ true →
        task us ≡ spell_declaration a ++ post → (b : task_form.Tree) × ((a ≡ task_of b) × task_form.May b post)
    only us (declaration.Shared n) post m e = cc
    only us (declaration.Fun f) post m e = cc
    only us (declaration.Task t) post m e = ((t.name, t.body), (refl, (tt, m)))

-- Shared names.

pub shared_name_halts : (r : Tokens) (h : Halt) → Halts name_form r h → Halts declaration_form (shared r) h
shared_name_halts r h stop =
    halts_first name_form (λ _. semicolon_form) shared_of h (shared_0 r) (λ g b post m n. m) (λ g. semicolon_complete) stop

-- after the name
shared_1 : {r q : Tokens} {name : List ℕ} → Reads name_form r name q →
    At declaration_form (shared r) semicolon_form q (λ _. declaration.Shared name)
shared_1 {r} {q} {name} reads =
    step name_form (λ _. semicolon_form) shared_of name (shared_0 r) lawful_name (λ g b post m n. m) reads

pub shared_halts : {r q : Tokens} {name : List ℕ} (h : Halt) → Reads name_form r name q → Halts semicolon_form q h →
    Halts declaration_form (shared r) h
shared_halts {r} {q} {name} h reads stop = halts_last semicolon_form (λ _. declaration.Shared name) h (shared_1 reads) stop

pub shared_read : {r q rest : Tokens} {name : List ℕ} → Reads name_form r name q → Reads semicolon_form q tt rest →
    Reads declaration_form (shared r) (declaration.Shared name) rest
shared_read {r} {q} {rest} {name} reads close =
    read_rest declaration_form semicolon_form (shared r) q rest (λ _. declaration.Shared name) tt (shared_1 reads) close

-- Tasks.

pub task_name_halts : (r : Tokens) (h : Halt) → Halts name_form r h → Halts declaration_form (task r) h
task_name_halts r h stop =
    halts_first name_form (λ _. block_form) task_of h (task_0 r) (λ g b post m n. m) (λ g. block_complete) stop

-- after the name
task_1 : {r q : Tokens} {name : List ℕ} → Reads name_form r name q →
    At declaration_form (task r) block_form q (λ b. task_of (name, b))
task_1 {r} {q} {name} reads =
    step name_form (λ _. block_form) task_of name (task_0 r) lawful_name (λ g b post m n. m) reads

pub task_body_halts : {r q : Tokens} {name : List ℕ} (h : Halt) → Reads name_form r name q → Halts block_form q h →
    Halts declaration_form (task r) h
task_body_halts {r} {q} {name} h reads stop = halts_last block_form (λ b. task_of (name, b)) h (task_1 reads) stop

pub task_read : {r q rest : Tokens} {name : List ℕ} {body : Block} → Reads name_form r name q → Reads block_form q body rest →
    Reads declaration_form (task r) (task_of (name, body)) rest
task_read {r} {q} {rest} {name} {body} reads block =
    read_rest declaration_form block_form (task r) q rest (λ b. task_of (name, b)) body (task_1 reads) block

-- Functions.

body_complete : Complete body_form
body_complete = record {
  tree = ([], block_complete.tree);
  may = (tt, block_complete.may);
  plain = (tt, (tt, block_complete.plain));
}

pub function_name_halts : (r : Tokens) (h : Halt) → Halts name_form r h → Halts declaration_form (function r) h
function_name_halts r h stop =
    halts_first name_form (λ _. body_form) function_of h (function_0 r) (λ g b post m n. m) (λ g. body_complete) stop

-- after the name
function_1 : {r q : Tokens} {name : List ℕ} → Reads name_form r name q →
    At declaration_form (function r) body_form q (λ b. function_of (name, b))
function_1 {r} {q} {name} reads =
    step name_form (λ _. body_form) function_of name (function_0 r) lawful_name (λ g b post m n. m) reads

pub params_halts : {r q : Tokens} {name : List ℕ} (h : Halt) → Reads name_form r name q → Halts params_form q h →
    Halts declaration_form (function r) h
params_halts {r} {q} {name} h reads stop =
    halts_first params_form (λ _. block_form) (λ b. function_of (name, b)) h (function_1 reads) (λ g b post m n. m)
    (λ g. block_complete) stop

-- after the parameters
function_2 : {r q p : Tokens} {name : List ℕ} {params : List (List ℕ)} → Reads name_form r name q → Reads params_form q params p →
    At declaration_form (function r) block_form p (λ b. function_of (name, (params, b)))
function_2 {r} {q} {p} {name} {params} reads named =
    step params_form (λ _. block_form) (λ b. function_of (name, b)) params (function_1 reads) lawful_params (λ g b post m n. m) named

pub function_body_halts : {r q p : Tokens} {name : List ℕ} {params : List (List ℕ)} (h : Halt) → Reads name_form r name q →
    Reads params_form q params p → Halts block_form p h → Halts declaration_form (function r) h
function_body_halts {r} {q} {p} {name} {params} h reads named stop =
    halts_last block_form (λ b. function_of (name, (params, b))) h (function_2 reads named) stop

pub function_read : {r q p rest : Tokens} {name : List ℕ} {params : List (List ℕ)} {body : Block} → Reads name_form r name q →
    Reads params_form q params p → Reads block_form p body rest →
    Reads declaration_form (function r) (function_of (name, (params, body))) rest
function_read {r} {q} {p} {rest} {name} {params} {body} reads named block =
    read_rest declaration_form block_form (function r) p rest (λ b. function_of (name, (params, b))) body (function_2 reads named) block

-- Items.

-- where an item is missing, `shared a ;` completes what was taken
pub no_declaration : (r : Tokens) → BeginsNot (Word word.Shared) r → BeginsNot (Word word.Fn) r → BeginsNot (Word word.Task) r →
    Stops declaration_form r r
no_declaration r no_shared no_function no_task =
    stops_here declaration_form r (declaration.Shared (codes "a")) refl (tt, (refl, (tt, tt))) none
  where
    none : (us : Tokens) → GoesOnAs r us → (a : Declaration) (post : Tokens) → is_written_declaration a ≡ true →
        us ≡ spell_declaration a ++ post → ⊥
    none us go (declaration.Shared n) post w e =
        let f = first_is r us (Name n ∷ Mark mark.Semicolon ∷ post) (Word word.Shared) go e in no_shared f.0 f.1
    none us go (declaration.Fun g) post w e =
        let f = first_is r us (function_form.tokens (g.name, (g.params, g.body)) ++ post) (Word word.Fn) go e in no_function f.0 f.1
    none us go (declaration.Task t) post w e =
        let f = first_is r us (task_form.tokens (t.name, t.body) ++ post) (Word word.Task) go e in no_task f.0 f.1

declaration_unique : (a : Declaration) → UniqueAt declaration_form a
declaration_unique (declaration.Shared n) b x y m w e =
    let h : shared_form.Tree = (n, tt) in
    unique_by declaration_form shared_form (shared (shared_form.tokens h ++ x)) x shared_of h (shared_0 (shared_form.tokens h ++ x)) (tt, tt)
    (seq_unique name_form (λ _. semicolon_form) n tt (lawful_name.unique n) (tok_unique (Mark mark.Semicolon))) b y w e
declaration_unique (declaration.Fun f) b x y m w e =
    let h : function_form.Tree = (f.name, (f.params, f.body)) in
    unique_by declaration_form function_form (function (function_form.tokens h ++ x)) x function_of h (function_0 (function_form.tokens h ++ x)) (tt, (tt, m))
    (seq_unique name_form (λ _. body_form) f.name (f.params, f.body) (lawful_name.unique f.name)
    (seq_unique params_form (λ _. block_form) f.params f.body (lawful_params.unique f.params) (lawful_block.unique f.body))) b y w e
declaration_unique (declaration.Task t) b x y m w e =
    let h : task_form.Tree = (t.name, t.body) in
    unique_by declaration_form task_form (task (task_form.tokens h ++ x)) x task_of h (task_0 (task_form.tokens h ++ x)) (tt, m)
    (seq_unique name_form (λ _. block_form) t.name t.body (lawful_name.unique t.name) (lawful_block.unique t.body)) b y w e

pub lawful_declaration : Lawful declaration_form
lawful_declaration = record {
  unique = declaration_unique;
  local = λ a x y go m. m;
  ends = λ a x m. m;
}
