-- Where the reading of a statement stands after each of its parts.
use Rattle.std.proofs.Common.{◌≡◌, ◌≢◌, inl, inr, ℕ, List, [], ◌∷◌, ◌++◌, None, refl, sym, ap, ◌∙◌, subst, codes}
use Rattle.script_tokens.specs.declared.token.Keyword.TheVariants as word
use Rattle.script_tokens.specs.declared.token.Symbol.TheVariants as mark
use Rattle.script_tokens.specs.declared.token.Token.TheVariants.{Mark, Word}
use Rattle.script_grammar.specs.declared.halt.Halt.{Halt}
use Rattle.script_grammar.specs.declared.parser.places.Part.{Part}
use Rattle.script_grammar.specs.declared.parser.places.Part.TheVariants as part
use Rattle.script_grammar.specs.declared.parser.places.Place.{Place}
use Rattle.script_grammar.specs.declared.parser.places.Place.TheVariants as place
use Rattle.script_grammar.specs.declared.tree.Expr.{Expr}
use Rattle.script_grammar.specs.declared.tree.Stmt.{Stmt}
use Rattle.script_grammar.specs.declared.tree.Stmt.TheOpen.{Stmt-F}
use Rattle.script_grammar.specs.declared.tree.Stmt.TheVariants as stmt
use Rattle.script_grammar.specs.declared.tree.Stmt.TheViews.{roll-Stmt}
use Rattle.script_grammar.specs.ExpressionForms.{BeginsNot, name_form, expr_form}
use Rattle.script_grammar.specs.Forms.{Tokens, Form, AllPlain, GoesOnAs, Reads, Stops}
use Rattle.script_grammar.specs.Halts.{Halts}
use Rattle.script_grammar.specs.Spelling.{spell_expr}
use Rattle.script_grammar.specs.StatementForms.{NoWord, assignment, deletion, place_expr, part_form, value_form, assigned_form, stmt_form, block_form}
use Rattle.script_grammar.proofs.Ends.{apart}
use Rattle.script_grammar.proofs.Exits.{halts_first, halts_last}
use Rattle.script_grammar.proofs.ExpressionLaws.{lawful_expr, complete_expr}
use Rattle.script_grammar.proofs.Fronts.{stops_here, first_is}
use Rattle.script_grammar.proofs.Items.{At, Complete, Completes, Follows, plain_append, into, branch, left, step, stop_at, read_rest}
use Rattle.script_grammar.proofs.Places.{lawful_part, place_same}
use Rattle.script_grammar.proofs.StatementRules.{semicolon_form, equal_form, value_0, assigned_0, declared, deleted_form, removed, choices_form, named_block_form, catch_form, assigning_form, tail_form, begun, assigned, let_0, delete_0, return_0, print_0, begun_0}
use Rattle.script_grammar.proofs.StatementTrees.{Layer, layer_form, stmt_0, braces, block-spelling, block-writing}
use Rattle.script_grammar.proofs.TokenLaws.{lawful_name}
use Rattle.script_grammar.proofs.Unique.{lawful_tok}

-- What completes what was taken.

semicolon_plain : AllPlain (Mark mark.Semicolon ∷ [])
semicolon_plain = (tt, tt)

pub semicolon_complete : Complete semicolon_form
semicolon_complete = record { tree = tt; may = tt; plain = semicolon_plain }

value_plain : AllPlain (value_form.tokens complete_expr.tree)
value_plain = plain_append (spell_expr complete_expr.tree) (Mark mark.Semicolon ∷ []) complete_expr.plain semicolon_plain

value_complete : Complete value_form
value_complete = record { tree = complete_expr.tree; may = complete_expr.may.0; plain = value_plain }

assigned_complete : Complete assigned_form
assigned_complete = record { tree = complete_expr.tree; may = complete_expr.may.0; plain = (tt, value_plain) }

-- an empty block
pub block_complete : Complete block_form
block_complete = record {
  tree = braces [];
  may = block-writing [];
  plain = subst AllPlain (sym (block-spelling [])) (tt, (tt, tt));
}

pub named_block_complete : Complete named_block_form
named_block_complete = record { tree = (codes "a", block_complete.tree); may = (tt, block_complete.may); plain = (refl, block_complete.plain) }

pub catch_complete : Complete catch_form
catch_complete = record {
  tree = (tt, named_block_complete.tree);
  may = (tt, named_block_complete.may);
  plain = (tt, named_block_complete.plain);
}

pub choices_complete : Complete choices_form
choices_complete = record {
  tree = (block_complete.tree, None);
  may = (block_complete.may, λ rest e. cc);
  plain = plain_append (block_form.tokens block_complete.tree) [] block_complete.plain tt;
}

-- what a statement is made of is read
pub under : {G : Form} {ts r : Tokens} (c : G.Tree → Layer) → At layer_form ts G r c → At stmt_form ts G r (λ b. roll-Stmt (c b))
under {G} {ts} {r} c f = into layer_form G roll-Stmt c (stmt_0 ts) f

-- the statement by its own name
pub by_name : {ts rest : Tokens} {s t : Stmt} → s ≡ t → Reads stmt_form ts s rest → Reads stmt_form ts t rest
by_name {ts} {rest} {s} {t} same reads = subst (λ z. Reads stmt_form ts z rest) same reads

-- An expression and a semicolon.

before_semicolon : Follows expr_form (λ _. semicolon_form)
before_semicolon e b post m n = (m.0, apart mark.Semicolon refl post)

pub value_halts : (r : Tokens) (h : Halt) → Halts expr_form r h → Halts value_form r h
value_halts r h stop =
    halts_first expr_form (λ _. semicolon_form) (λ b. b.0) h (value_0 r) before_semicolon (λ g. semicolon_complete) stop

-- after the expression
value_1 : {r q : Tokens} {e : Expr} → Reads expr_form r e q → At value_form r semicolon_form q (λ b. e)
value_1 {r} {q} {e} reads = step expr_form (λ _. semicolon_form) (λ b. b.0) e (value_0 r) lawful_expr before_semicolon reads

pub value_end_halts : {r q : Tokens} {e : Expr} (h : Halt) → Reads expr_form r e q → Halts semicolon_form q h → Halts value_form r h
value_end_halts {r} {q} {e} h reads stop = halts_last semicolon_form (λ b. e) h (value_1 reads) stop

pub value_read : {r q rest : Tokens} {e : Expr} → Reads expr_form r e q → Reads semicolon_form q tt rest → Reads value_form r e rest
value_read {r} {q} {rest} {e} reads close = read_rest value_form semicolon_form r q rest (λ b. e) tt (value_1 reads) close

-- An equals sign, an expression and a semicolon.

pub equal_halts : (r : Tokens) (h : Halt) → Halts equal_form r h → Halts assigned_form r h
equal_halts r h stop =
    halts_first equal_form (λ _. value_form) (λ b. b.1) h (assigned_0 r) (λ g b post m n. m) (λ g. value_complete) stop

-- after the equals sign
assigned_1 : {r q : Tokens} → Reads equal_form r tt q → At assigned_form r value_form q (λ b. b)
assigned_1 {r} {q} equal =
    step equal_form (λ _. value_form) (λ b. b.1) tt (assigned_0 r) (lawful_tok (Mark mark.Equal)) (λ g b post m n. m) equal

pub assigned_halts : {r q : Tokens} (h : Halt) → Reads equal_form r tt q → Halts value_form q h → Halts assigned_form r h
assigned_halts {r} {q} h equal stop = halts_last value_form (λ b. b) h (assigned_1 equal) stop

pub assigned_read : {r q rest : Tokens} {e : Expr} → Reads equal_form r tt q → Reads value_form q e rest → Reads assigned_form r e rest
assigned_read {r} {q} {rest} {e} equal reads = read_rest assigned_form value_form r q rest (λ b. b) e (assigned_1 equal) reads

-- Declarations of locals.

pub let_name_halts : (r : Tokens) (h : Halt) → Halts name_form r h → Halts stmt_form (Word word.Let ∷ r) h
let_name_halts r h stop =
    halts_first name_form (λ _. assigned_form) (λ b. roll-Stmt (declared b)) h (under declared (let_0 r)) (λ g b post m n. m)
    (λ g. assigned_complete) stop

-- after the name
let_1 : {r q : Tokens} {name : List ℕ} → Reads name_form r name q →
    At stmt_form (Word word.Let ∷ r) assigned_form q (λ b. roll-Stmt (declared (name, b)))
let_1 {r} {q} {name} reads =
    step name_form (λ _. assigned_form) (λ b. roll-Stmt (declared b)) name (under declared (let_0 r)) lawful_name (λ g b post m n. m) reads

pub let_halts : {r q : Tokens} {name : List ℕ} (h : Halt) → Reads name_form r name q → Halts assigned_form q h →
    Halts stmt_form (Word word.Let ∷ r) h
let_halts {r} {q} {name} h reads stop = halts_last assigned_form (λ b. roll-Stmt (declared (name, b))) h (let_1 reads) stop

pub let_read : {r q rest : Tokens} {name : List ℕ} {e : Expr} → Reads name_form r name q → Reads assigned_form q e rest →
    Reads stmt_form (Word word.Let ∷ r) (stmt.Let name e) rest
let_read {r} {q} {rest} {name} {e} reads value =
    by_name (stmt.rolls-Let name e)
    (read_rest stmt_form assigned_form (Word word.Let ∷ r) q rest (λ b. roll-Stmt (declared (name, b))) e (let_1 reads) value)

-- Deletions.

before_end : Follows part_form (λ _. semicolon_form)
before_end p b post m n = (m.0, apart mark.Semicolon refl post)

abbrev deleting : deleted_form.Tree → Layer
deleting p = removed p.0

pub delete_part_halts : (r : Tokens) (h : Halt) → Halts part_form r h → Halts stmt_form (Word word.Delete ∷ r) h
delete_part_halts r h stop =
    halts_first part_form (λ _. semicolon_form) (λ b. roll-Stmt (deleting b)) h (under deleting (delete_0 r)) before_end
    (λ g. semicolon_complete) stop

-- after the part
delete_1 : {r q : Tokens} {p : Part} → Reads part_form r p q →
    At stmt_form (Word word.Delete ∷ r) semicolon_form q (λ b. roll-Stmt (deleting (p, b)))
delete_1 {r} {q} {p} reads =
    step part_form (λ _. semicolon_form) (λ b. roll-Stmt (deleting b)) p (under deleting (delete_0 r)) lawful_part before_end reads

pub delete_halts : {r q : Tokens} {p : Part} (h : Halt) → Reads part_form r p q → Halts semicolon_form q h →
    Halts stmt_form (Word word.Delete ∷ r) h
delete_halts {r} {q} {p} h reads stop = halts_last semicolon_form (λ b. roll-Stmt (deleting (p, b))) h (delete_1 reads) stop

deletion_rolls : (p : Part) → roll-Stmt (removed p) ≡ deletion p
deletion_rolls (part.Member target n) = stmt.rolls-DeleteMember target n
deletion_rolls (part.Index target key) = stmt.rolls-DeleteIndex target key

pub delete_read : {r q rest : Tokens} {p : Part} {s : Stmt} → Reads part_form r p q → Reads semicolon_form q tt rest →
    s ≡ deletion p → Reads stmt_form (Word word.Delete ∷ r) s rest
delete_read {r} {q} {rest} {p} {s} reads close is =
    by_name (deletion_rolls p ∙ sym is)
    (read_rest stmt_form semicolon_form (Word word.Delete ∷ r) q rest (λ b. roll-Stmt (deleting (p, b))) tt (delete_1 reads) close)

-- Returns and prints.

pub return_halts : (r : Tokens) (h : Halt) → Halts value_form r h → Halts stmt_form (Word word.Return ∷ r) h
return_halts r h stop = halts_last value_form (λ b. roll-Stmt (Stmt-F.Return b)) h (under Stmt-F.Return (return_0 r)) stop

pub return_read : {r rest : Tokens} {e : Expr} → Reads value_form r e rest →
    Reads stmt_form (Word word.Return ∷ r) (stmt.Return e) rest
return_read {r} {rest} {e} reads =
    by_name (stmt.rolls-Return e)
    (read_rest stmt_form value_form (Word word.Return ∷ r) r rest (λ b. roll-Stmt (Stmt-F.Return b)) e (under Stmt-F.Return (return_0 r)) reads)

pub print_halts : (r : Tokens) (h : Halt) → Halts value_form r h → Halts stmt_form (Word word.Print ∷ r) h
print_halts r h stop = halts_last value_form (λ b. roll-Stmt (Stmt-F.Print b)) h (under Stmt-F.Print (print_0 r)) stop

pub print_read : {r rest : Tokens} {e : Expr} → Reads value_form r e rest →
    Reads stmt_form (Word word.Print ∷ r) (stmt.Print e) rest
print_read {r} {rest} {e} reads =
    by_name (stmt.rolls-Print e)
    (read_rest stmt_form value_form (Word word.Print ∷ r) r rest (λ b. roll-Stmt (Stmt-F.Print b)) e (under Stmt-F.Print (print_0 r)) reads)

-- Statements that begin with an expression.

before_tail : Follows expr_form tail_form
before_tail e (inl t) post m n = (m.0, apart mark.Semicolon refl post)
before_tail e (inr p) post m n = (m.0, apart mark.Equal refl (value_form.tokens p.1 ++ post))

tail_completes : Completes expr_form tail_form
tail_completes e = record { tree = inl tt; may = tt; plain = semicolon_plain }

pub begun_halts : {r : Tokens} (h : Halt) → NoWord r → Halts expr_form r h → Halts stmt_form r h
begun_halts {r} h none stop =
    halts_first expr_form tail_form (λ b. roll-Stmt (begun b)) h (under begun (begun_0 r none)) before_tail tail_completes stop

-- after the expression
begun_1 : {r q : Tokens} {e : Expr} → NoWord r → Reads expr_form r e q →
    At stmt_form r (tail_form e) q (λ b. roll-Stmt (begun (e, b)))
begun_1 {r} {q} {e} none reads =
    step expr_form tail_form (λ b. roll-Stmt (begun b)) e (under begun (begun_0 r none)) lawful_expr before_tail reads

-- where no equals sign stands, a semicolon does
plain_2 : {r q : Tokens} {e : Expr} → NoWord r → Reads expr_form r e q → BeginsNot (Mark mark.Equal) q →
    At stmt_form r semicolon_form q (λ b. roll-Stmt (Stmt-F.Plain e))
plain_2 {r} {q} {e} none reads no_equal =
    into (tail_form e) semicolon_form (λ b. roll-Stmt (begun (e, b))) inl (begun_1 none reads)
    (left semicolon_form (assigning_form e) q
    (λ us go p post m is. let f = first_is q us (value_form.tokens p.1 ++ post) (Mark mark.Equal) go is in no_equal f.0 f.1))

pub plain_halts : {r q : Tokens} {e : Expr} (h : Halt) → NoWord r → Reads expr_form r e q → BeginsNot (Mark mark.Equal) q →
    Halts semicolon_form q h → Halts stmt_form r h
plain_halts {r} {q} {e} h none reads no_equal stop =
    halts_last semicolon_form (λ b. roll-Stmt (Stmt-F.Plain e)) h (plain_2 none reads no_equal) stop

pub plain_read : {r q rest : Tokens} {e : Expr} → NoWord r → Reads expr_form r e q → BeginsNot (Mark mark.Equal) q →
    Reads semicolon_form q tt rest → Reads stmt_form r (stmt.Plain e) rest
plain_read {r} {q} {rest} {e} none reads no_equal close =
    by_name (stmt.rolls-Plain e)
    (read_rest stmt_form semicolon_form r q rest (λ b. roll-Stmt (Stmt-F.Plain e)) tt (plain_2 none reads no_equal) close)

-- an equals sign after what cannot be assigned to
pub no_place_stops : {r q next : Tokens} {e : Expr} → NoWord r → Reads expr_form r e q → q ≡ Mark mark.Equal ∷ next →
    ((p : Place) → e ≢ place_expr p) → Stops stmt_form r q
no_place_stops {r} {q} {next} {e} none reads equal other =
    stop_at stmt_form (tail_form e) r q q (λ b. roll-Stmt (begun (e, b))) (begun_1 none reads)
    (stops_here (tail_form e) q (inl tt) tt semicolon_plain refused)
  where
    refused : (us : Tokens) → GoesOnAs q us → (t : (tail_form e).Tree) (post : Tokens) → (tail_form e).May t post →
        us ≡ (tail_form e).tokens t ++ post → ⊥
    refused us go (inl t) post m is = let f = first_is q us post (Mark mark.Semicolon) go is in cc
    refused us go (inr p) post m is = other p.0 m.0

-- where an equals sign stands after a place, a value does
place_2 : {r q next : Tokens} {e : Expr} (p : Place) → NoWord r → Reads expr_form r e q → q ≡ Mark mark.Equal ∷ next →
    e ≡ place_expr p → At stmt_form r assigned_form q (λ b. roll-Stmt (assigned p b))
place_2 {r} {q} {next} {e} p none reads equal is =
    into (tail_form e) assigned_form (λ b. roll-Stmt (begun (e, b))) (λ b. inr (p, b)) (begun_1 none reads)
    (branch (tail_form e) assigned_form q (λ b. inr (p, b)) (λ b post m. refl) (λ b post m. (is, m)) only)
  where
    only : (us : Tokens) → GoesOnAs q us → (t : (tail_form e).Tree) (post : Tokens) → (tail_form e).May t post →
        us ≡ (tail_form e).tokens t ++ post → (b : Expr) × ((t ≡ inr (p, b)) × assigned_form.May b post)
    only us go (inl t) post m same = let f = first_is q us post (Mark mark.Semicolon) go same in cc
    only us go (inr s) post m same =
        (s.1, (ap (λ (z : Place). let t : (tail_form e).Tree = inr (z, s.1) in t) (place_same s.0 p (sym m.0 ∙ is)), m.1))

-- the value after the equals sign
assigned_value : {q next : Tokens} → q ≡ Mark mark.Equal ∷ next → At assigned_form q value_form next (λ b. b)
assigned_value {q} {next} equal = assigned_1 (record { split = equal; may = tt })

pub assignment_halts : {r q next : Tokens} {e : Expr} (p : Place) (h : Halt) → NoWord r → Reads expr_form r e q →
    q ≡ Mark mark.Equal ∷ next → e ≡ place_expr p → Halts value_form next h → Halts stmt_form r h
assignment_halts {r} {q} {next} {e} p h none reads equal is stop =
    halts_last value_form (λ b. roll-Stmt (assigned p b)) h
    (into assigned_form value_form (λ b. roll-Stmt (assigned p b)) (λ b. b) (place_2 p none reads equal is) (assigned_value equal)) stop

assignment_rolls : (p : Place) (e : Expr) → roll-Stmt (assigned p e) ≡ assignment p e
assignment_rolls (place.Name n) e = stmt.rolls-Assign n e
assignment_rolls (place.Part (part.Member target n)) e = stmt.rolls-SetMember target n e
assignment_rolls (place.Part (part.Index target key)) e = stmt.rolls-SetIndex target key e

pub assignment_read : {r q next rest : Tokens} {e v : Expr} {s : Stmt} (p : Place) → NoWord r → Reads expr_form r e q →
    q ≡ Mark mark.Equal ∷ next → e ≡ place_expr p → Reads value_form next v rest → s ≡ assignment p v → Reads stmt_form r s rest
assignment_read {r} {q} {next} {rest} {e} {v} {s} p none reads equal is value same =
    by_name (assignment_rolls p v ∙ sym same)
    (read_rest stmt_form value_form r next rest (λ b. roll-Stmt (assigned p b)) v
    (into assigned_form value_form (λ b. roll-Stmt (assigned p b)) (λ b. b) (place_2 p none reads equal is) (assigned_value equal)) value)
