-- Where the reading of a block, or of a statement that holds one, stands after each of its parts.
use Rattle.std.proofs.Common.{◌≡◌, ℕ, ◌≤◌, ◌<◌, length, arith, List, [], ◌∷◌, ◌++◌, Option, None, Some, refl, sym, subst, append_assoc, append-nil}
use Rattle.script_tokens.specs.declared.token.Keyword.TheVariants as word
use Rattle.script_tokens.specs.declared.token.Symbol.TheVariants as mark
use Rattle.script_tokens.specs.declared.token.Token.TheVariants.{Mark, Word}
use Rattle.script_grammar.specs.declared.halt.Halt.{Halt}
use Rattle.script_grammar.specs.declared.tree.Block.{Block}
use Rattle.script_grammar.specs.declared.tree.Expr.{Expr}
use Rattle.script_grammar.specs.declared.tree.Stmt.{Stmt}
use Rattle.script_grammar.specs.declared.tree.Stmt.TheVariants as stmt
use Rattle.script_grammar.specs.declared.tree.Stmt.TheViews.{roll-Stmt}
use Rattle.script_grammar.specs.ExpressionForms.{BeginsNot, NoSuffix, name_form, expr_form}
use Rattle.script_grammar.specs.Forms.{Tokens, Form, Reads, tok}
use Rattle.script_grammar.specs.Halts.{Halts}
use Rattle.script_grammar.specs.StatementForms.{stmt_form, stmts_form, block_form, else_form}
use Rattle.script_grammar.proofs.Exits.{halts_first, halts_last}
use Rattle.script_grammar.proofs.ExpressionLaws.{lawful_expr}
use Rattle.script_grammar.proofs.Items.{At, Complete, Follows, into, at_same, step, read_rest}
use Rattle.script_grammar.proofs.StatementLaws.{lawful_stmt, lawful_block}
use Rattle.script_grammar.proofs.StatementRules.{open_brace_form, braced, block_0, before_block, else_0, choices_form, chosen, repeated, named_block_form, catch_form, attempted, if_0, while_0, try_0, row_is_no_else, more_stmts_form, first_stmt, row_0, row_end}
use Rattle.script_grammar.proofs.StatementSteps.{block_complete, named_block_complete, catch_complete, choices_complete, under, by_name}
use Rattle.script_grammar.proofs.TokenLaws.{lawful_name}
use Rattle.script_grammar.proofs.Unique.{lawful_tok}

-- Rows of statements.

-- these statements were read from ts, and rest is left
pub record RowRead (ts : Tokens) (read : List Stmt) (rest : Tokens) : Type 0 where
  pub at : At stmts_form ts stmts_form rest (λ more. read ++ more)
  pub shorter : length rest ≤ length ts

-- a row may end with its brace
row_complete : Complete stmts_form
row_complete = record { tree = []; may = refl; plain = (tt, tt) }

-- what follows a statement in its block is no `else`
before_row : Follows stmt_form (λ _. stmts_form)
before_row s ss post m n = (m.0, λ takes. row_is_no_else ss post n)

row_next : (ts rest : Tokens) (read : List Stmt) →
    RowRead ts read rest → BeginsNot (Mark mark.CloseBrace) rest →
    At stmts_form ts more_stmts_form rest (λ p. read ++ first_stmt p)
row_next ts rest read row none =
    into stmts_form more_stmts_form (λ more. read ++ more) first_stmt row.at (row_0 rest none)

pub row_more : (ts rest more : Tokens) (read : List Stmt) (one : Stmt) →
    RowRead ts read rest → BeginsNot (Mark mark.CloseBrace) rest → Reads stmt_form rest one more →
    length more < length rest → RowRead ts (read ++ one ∷ []) more
row_more ts rest more read one row none reads less = record {
  at = at_same stmts_form stmts_form ts more (λ b. read ++ (one ∷ b)) (λ b. (read ++ one ∷ []) ++ b)
      (λ b. sym (append_assoc read (one ∷ []) b))
      (step stmt_form (λ _. stmts_form) (λ p. read ++ first_stmt p) one
      (row_next ts rest read row none) lawful_stmt before_row reads);
  shorter = let f = row.shorter in omega arith;
}

pub row_halts : (ts rest : Tokens) (read : List Stmt) (h : Halt) →
    RowRead ts read rest → BeginsNot (Mark mark.CloseBrace) rest → Halts stmt_form rest h → Halts stmts_form ts h
row_halts ts rest read h row none stop =
    halts_first stmt_form (λ _. stmts_form) (λ p. read ++ first_stmt p) h
    (row_next ts rest read row none) before_row (λ g. row_complete) stop

pub row_read : (ts rest after : Tokens) (read : List Stmt) →
    RowRead ts read rest → rest ≡ Mark mark.CloseBrace ∷ after → Reads stmts_form ts read after
row_read ts rest after read row closed =
    subst (λ z. Reads stmts_form ts z after) (append-nil read)
    (read_rest stmts_form stmts_form ts rest after (λ more. read ++ more) [] row.at
    (subst (λ z. Reads stmts_form z [] after) (sym closed) (row_end after)))

-- Blocks.

pub open_brace_halts : (ts : Tokens) (h : Halt) → Halts open_brace_form ts h → Halts block_form ts h
open_brace_halts ts h stop =
    halts_first open_brace_form (λ _. stmts_form) braced h (block_0 ts) (λ g b post m n. m) (λ g. row_complete) stop

-- after the opening brace
block_1 : {ts q : Tokens} → Reads open_brace_form ts tt q → At block_form ts stmts_form q (λ b. braced (tt, b))
block_1 {ts} {q} opened =
    step open_brace_form (λ _. stmts_form) braced tt
    (block_0 ts) (lawful_tok (Mark mark.OpenBrace)) (λ g b post m n. m) opened

pub stmts_halts : {ts q : Tokens} (h : Halt) → Reads open_brace_form ts tt q → Halts stmts_form q h → Halts block_form ts h
stmts_halts {ts} {q} h opened stop = halts_last stmts_form (λ b. braced (tt, b)) h (block_1 opened) stop

pub block_read : {ts q rest : Tokens} {ss : List Stmt} → Reads open_brace_form ts tt q → Reads stmts_form q ss rest →
    Reads block_form ts (braced (tt, ss)) rest
block_read {ts} {q} {rest} {ss} opened reads =
    read_rest block_form stmts_form ts q rest (λ b. braced (tt, b)) ss (block_1 opened) reads

-- What may follow `else`.

pub else_halts : {ts next : Tokens} (h : Halt) → ts ≡ Word word.Else ∷ next → Halts block_form next h → Halts else_form ts h
else_halts {ts} {next} h is stop =
    subst (λ z. Halts else_form z h) (sym is) (halts_last block_form Some h (else_0 next) stop)

pub else_read : {ts next rest : Tokens} {b : Block} → ts ≡ Word word.Else ∷ next → Reads block_form next b rest →
    Reads else_form ts (Some b) rest
else_read {ts} {next} {rest} {b} is reads =
    subst (λ z. Reads else_form z (Some b) rest) (sym is) (read_rest else_form block_form (Word word.Else ∷ next) next rest Some b (else_0 next) reads)

pub no_else_read : (ts : Tokens) → BeginsNot (Word word.Else) ts → Reads else_form ts None ts
no_else_read ts none = record { split = refl; may = none }

-- Choices.

-- these tokens after `if`
abbrev choice : Tokens → Tokens
choice r = Word word.If ∷ r

before_choices : Follows expr_form (λ _. choices_form)
before_choices e b post m n =
    (m.0, subst (λ z. NoSuffix z) (sym (append_assoc (block_form.tokens b.0) (else_form.tokens b.1) post)) (before_block b.0 (else_form.tokens b.1 ++ post)))

pub if_test_halts : (r : Tokens) (h : Halt) → Halts expr_form r h → Halts stmt_form (choice r) h
if_test_halts r h stop =
    halts_first expr_form (λ _. choices_form) (λ b. roll-Stmt (chosen b)) h (under chosen (if_0 r)) before_choices
    (λ g. choices_complete) stop

-- after the expression
if_1 : {r q : Tokens} {e : Expr} → Reads expr_form r e q → At stmt_form (choice r) choices_form q (λ b. roll-Stmt (chosen (e, b)))
if_1 {r} {q} {e} test =
    step expr_form (λ _. choices_form) (λ b. roll-Stmt (chosen b)) e (under chosen (if_0 r)) lawful_expr before_choices test

no_else_complete : Complete else_form
no_else_complete = record { tree = None; may = λ rest e. cc; plain = tt }

pub if_block_halts : {r q : Tokens} {e : Expr} (h : Halt) → Reads expr_form r e q → Halts block_form q h →
    Halts stmt_form (choice r) h
if_block_halts {r} {q} {e} h test stop =
    halts_first block_form (λ _. else_form) (λ b. roll-Stmt (chosen (e, b))) h (if_1 test) (λ g b post m n. m)
    (λ g. no_else_complete) stop

-- after the block
if_2 : {r q p : Tokens} {e : Expr} {b : Block} → Reads expr_form r e q → Reads block_form q b p →
    At stmt_form (choice r) else_form p (λ c. roll-Stmt (chosen (e, (b, c))))
if_2 {r} {q} {p} {e} {b} test block =
    step block_form (λ _. else_form) (λ c. roll-Stmt (chosen (e, c))) b (if_1 test) lawful_block (λ g b post m n. m) block

pub if_else_halts : {r q p : Tokens} {e : Expr} {b : Block} (h : Halt) → Reads expr_form r e q → Reads block_form q b p →
    Halts else_form p h → Halts stmt_form (choice r) h
if_else_halts {r} {q} {p} {e} {b} h test block stop =
    halts_last else_form (λ c. roll-Stmt (chosen (e, (b, c)))) h (if_2 test block) stop

pub if_read : {r q p rest : Tokens} {e : Expr} {b : Block} {c : Option Block} → Reads expr_form r e q → Reads block_form q b p →
    Reads else_form p c rest → Reads stmt_form (choice r) (stmt.If e b c) rest
if_read {r} {q} {p} {rest} {e} {b} {c} test block other =
    by_name (stmt.rolls-If e b c)
    (read_rest stmt_form else_form (choice r) p rest (λ c. roll-Stmt (chosen (e, (b, c)))) c (if_2 test block) other)

-- Loops.

-- these tokens after `while`
abbrev loop : Tokens → Tokens
loop r = Word word.While ∷ r

before_body : Follows expr_form (λ _. block_form)
before_body e b post m n = (m.0, before_block b post)

pub while_test_halts : (r : Tokens) (h : Halt) → Halts expr_form r h → Halts stmt_form (loop r) h
while_test_halts r h stop =
    halts_first expr_form (λ _. block_form) (λ b. roll-Stmt (repeated b)) h (under repeated (while_0 r)) before_body
    (λ g. block_complete) stop

-- after the expression
while_1 : {r q : Tokens} {e : Expr} → Reads expr_form r e q → At stmt_form (loop r) block_form q (λ b. roll-Stmt (repeated (e, b)))
while_1 {r} {q} {e} test =
    step expr_form (λ _. block_form) (λ b. roll-Stmt (repeated b)) e (under repeated (while_0 r)) lawful_expr before_body test

pub while_body_halts : {r q : Tokens} {e : Expr} (h : Halt) → Reads expr_form r e q → Halts block_form q h →
    Halts stmt_form (loop r) h
while_body_halts {r} {q} {e} h test stop = halts_last block_form (λ b. roll-Stmt (repeated (e, b))) h (while_1 test) stop

pub while_read : {r q rest : Tokens} {e : Expr} {b : Block} → Reads expr_form r e q → Reads block_form q b rest →
    Reads stmt_form (loop r) (stmt.While e b) rest
while_read {r} {q} {rest} {e} {b} test body =
    by_name (stmt.rolls-While e b)
    (read_rest stmt_form block_form (loop r) q rest (λ b. roll-Stmt (repeated (e, b))) b (while_1 test) body)

-- Attempts.

-- these tokens after `try`
abbrev attempt : Tokens → Tokens
attempt r = Word word.Try ∷ r

abbrev catch_word : Form
catch_word = tok (Word word.Catch)

pub try_body_halts : (r : Tokens) (h : Halt) → Halts block_form r h → Halts stmt_form (attempt r) h
try_body_halts r h stop =
    halts_first block_form (λ _. catch_form) (λ b. roll-Stmt (attempted b)) h (under attempted (try_0 r)) (λ g b post m n. m)
    (λ g. catch_complete) stop

-- after the first block
try_1 : {r q : Tokens} {b : Block} → Reads block_form r b q → At stmt_form (attempt r) catch_form q (λ c. roll-Stmt (attempted (b, c)))
try_1 {r} {q} {b} body =
    step block_form (λ _. catch_form) (λ b. roll-Stmt (attempted b)) b (under attempted (try_0 r)) lawful_block (λ g b post m n. m) body

pub catch_halts : {r q : Tokens} {b : Block} (h : Halt) → Reads block_form r b q → Halts catch_word q h → Halts stmt_form (attempt r) h
catch_halts {r} {q} {b} h body stop =
    halts_first catch_word (λ _. named_block_form) (λ c. roll-Stmt (attempted (b, c))) h (try_1 body) (λ g b post m n. m)
    (λ g. named_block_complete) stop

-- after `catch`
try_2 : {r q p : Tokens} {b : Block} → Reads block_form r b q → Reads catch_word q tt p →
    At stmt_form (attempt r) named_block_form p (λ c. roll-Stmt (attempted (b, (tt, c))))
try_2 {r} {q} {p} {b} body catch =
    step catch_word (λ _. named_block_form) (λ c. roll-Stmt (attempted (b, c))) tt (try_1 body) (lawful_tok (Word word.Catch)) (λ g b post m n. m) catch

pub catch_name_halts : {r q p : Tokens} {b : Block} (h : Halt) → Reads block_form r b q → Reads catch_word q tt p →
    Halts name_form p h → Halts stmt_form (attempt r) h
catch_name_halts {r} {q} {p} {b} h body catch stop =
    halts_first name_form (λ _. block_form) (λ c. roll-Stmt (attempted (b, (tt, c)))) h (try_2 body catch) (λ g b post m n. m)
    (λ g. block_complete) stop

-- after the name
try_3 : {r q p o : Tokens} {b : Block} {name : List ℕ} → Reads block_form r b q → Reads catch_word q tt p → Reads name_form p name o →
    At stmt_form (attempt r) block_form o (λ c. roll-Stmt (attempted (b, (tt, (name, c)))))
try_3 {r} {q} {p} {o} {b} {name} body catch named =
    step name_form (λ _. block_form) (λ c. roll-Stmt (attempted (b, (tt, c)))) name (try_2 body catch) lawful_name (λ g b post m n. m) named

pub caught_halts : {r q p o : Tokens} {b : Block} {name : List ℕ} (h : Halt) → Reads block_form r b q → Reads catch_word q tt p →
    Reads name_form p name o → Halts block_form o h → Halts stmt_form (attempt r) h
caught_halts {r} {q} {p} {o} {b} {name} h body catch named stop =
    halts_last block_form (λ c. roll-Stmt (attempted (b, (tt, (name, c))))) h (try_3 body catch named) stop

pub try_read : {r q p o rest : Tokens} {b c : Block} {name : List ℕ} → Reads block_form r b q → Reads catch_word q tt p →
    Reads name_form p name o → Reads block_form o c rest → Reads stmt_form (attempt r) (stmt.Try b name c) rest
try_read {r} {q} {p} {o} {rest} {b} {c} {name} body catch named caught =
    by_name (stmt.rolls-Try b name c)
    (read_rest stmt_form block_form (attempt r) o rest (λ c. roll-Stmt (attempted (b, (tt, (name, c))))) c (try_3 body catch named) caught)
