-- Where the reading of an expression or a head stands after each of its parts.
use Rattle.std.proofs.Common.{◌≡◌, ℕ, ℤ, Bool, true, false, List, [], ◌∷◌, ◌++◌, map, refl, sym, ap, ◌∙◌, subst}
use Rattle.dyn_value.specs.declared.operator.BinOp.{BinOp}
use Rattle.dyn_value.specs.declared.operator.BinOp.TheVariants as op
use Rattle.dyn_value.specs.declared.operator.UnOp.{UnOp}
use Rattle.dyn_value.specs.declared.value.Kind.{Kind}
use Rattle.script_grammar.specs.declared.halt.Halt.{Halt}
use Rattle.script_tokens.specs.declared.token.Keyword.TheVariants as word
use Rattle.script_tokens.specs.declared.token.Symbol.TheVariants as mark
use Rattle.script_tokens.specs.declared.token.Token.{Token}
use Rattle.script_tokens.specs.declared.token.Token.TheVariants.{Int, Mark, Name, Text, Word}
use Rattle.script_grammar.specs.declared.tree.Arg.{Arg}
use Rattle.script_grammar.specs.declared.tree.Expr.{Expr}
use Rattle.script_grammar.specs.declared.tree.Head.{Head}
use Rattle.script_grammar.specs.declared.tree.Head.TheVariants as head
use Rattle.script_grammar.specs.declared.tree.Suffix.{Suffix}
use Rattle.script_grammar.specs.Forms.{Tokens, AllPlain, GoesOnAs, Reads, Stops}
use Rattle.script_grammar.specs.ExpressionForms.{BeginsNot, NoUnary, operator_form, head_form, closed_form, suffixes_form, more_args_form, expr_form}
use Rattle.script_grammar.specs.Halts.{Halts}
use Rattle.script_grammar.specs.OperatorSymbols.{unary_symbol, conversion_word}
use Rattle.script_grammar.specs.Spelling.{spell_arg, spell_expr, spell_head}
use Rattle.script_grammar.specs.Written.{is_conversion, is_written_head, is_written_unary}
use Rattle.script_grammar.proofs.Ends.{end_apart}
use Rattle.script_grammar.proofs.Exits.{halts_first, halts_last, halts_within}
use Rattle.script_grammar.proofs.ExpressionLaws.{complete_expr, lawful_head, lawful_expr}
use Rattle.script_grammar.proofs.Fronts.{stops_here, first_is}
use Rattle.script_grammar.proofs.Items.{At, Complete, Completes, Follows, plain_append, step, read_rest}
use Rattle.script_grammar.proofs.Rules.{open_form, close_form, close_apart, operator_apart, more_apart, headed, expr_0, closed_0, unary_0, operation_form, binary_of, binary_0, convert_0, new_within, target_form, new_of, new_of_0}
use Rattle.script_grammar.proofs.Spellings.{nil-spelling, new-spelling}
use Rattle.script_grammar.proofs.TokenLaws.{lawful_operator}
use Rattle.script_grammar.proofs.Unique.{lawful_tok}
use Rattle.script_grammar.proofs.Views.{HeadAt, view}
use Rattle.script_grammar.proofs.Writings.{nil_is_written, new_is_written}

-- Expressions.

-- a row of suffixes may end
pub suffixes_complete : (member : Bool) → Complete (suffixes_form member)
suffixes_complete member = record { tree = []; may = (refl, end_apart); plain = tt }

pub head_halts : (r : Tokens) (h : Halt) → Halts head_form r h → Halts expr_form r h
head_halts r h stop =
    halts_first head_form (λ _. suffixes_form false) headed h (expr_0 r) (λ g b post m n. m) (λ g. suffixes_complete false) stop

-- after the head
expr_1 : {r q : Tokens} {h : Head} → Reads head_form r h q → At expr_form r (suffixes_form false) q (λ b. headed (h, b))
expr_1 {r} {q} {h} reads = step head_form (λ _. suffixes_form false) headed h (expr_0 r) lawful_head (λ g b post m n. m) reads

pub suffixes_of_halts : {r q : Tokens} {first : Head} (h : Halt) →
    Reads head_form r first q → Halts (suffixes_form false) q h → Halts expr_form r h
suffixes_of_halts {r} {q} {first} h reads stop = halts_last (suffixes_form false) (λ b. headed (first, b)) h (expr_1 reads) stop

pub expr_read : {r q rest : Tokens} {first : Head} {ss : List Suffix} →
    Reads head_form r first q → Reads (suffixes_form false) q ss rest → Reads expr_form r (headed (first, ss)) rest
expr_read {r} {q} {rest} {first} {ss} reads suffixes =
    read_rest expr_form (suffixes_form false) r q rest (λ b. headed (first, b)) ss (expr_1 reads) suffixes

-- Expressions before a closing parenthesis.

before_close : Follows expr_form (λ _. close_form)
before_close e b post m n = (m.0, close_apart post)

close_completes : Completes expr_form (λ _. close_form)
close_completes g = record { tree = tt; may = tt; plain = (tt, tt) }

pub value_halts : (r : Tokens) (h : Halt) → Halts expr_form r h → Halts closed_form r h
value_halts r h stop = halts_first expr_form (λ _. close_form) (λ p. p.0) h (closed_0 r) before_close close_completes stop

closed_1 : {r q : Tokens} {e : Expr} → Reads expr_form r e q → At closed_form r close_form q (λ _. e)
closed_1 {r} {q} {e} reads = step expr_form (λ _. close_form) (λ p. p.0) e (closed_0 r) lawful_expr before_close reads

pub close_halts : {r q : Tokens} {e : Expr} (h : Halt) → Reads expr_form r e q → Halts close_form q h → Halts closed_form r h
close_halts {r} {q} {e} h reads stop = halts_last close_form (λ _. e) h (closed_1 reads) stop

pub closed_read : {r q rest : Tokens} {e value : Expr} → Reads expr_form r e q → Reads close_form q tt rest → value ≡ e →
    Reads closed_form r value rest
closed_read {r} {q} {rest} {e} {value} reads close is =
    subst (λ z. Reads closed_form r z rest) (sym is) (read_rest closed_form close_form r q rest (λ _. e) tt (closed_1 reads) close)

closed_complete : Complete closed_form
closed_complete = record {
  tree = complete_expr.tree;
  may = complete_expr.may.0;
  plain = plain_append (spell_expr complete_expr.tree) (Mark mark.CloseParenthesis ∷ []) complete_expr.plain (tt, tt);
}

-- Heads.

-- the tokens begin no head
pub record NoHead (r : Tokens) : Type 0 where
  pub int : (n : ℤ) → BeginsNot (Int n) r
  pub text : (t : List ℕ) → BeginsNot (Text t) r
  pub name : (n : List ℕ) → BeginsNot (Name n) r
  pub nil : BeginsNot (Word word.Nil) r
  pub truth : BeginsNot (Word word.True) r
  pub falsehood : BeginsNot (Word word.False) r
  pub new : BeginsNot (Word word.New) r
  pub to_int : BeginsNot (Word word.Int) r
  pub to_text : BeginsNot (Word word.Text) r
  pub to_bool : BeginsNot (Word word.Bool) r
  pub open_parenthesis : BeginsNot (Mark mark.OpenParenthesis) r

pub no_head : (r : Tokens) → NoHead r → Stops head_form r r
no_head r refuses =
    stops_here head_form r head.Nil nil_is_written (subst AllPlain (sym nil-spelling) (tt, tt)) none
  where
    refused : (t : Token) (rest : Tokens) (h : Head) → r ≡ t ∷ rest → HeadAt t h → ⊥
    refused (Int n) rest h e at = refuses.int n rest e
    refused (Text t) rest h e at = refuses.text t rest e
    refused (Name n) rest h e at = refuses.name n rest e
    refused (Word word.Nil) rest h e at = refuses.nil rest e
    refused (Word word.True) rest h e at = refuses.truth rest e
    refused (Word word.False) rest h e at = refuses.falsehood rest e
    refused (Word word.New) rest h e at = refuses.new rest e
    refused (Word word.Int) rest h e at = refuses.to_int rest e
    refused (Word word.Text) rest h e at = refuses.to_text rest e
    refused (Word word.Bool) rest h e at = refuses.to_bool rest e
    refused (Mark mark.OpenParenthesis) rest h e at = refuses.open_parenthesis rest e
    refused _ rest h e at = absurd at

    none : (us : Tokens) → GoesOnAs r us → (a : Head) (post : Tokens) → is_written_head a ≡ true → us ≡ spell_head a ++ post → ⊥
    none us go a post m e =
        let v = view a m in
        let f = first_is r us (v.more ++ post) v.first go (e ∙ ap (λ z. z ++ post) v.tokens) in
        refused v.first f.0 a f.1 v.head

-- Operations.

-- these tokens after an opening parenthesis
abbrev pub enclosed : Tokens → Tokens
enclosed r = Mark mark.OpenParenthesis ∷ r

unary_1 : {r rest : Tokens} (o : UnOp) → (is_written_unary o ≡ true) × (r ≡ Mark (unary_symbol o) ∷ rest) →
    At head_form (enclosed r) closed_form rest (λ e. head.Unary o e)
unary_1 {r} {rest} o is = subst (λ z. At head_form (enclosed z) closed_form rest (λ e. head.Unary o e)) (sym is.1) (unary_0 o rest is.0)

pub operand_halts : {r rest : Tokens} (o : UnOp) (h : Halt) → (is_written_unary o ≡ true) × (r ≡ Mark (unary_symbol o) ∷ rest) →
    Halts closed_form rest h → Halts head_form (enclosed r) h
operand_halts {r} {rest} o h is stop = halts_last closed_form (λ e. head.Unary o e) h (unary_1 o is) stop

pub unary_read : {r rest q : Tokens} {e : Expr} (o : UnOp) → (is_written_unary o ≡ true) × (r ≡ Mark (unary_symbol o) ∷ rest) →
    Reads closed_form rest e q → Reads head_form (enclosed r) (head.Unary o e) q
unary_read {r} {rest} {q} {e} o is reads = read_rest head_form closed_form (enclosed r) rest q (λ e. head.Unary o e) e (unary_1 o is) reads

before_operator : Follows expr_form (λ _. operation_form)
before_operator l b post m n = (m.0, operator_apart b.0 (closed_form.tokens b.1 ++ post))

operation_completes : Completes expr_form (λ _. operation_form)
operation_completes g = record { tree = (op.Add, closed_complete.tree); may = (tt, closed_complete.may); plain = (tt, closed_complete.plain) }

pub left_halts : (r : Tokens) (h : Halt) → NoUnary r → Halts expr_form r h → Halts head_form (enclosed r) h
left_halts r h none stop = halts_first expr_form (λ _. operation_form) binary_of h (binary_0 r none) before_operator operation_completes stop

-- after the left operand
binary_1 : {r q : Tokens} {l : Expr} → NoUnary r → Reads expr_form r l q → At head_form (enclosed r) operation_form q (λ b. binary_of (l, b))
binary_1 {r} {q} {l} none left = step expr_form (λ _. operation_form) binary_of l (binary_0 r none) lawful_expr before_operator left

pub operator_halts : {r q : Tokens} {l : Expr} (h : Halt) → NoUnary r → Reads expr_form r l q → Halts operator_form q h → Halts head_form (enclosed r) h
operator_halts {r} {q} {l} h none left stop =
    halts_first operator_form (λ _. closed_form) (λ b. binary_of (l, b)) h (binary_1 none left) (λ g b post m n. m) (λ g. closed_complete) stop

-- after the operator
binary_2 : {r q p : Tokens} {l : Expr} {o : BinOp} → NoUnary r → Reads expr_form r l q → Reads operator_form q o p →
    At head_form (enclosed r) closed_form p (λ b. binary_of (l, (o, b)))
binary_2 {r} {q} {p} {l} {o} none left operator =
    step operator_form (λ _. closed_form) (λ b. binary_of (l, b)) o (binary_1 none left) lawful_operator (λ g b post m n. m) operator

pub right_halts : {r q p : Tokens} {l : Expr} {o : BinOp} (h : Halt) → NoUnary r → Reads expr_form r l q → Reads operator_form q o p →
    Halts closed_form p h → Halts head_form (enclosed r) h
right_halts {r} {q} {p} {l} {o} h none left operator stop =
    halts_last closed_form (λ b. binary_of (l, (o, b))) h (binary_2 none left operator) stop

-- the operation whose left operand is equal to what was read
pub binary_read : {r q p s : Tokens} {l left : Expr} {o : BinOp} {e : Expr} → NoUnary r → Reads expr_form r l q → Reads operator_form q o p →
    Reads closed_form p e s → left ≡ l → Reads head_form (enclosed r) (head.Binary o left e) s
binary_read {r} {q} {p} {s} {l} {left} {o} {e} none first operator right is =
    subst (λ z. Reads head_form (enclosed r) (head.Binary o z e) s) (sym is)
    (read_rest head_form closed_form (enclosed r) p s (λ b. binary_of (l, (o, b))) e (binary_2 none first operator) right)

-- Conversions.

-- these tokens after the word of a conversion
abbrev pub converting : Kind → Tokens → Tokens
converting to r = Word (conversion_word to) ∷ r

pub convert_open_halts : (to : Kind) (r : Tokens) (h : Halt) → is_conversion to ≡ true → Halts open_form r h → Halts head_form (converting to r) h
convert_open_halts to r h w stop =
    halts_first open_form (λ _. closed_form) (λ p. head.Convert to p.1) h (convert_0 to r w) (λ g b post m n. m) (λ g. closed_complete) stop

convert_1 : {r q : Tokens} (to : Kind) → is_conversion to ≡ true → Reads open_form r tt q →
    At head_form (converting to r) closed_form q (λ e. head.Convert to e)
convert_1 {r} {q} to w opened =
    step open_form (λ _. closed_form) (λ p. head.Convert to p.1) tt (convert_0 to r w) (lawful_tok (Mark mark.OpenParenthesis)) (λ g b post m n. m) opened

pub convert_value_halts : {r q : Tokens} (to : Kind) (h : Halt) → is_conversion to ≡ true → Reads open_form r tt q → Halts closed_form q h →
    Halts head_form (converting to r) h
convert_value_halts {r} {q} to h w opened stop = halts_last closed_form (λ e. head.Convert to e) h (convert_1 to w opened) stop

pub convert_read : {r q s : Tokens} {e : Expr} (to : Kind) → is_conversion to ≡ true → Reads open_form r tt q → Reads closed_form q e s →
    Reads head_form (converting to r) (head.Convert to e) s
convert_read {r} {q} {s} {e} to w opened reads =
    read_rest head_form closed_form (converting to r) q s (λ e. head.Convert to e) e (convert_1 to w opened) reads

-- New objects.

-- these tokens after `new`
abbrev pub newly : Tokens → Tokens
newly r = Word word.New ∷ r

pub new_open_halts : (r : Tokens) (h : Halt) → Halts open_form r h → Halts head_form (newly r) h
new_open_halts r h stop = halts_within r open_form (Word word.New ∷ []) h new_within stop

pub new_read : {r q s : Tokens} → Reads open_form r tt q → q ≡ Mark mark.CloseParenthesis ∷ s → Reads head_form (newly r) head.New s
new_read {r} {q} {s} opened is = record {
  split = ap (λ z. Word word.New ∷ z) (opened.split ∙ ap (λ z. Mark mark.OpenParenthesis ∷ z) is) ∙ ap (λ z. z ++ s) (sym new-spelling);
  may = new_is_written;
}

pub before_more : Follows expr_form (λ _. more_args_form false)
before_more e b post m n = (m.0, more_apart (map spell_arg b) post)

more_completes : Completes expr_form (λ _. more_args_form false)
more_completes g = record { tree = []; may = refl; plain = (tt, tt) }

new_1 : {r q : Tokens} → Reads open_form r tt q → BeginsNot (Mark mark.CloseParenthesis) q → At head_form (newly r) target_form q new_of
new_1 {r} {q} opened none = subst (λ z. At head_form (newly z) target_form q new_of) (sym opened.split) (new_of_0 q none)

pub target_halts : {r q : Tokens} (h : Halt) → Reads open_form r tt q → BeginsNot (Mark mark.CloseParenthesis) q → Halts expr_form q h →
    Halts head_form (newly r) h
target_halts {r} {q} h opened none stop = halts_first expr_form (λ _. more_args_form false) new_of h (new_1 opened none) before_more more_completes stop

new_2 : {r q p : Tokens} {e : Expr} → Reads open_form r tt q → BeginsNot (Mark mark.CloseParenthesis) q → Reads expr_form q e p →
    At head_form (newly r) (more_args_form false) p (λ args. head.NewOf e args)
new_2 {r} {q} {p} {e} opened none target = step expr_form (λ _. more_args_form false) new_of e (new_1 opened none) lawful_expr before_more target

pub new_args_halts : {r q p : Tokens} {e : Expr} (h : Halt) → Reads open_form r tt q → BeginsNot (Mark mark.CloseParenthesis) q → Reads expr_form q e p →
    Halts (more_args_form false) p h → Halts head_form (newly r) h
new_args_halts {r} {q} {p} {e} h opened none target stop = halts_last (more_args_form false) (λ args. head.NewOf e args) h (new_2 opened none target) stop

-- the object whose target is equal to what was read
pub new_of_read : {r q p s : Tokens} {e target : Expr} {args : List Arg} → Reads open_form r tt q → BeginsNot (Mark mark.CloseParenthesis) q →
    Reads expr_form q e p → Reads (more_args_form false) p args s → target ≡ e → Reads head_form (newly r) (head.NewOf target args) s
new_of_read {r} {q} {p} {s} {e} {target} {args} opened none first reads is =
    subst (λ z. Reads head_form (newly r) (head.NewOf z args) s) (sym is)
    (read_rest head_form (more_args_form false) (newly r) p s (λ args. head.NewOf e args) args (new_2 opened none first) reads)
