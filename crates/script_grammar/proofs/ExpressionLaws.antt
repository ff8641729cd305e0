-- Two expressions have two spellings, and none begins another's.
use Rattle.std.proofs.Common.{◌≡◌, ◌⊎◌, inl, inr, ℕ, ℤ, true, false, Bool, List, [], ◌∷◌, ◌++◌, map, refl, sym, ap, ◌∙◌, subst, append_assoc}
use Rattle.std.proofs.lemmas.Bool.{and_parts}
use Rattle.dyn_value.specs.declared.operator.BinOp.{BinOp}
use Rattle.dyn_value.specs.declared.operator.UnOp.{UnOp}
use Rattle.dyn_value.specs.declared.value.Kind.{Kind}
use Rattle.script_tokens.specs.declared.token.Keyword.TheVariants as word
use Rattle.script_tokens.specs.declared.token.Symbol.TheVariants as mark
use Rattle.script_tokens.specs.declared.token.Token.{Token}
use Rattle.script_tokens.specs.declared.token.Token.TheVariants.{Int, Mark, Name, Text, Word}
use Rattle.script_grammar.specs.declared.parser.tokens.SuffixStart.{SuffixStart}
use Rattle.script_grammar.specs.declared.tree.Arg.{Arg}
use Rattle.script_grammar.specs.declared.tree.Expr.{Expr}
use Rattle.script_grammar.specs.declared.tree.Head.{Head}
use Rattle.script_grammar.specs.declared.tree.Head.TheVariants as head
use Rattle.script_grammar.specs.declared.tree.Suffix.{Suffix}
use Rattle.script_grammar.specs.Forms.{Tokens, AllPlain, GoesOnAs}
use Rattle.script_grammar.specs.ExpressionForms.{BeginsNot, NoUnary, operator_form, head_form, closed_form, suffix_form, suffixes_form, arg_form, more_args_form, expr_form, name_expr}
use Rattle.script_grammar.specs.OperatorSymbols.{operator_symbol, unary_symbol, conversion_word}
use Rattle.script_grammar.specs.Spelling.{spell_arg, spell_expr, spell_head}
use Rattle.script_grammar.specs.Written.{are_written_args, is_conversion, is_written_unary, is_written_expr, writing_of_arg}
use Rattle.script_grammar.proofs.Ends.{end_apart, no_suffix_local}
use Rattle.script_grammar.proofs.Fronts.{first_is}
use Rattle.script_grammar.proofs.Items.{Lawful, Complete}
use Rattle.script_grammar.proofs.RowLaws.{UniqueSuffix, UniqueArg, arg_unique, further_args_unique, member_unique, member_call_unique, index_unique, call_unique, suffixes_unique}
use Rattle.script_grammar.proofs.Rules.{open_form, close_form, close_apart, operator_apart, more_apart, headed_form, headed, expr_0, before_close_form, closed_0, no_unary_head, unary_0, operation_form, binary_form, binary_of, binary_0, enclosed_form, convert_0, target_form, new_of, new_of_0}
use Rattle.script_grammar.proofs.Spellings.{expr-spelling, int-spelling, text-spelling, nil-spelling, true-spelling, false-spelling, name-spelling, new-spelling, new_of-spelling}
use Rattle.script_grammar.proofs.TokenLaws.{operator_unique}
use Rattle.script_grammar.proofs.Trees.{Cases, Each, by_heads, by_suffixes, by_args, by_exprs}
use Rattle.script_grammar.proofs.Unique.{UniqueAt, tok_unique, seq_unique, unique_by}
use Rattle.script_grammar.proofs.Views.{HeadAt, IsNewOf, head_at, expr_begins}
use Rattle.script_grammar.proofs.Writings.{expr_is_written, written_expr, nil_is_written, unary-writing, binary-writing, new_of-writing, convert-writing}

-- Heads.

-- a head of one token
token_unique : (h : Head) (t : Token) → spell_head h ≡ t ∷ [] → ((b : Head) → HeadAt t b → b ≡ h) → UniqueAt head_form h
token_unique h t spelled same b x y m w e =
    let begins : t ∷ x ≡ spell_head b ++ y = ap (λ z. z ++ x) (sym spelled) ∙ e in
    let is = same b (head_at t x y b w begins) in
    let rest : t ∷ x ≡ t ∷ y = begins ∙ ap (λ z. spell_head z ++ y) is ∙ ap (λ z. z ++ y) spelled in
    (sym is, cc)

int_unique : (n : ℤ) → UniqueAt head_form (head.Int n)
int_unique n = token_unique (head.Int n) (Int n) (int-spelling n) (λ b e. e)

text_unique : (t : List ℕ) → UniqueAt head_form (head.Text t)
text_unique t = token_unique (head.Text t) (Text t) (text-spelling t) (λ b e. e)

nil_unique : UniqueAt head_form head.Nil
nil_unique = token_unique head.Nil (Word word.Nil) nil-spelling (λ b e. e)

true_unique : UniqueAt head_form head.True
true_unique = token_unique head.True (Word word.True) true-spelling (λ b e. e)

false_unique : UniqueAt head_form head.False
false_unique = token_unique head.False (Word word.False) false-spelling (λ b e. e)

name_unique : (n : List ℕ) → UniqueAt head_form (head.Name n)
name_unique n = token_unique (head.Name n) (Name n) (name-spelling n) (λ b e. e)

-- no expression begins with a closing parenthesis
no_close_begins : (e : Expr) (more post : Tokens) → is_written_expr e ≡ true →
    BeginsNot (Mark mark.CloseParenthesis) ((spell_expr e ++ more) ++ post)
no_close_begins e more post w rest is =
    expr_begins (Mark mark.CloseParenthesis) rest (more ++ post) e w (sym is ∙ append_assoc (spell_expr e) more post)

new_unique : UniqueAt head_form head.New
new_unique b x y m w e =
    let begins : Word word.New ∷ Mark mark.OpenParenthesis ∷ Mark mark.CloseParenthesis ∷ x ≡ spell_head b ++ y = ap (λ z. z ++ x) (sym new-spelling) ∙ e in
    by_kind begins (head_at (Word word.New) (Mark mark.OpenParenthesis ∷ Mark mark.CloseParenthesis ∷ x) y b w begins)
  where
    by_kind : Word word.New ∷ Mark mark.OpenParenthesis ∷ Mark mark.CloseParenthesis ∷ x ≡ spell_head b ++ y →
        (b ≡ head.New) ⊎ IsNewOf b → (head.New ≡ b) × (x ≡ y)
    by_kind begins (inl is) =
        let f : Word word.New ∷ Mark mark.OpenParenthesis ∷ Mark mark.CloseParenthesis ∷ x ≡ Word word.New ∷ Mark mark.OpenParenthesis ∷ Mark mark.CloseParenthesis ∷ y =
        begins ∙ ap (λ z. spell_head z ++ y) is ∙ ap (λ z. z ++ y) new-spelling in
        (sym is, cc)
    by_kind begins (inr n) =
        let more : Tokens = (more_args_form false).tokens n.args in
        let f : Word word.New ∷ Mark mark.OpenParenthesis ∷ Mark mark.CloseParenthesis ∷ x ≡ Word word.New ∷ Mark mark.OpenParenthesis ∷ ((spell_expr n.target ++ more) ++ y) =
        begins ∙ ap (λ z. spell_head z ++ y) n.is ∙ ap (λ z. z ++ y) (new_of-spelling n.target n.args) in
        absurd (no_close_begins n.target more y n.written x cc)

closed_unique : (e : Expr) → UniqueAt expr_form e → UniqueAt closed_form e
closed_unique e u b x y m k is =
    let h : before_close_form.Tree = (e, tt) in
    unique_by closed_form before_close_form (before_close_form.tokens h ++ x) x (λ p. p.0) h (closed_0 (before_close_form.tokens h ++ x))
    ((m, close_apart x), tt) (seq_unique expr_form (λ _. close_form) e tt u (tok_unique (Mark mark.CloseParenthesis))) b y k is

unary_unique : (o : UnOp) (e : Expr) → UniqueAt expr_form e → UniqueAt head_form (head.Unary o e)
unary_unique o e u b x y m k is =
    let w = and_parts (is_written_unary o) (is_written_expr e) (sym (unary-writing o e) ∙ m) in
    unique_by head_form closed_form (Mark mark.OpenParenthesis ∷ Mark (unary_symbol o) ∷ (closed_form.tokens e ++ x)) x (λ e. head.Unary o e) e
    (unary_0 o (closed_form.tokens e ++ x) w.0) w.1 (closed_unique e u) b y k is

binary_unique : (o : BinOp) (l r : Expr) → UniqueAt expr_form l → UniqueAt expr_form r → UniqueAt head_form (head.Binary o l r)
binary_unique o l r left right b x y m k is =
    let w = and_parts (is_written_expr l) (is_written_expr r) (sym (binary-writing o l r) ∙ m) in
    let h : binary_form.Tree = (l, (o, r)) in
    let more : Tokens = Mark (operator_symbol o) ∷ closed_form.tokens r in
    let none : NoUnary (binary_form.tokens h ++ x) = λ op v rest e.
    no_unary_head op l.head (expr_begins (Mark (unary_symbol op)) rest (more ++ x) l w.0 (sym e ∙ append_assoc (spell_expr l) more x)) in
    unique_by head_form binary_form (Mark mark.OpenParenthesis ∷ (binary_form.tokens h ++ x)) x binary_of h
    (binary_0 (binary_form.tokens h ++ x) none) ((w.0, operator_apart o (closed_form.tokens r ++ x)), (tt, w.1))
    (seq_unique expr_form (λ _. operation_form) l (o, r) left (seq_unique operator_form (λ _. closed_form) o r (operator_unique o) (closed_unique r right))) b y k is

new_of_unique : (target : Expr) (args : List Arg) → UniqueAt expr_form target → Each UniqueArg args → UniqueAt head_form (head.NewOf target args)
new_of_unique target args u each b x y m k is =
    let w = and_parts (is_written_expr target) (are_written_args false (map writing_of_arg args)) (sym (new_of-writing target args) ∙ m) in
    let h : target_form.Tree = (target, args) in
    unique_by head_form target_form (Word word.New ∷ Mark mark.OpenParenthesis ∷ (target_form.tokens h ++ x)) x new_of h
    (new_of_0 (target_form.tokens h ++ x) (no_close_begins target ((more_args_form false).tokens args) x w.0))
    ((w.0, more_apart (map spell_arg args) x), w.1)
    (seq_unique expr_form (λ _. more_args_form false) target args u (further_args_unique args each)) b y k is

convert_unique : (to : Kind) (e : Expr) → UniqueAt expr_form e → UniqueAt head_form (head.Convert to e)
convert_unique to e u b x y m k is =
    let w = and_parts (is_conversion to) (is_written_expr e) (sym (convert-writing to e) ∙ m) in
    let h : enclosed_form.Tree = (tt, e) in
    unique_by head_form enclosed_form (Word (conversion_word to) ∷ (enclosed_form.tokens h ++ x)) x (λ p. head.Convert to p.1) h
    (convert_0 to (enclosed_form.tokens h ++ x) w.0) (tt, w.1)
    (seq_unique open_form (λ _. closed_form) tt e (tok_unique (Mark mark.OpenParenthesis)) (closed_unique e u)) b y k is

-- Expressions.

headed_unique : (h : Head) (ss : List Suffix) → UniqueAt head_form h → Each UniqueSuffix ss → UniqueAt expr_form (headed (h, ss))
headed_unique h ss first each b x y m n e =
    let p : headed_form.Tree = (h, ss) in
    let w = written_expr h ss m.0 in
    unique_by expr_form headed_form (headed_form.tokens p ++ x) x headed p (expr_0 (headed_form.tokens p ++ x)) (w.0, (w.1, m.1))
    (seq_unique head_form (λ _. suffixes_form false) h ss first (suffixes_unique ss each false)) b y n e

pub bare_unique : (n : List ℕ) → UniqueAt expr_form (name_expr n)
bare_unique n = headed_unique (head.Name n) [] (name_unique n) tt

cases : Cases (UniqueAt head_form) UniqueSuffix UniqueArg (UniqueAt expr_form)
cases = record {
  int = int_unique;
  text = text_unique;
  nil = nil_unique;
  truth = true_unique;
  falsehood = false_unique;
  name = name_unique;
  unary = unary_unique;
  binary = binary_unique;
  new = new_unique;
  new_of = new_of_unique;
  convert = convert_unique;
  member = member_unique;
  member_call = member_call_unique;
  index = index_unique;
  call = call_unique;
  arg = λ n value u. arg_unique bare_unique n value u;
  expr = headed_unique;
}

pub lawful_head : Lawful head_form
lawful_head = record {
  unique = by_heads (UniqueAt head_form) UniqueSuffix UniqueArg (UniqueAt expr_form) cases;
  local = λ a x y go m. m;
  ends = λ a x m. m;
}

pub lawful_expr : Lawful expr_form
lawful_expr = record {
  unique = by_exprs (UniqueAt head_form) UniqueSuffix UniqueArg (UniqueAt expr_form) cases;
  local = λ a x y go m. (m.0, no_suffix_local x y go m.1);
  ends = λ a x m. (m.0, end_apart);
}

-- what does not begin a row goes on without it
begins_not_local : (t : Token) (x y : Tokens) → GoesOnAs x y → BeginsNot t x → BeginsNot t y
begins_not_local t x y go none rest e = let f = first_is x y rest t go e in none f.0 f.1

pub lawful_suffix : (s : SuffixStart) → Lawful (suffix_form s)
lawful_suffix s = record {
  unique = λ a. by_suffixes (UniqueAt head_form) UniqueSuffix UniqueArg (UniqueAt expr_form) cases a s;
  local = λ a x y go m. (m.0, m.1, λ e. begins_not_local (Mark mark.OpenParenthesis) x y go (m.2 e));
  ends = λ a x m. (m.0, m.1, λ e rest f. cc);
}

pub lawful_arg : (named : Bool) → Lawful (arg_form named)
lawful_arg named = record {
  unique = λ a. by_args (UniqueAt head_form) UniqueSuffix UniqueArg (UniqueAt expr_form) cases a named;
  local = λ a x y go m. (m.0, m.1, no_suffix_local x y go m.2, λ e. begins_not_local (Mark mark.Colon) x y go (m.3 e));
  ends = λ a x m. (m.0, m.1, end_apart, λ e rest f. cc);
}

-- nil completes what was taken
pub complete_expr : Complete expr_form
complete_expr = record {
  tree = record { head = head.Nil; suffixes = [] };
  may = (expr_is_written head.Nil [] nil_is_written refl, end_apart);
  plain = subst AllPlain (sym (expr-spelling head.Nil [] ∙ ap (λ z. z ++ []) nil-spelling)) (tt, tt);
}
