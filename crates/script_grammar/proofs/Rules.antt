-- Which form stands where the reading of an expression is: expressions and heads.
use Rattle.std.proofs.Common.{◌≡◌, ◌⊎◌, inl, inr, true, false, List, [], ◌∷◌, ◌++◌, map, refl, sym, ap, ◌∙◌, append_assoc}
use Rattle.std.proofs.lemmas.Bool.{and_from}
use Rattle.dyn_value.specs.declared.operator.BinOp.{BinOp}
use Rattle.dyn_value.specs.declared.operator.BinOp.TheVariants as op
use Rattle.dyn_value.specs.declared.operator.UnOp.{UnOp}
use Rattle.dyn_value.specs.declared.operator.UnOp.TheVariants as unary
use Rattle.dyn_value.specs.declared.value.Kind.{Kind}
use Rattle.dyn_value.specs.declared.value.Kind.TheVariants as kind
use Rattle.script_tokens.specs.declared.token.Keyword.TheVariants as word
use Rattle.script_tokens.specs.declared.token.Symbol.TheVariants as mark
use Rattle.script_tokens.specs.declared.token.Token.TheVariants.{Mark, Word}
use Rattle.script_grammar.specs.declared.tree.Expr.{Expr}
use Rattle.script_grammar.specs.declared.tree.Head.{Head}
use Rattle.script_grammar.specs.declared.tree.Head.TheVariants as head
use Rattle.script_grammar.specs.Forms.{Tokens, Form, GoesOnAs, tok, seq}
use Rattle.script_grammar.specs.ExpressionForms.{BeginsNot, NoSuffix, NoUnary, operator_form, head_form, closed_form, suffixes_form, more_args_form, expr_form}
use Rattle.script_grammar.specs.OperatorSymbols.{operator_symbol, unary_symbol, conversion_word}
use Rattle.script_grammar.specs.Spelling.{more_parts, spell_arg, spell_expr, spell_head}
use Rattle.script_grammar.specs.Written.{are_written_args, is_conversion, is_written_unary, is_written_expr, writing_of_arg}
use Rattle.script_grammar.proofs.Ends.{is_start, apart}
use Rattle.script_grammar.proofs.Fronts.{first_is}
use Rattle.script_grammar.proofs.Items.{At, Within, after_first, after_tokens, branch}
use Rattle.script_grammar.proofs.Spellings.{expr-spelling, unary-spelling, binary-spelling, new-spelling, new_of-spelling, convert-spelling}
use Rattle.script_grammar.proofs.Views.{HeadAt, IsUnary, IsBinary, IsNewOf, IsConvert, head_at, expr_begins}
use Rattle.script_grammar.proofs.Writings.{expr_is_written, written_expr, unary-writing, binary-writing, new_is_written, new_of-writing, convert-writing}

abbrev pub open_form : Form
open_form = tok (Mark mark.OpenParenthesis)

abbrev pub close_form : Form
close_form = tok (Mark mark.CloseParenthesis)

-- What may follow an expression.

operator_is_no_start : (o : BinOp) → is_start (operator_symbol o) ≡ false
operator_is_no_start op.Add = refl
operator_is_no_start op.Subtract = refl
operator_is_no_start op.Multiply = refl
operator_is_no_start op.Divide = refl
operator_is_no_start op.Modulo = refl
operator_is_no_start op.Equal = refl
operator_is_no_start op.NotEqual = refl
operator_is_no_start op.LessThan = refl
operator_is_no_start op.LessThanOrEqual = refl
operator_is_no_start op.GreaterThan = refl
operator_is_no_start op.GreaterThanOrEqual = refl
operator_is_no_start op.And = refl
operator_is_no_start op.Or = refl

pub operator_apart : (o : BinOp) (post : Tokens) → NoSuffix (Mark (operator_symbol o) ∷ post)
operator_apart o post = apart (operator_symbol o) (operator_is_no_start o) post

pub close_apart : (post : Tokens) → NoSuffix (Mark mark.CloseParenthesis ∷ post)
close_apart post = apart mark.CloseParenthesis refl post

pub bracket_apart : (post : Tokens) → NoSuffix (Mark mark.CloseBracket ∷ post)
bracket_apart post = apart mark.CloseBracket refl post

pub comma_apart : (post : Tokens) → NoSuffix (Mark mark.Comma ∷ post)
comma_apart post = apart mark.Comma refl post

pub colon_apart : (post : Tokens) → NoSuffix (Mark mark.Colon ∷ post)
colon_apart post = apart mark.Colon refl post

-- further arguments begin no suffix
pub more_apart : (ps : List Tokens) (post : Tokens) → NoSuffix (more_parts ps ++ post)
more_apart [] post = close_apart post
more_apart (p ∷ ps) post = comma_apart ((p ++ more_parts ps) ++ post)

-- Expressions.

-- an expression is a head with its suffixes
abbrev pub headed_form : Form
headed_form = seq head_form (λ _. suffixes_form false)

abbrev pub headed : headed_form.Tree → Expr
headed p = record { head = p.0; suffixes = p.1 }

pub expr_0 : (r : Tokens) → At expr_form r headed_form r headed
expr_0 r = branch expr_form headed_form r headed
    (λ b post m. expr-spelling b.0 b.1)
    (λ b post m. (expr_is_written b.0 b.1 m.0 m.1.0, m.1.1))
    (λ us go a post m e.
    let w = written_expr a.head a.suffixes m.0 in
    ((a.head, a.suffixes), (refl, (w.0, (w.1, m.1)))))

-- an expression and the closing parenthesis
abbrev pub before_close_form : Form
before_close_form = seq expr_form (λ _. close_form)

pub closed_0 : (r : Tokens) → At closed_form r before_close_form r (λ p. p.0)
closed_0 r = branch closed_form before_close_form r (λ p. p.0)
    (λ b post m. refl)
    (λ b post m. m.0.0)
    (λ us go a post m e. ((a, tt), (refl, ((m, close_apart post), tt))))

-- Operations.

-- no head begins with an operator
pub no_unary_head : (o : UnOp) (h : Head) → HeadAt (Mark (unary_symbol o)) h → ⊥
no_unary_head unary.Negate h at = at
no_unary_head unary.Not h at = at
no_unary_head unary.IsTrue h at = at

same_unary : (a b : UnOp) → is_written_unary a ≡ true → is_written_unary b ≡ true → unary_symbol a ≡ unary_symbol b → a ≡ b
same_unary unary.Negate unary.Negate v w e = refl
same_unary unary.Negate unary.Not v w e = absurd (cc)
same_unary unary.Not unary.Negate v w e = absurd (cc)
same_unary unary.Not unary.Not v w e = refl
same_unary unary.IsTrue b v w e = absurd (cc)
same_unary a unary.IsTrue v w e = absurd (cc)

-- after an opening parenthesis and an operator stand its operand and the closing one
pub unary_0 : (o : UnOp) (r : Tokens) → is_written_unary o ≡ true →
    At head_form (Mark mark.OpenParenthesis ∷ Mark (unary_symbol o) ∷ r) closed_form r (λ e. head.Unary o e)
unary_0 o r w = after_tokens head_form closed_form (Mark mark.OpenParenthesis ∷ Mark (unary_symbol o) ∷ []) r (λ e. head.Unary o e)
    (λ b post m. unary-spelling o b)
    (λ b post m. unary-writing o b ∙ and_from (is_written_unary o) (is_written_expr b) w m)
    (λ us go a post m e. only us a post e (head_at (Mark mark.OpenParenthesis) (Mark (unary_symbol o) ∷ us) post a m e))
  where
    only : (us : Tokens) (a : Head) (post : Tokens) → Mark mark.OpenParenthesis ∷ Mark (unary_symbol o) ∷ us ≡ spell_head a ++ post →
        IsUnary a ⊎ IsBinary a → (b : Expr) × ((a ≡ head.Unary o b) × (is_written_expr b ≡ true))
    only us a post e (inl u) =
        let f : Mark mark.OpenParenthesis ∷ Mark (unary_symbol o) ∷ us ≡ Mark mark.OpenParenthesis ∷ Mark (unary_symbol u.op) ∷ (closed_form.tokens u.value ++ post) =
        e ∙ ap (λ z. spell_head z ++ post) u.is ∙ ap (λ z. z ++ post) (unary-spelling u.op u.value) in
        let symbols : unary_symbol o ≡ unary_symbol u.op = cc in
        (u.value, (u.is ∙ ap (λ z. head.Unary z u.value) (sym (same_unary o u.op w u.operator symbols)), u.written))
    only us a post e (inr b) =
        let more : Tokens = Mark (operator_symbol b.op) ∷ closed_form.tokens b.right in
        let f : Mark mark.OpenParenthesis ∷ Mark (unary_symbol o) ∷ us ≡ Mark mark.OpenParenthesis ∷ (spell_expr b.left ++ (more ++ post)) =
        e ∙ ap (λ z. spell_head z ++ post) b.is ∙ ap (λ z. z ++ post) (binary-spelling b.op b.left b.right)
        ∙ ap (λ z. Mark mark.OpenParenthesis ∷ z) (append_assoc (spell_expr b.left) more post) in
        let g : Mark (unary_symbol o) ∷ us ≡ spell_expr b.left ++ (more ++ post) = cc in
        absurd (no_unary_head o b.left.head (expr_begins (Mark (unary_symbol o)) us (more ++ post) b.left b.left_written g))

abbrev pub operation_form : Form
operation_form = seq operator_form (λ _. closed_form)

-- what stands between the parentheses, and the closing one
abbrev pub binary_form : Form
binary_form = seq expr_form (λ _. operation_form)

abbrev pub binary_of : binary_form.Tree → Head
binary_of p = head.Binary p.1.0 p.0 p.1.1

-- after an opening parenthesis and no operator stand an operation and the closing one
pub binary_0 : (r : Tokens) → NoUnary r → At head_form (Mark mark.OpenParenthesis ∷ r) binary_form r binary_of
binary_0 r none = after_tokens head_form binary_form (Mark mark.OpenParenthesis ∷ []) r binary_of
    (λ b post m. binary-spelling b.1.0 b.0 b.1.1)
    (λ b post m. binary-writing b.1.0 b.0 b.1.1 ∙ and_from (is_written_expr b.0) (is_written_expr b.1.1) m.0.0 m.1.1)
    (λ us go a post m e. only us go a post e (head_at (Mark mark.OpenParenthesis) us post a m e))
  where
    only : (us : Tokens) → GoesOnAs r us → (a : Head) (post : Tokens) → Mark mark.OpenParenthesis ∷ us ≡ spell_head a ++ post →
        IsUnary a ⊎ IsBinary a → (b : binary_form.Tree) × ((a ≡ binary_of b) × binary_form.May b post)
    only us go a post e (inl u) =
        let f : Mark mark.OpenParenthesis ∷ us ≡ Mark mark.OpenParenthesis ∷ Mark (unary_symbol u.op) ∷ (closed_form.tokens u.value ++ post) =
        e ∙ ap (λ z. spell_head z ++ post) u.is ∙ ap (λ z. z ++ post) (unary-spelling u.op u.value) in
        let g : us ≡ Mark (unary_symbol u.op) ∷ (closed_form.tokens u.value ++ post) = cc in
        let begins = first_is r us (closed_form.tokens u.value ++ post) (Mark (unary_symbol u.op)) go g in
        absurd (none u.op u.operator begins.0 begins.1)
    only us go a post e (inr b) =
        ((b.left, (b.op, b.right)), (b.is, ((b.left_written, operator_apart b.op (closed_form.tokens b.right ++ post)), (tt, b.right_written))))

-- Conversions.

convert_is : (to : Kind) (h : Head) → is_conversion to ≡ true → HeadAt (Word (conversion_word to)) h → IsConvert to h
convert_is kind.Int h k at = at
convert_is kind.Text h k at = at
convert_is kind.Bool h k at = at
convert_is kind.Nil h k at = absurd (cc)
convert_is kind.Fun h k at = absurd (cc)
convert_is kind.Obj h k at = absurd (cc)

-- an expression in parentheses
abbrev pub enclosed_form : Form
enclosed_form = seq open_form (λ _. closed_form)

pub convert_0 : (to : Kind) (r : Tokens) → is_conversion to ≡ true →
    At head_form (Word (conversion_word to) ∷ r) enclosed_form r (λ p. head.Convert to p.1)
convert_0 to r w = after_first head_form enclosed_form (Word (conversion_word to)) r (λ p. head.Convert to p.1)
    (λ b post m. convert-spelling to b.1)
    (λ b post m. convert-writing to b.1 ∙ and_from (is_conversion to) (is_written_expr b.1) w m.1)
    (λ us a post m e.
    let c = convert_is to a w (head_at (Word (conversion_word to)) us post a m e) in
    ((tt, c.value), (c.is, (tt, c.written))))

-- New objects.

-- after `new` stands an opening parenthesis
pub new_within : Within head_form open_form (Word word.New ∷ [])
new_within = record {
  completes = λ g m. record {
    tree = head.New;
    more = Mark mark.CloseParenthesis ∷ [];
    begins = new-spelling;
    may = new_is_written;
    plain = (tt, tt);
  };
  only = λ us a post m e. only us a post e (head_at (Word word.New) us post a m e);
}
  where
    only : (us : Tokens) (a : Head) (post : Tokens) → Word word.New ∷ us ≡ spell_head a ++ post →
        (a ≡ head.New) ⊎ IsNewOf a → (g : Unit {0}) × ((after : Tokens) × (Unit {0} × (us ≡ Mark mark.OpenParenthesis ∷ after)))
    only us a post e (inl is) =
        let f : Word word.New ∷ us ≡ Word word.New ∷ Mark mark.OpenParenthesis ∷ Mark mark.CloseParenthesis ∷ post =
        e ∙ ap (λ z. spell_head z ++ post) is ∙ ap (λ z. z ++ post) new-spelling in
        (tt, (Mark mark.CloseParenthesis ∷ post, (tt, cc)))
    only us a post e (inr n) =
        let more : Tokens = spell_expr n.target ++ (more_args_form false).tokens n.args in
        let f : Word word.New ∷ us ≡ Word word.New ∷ Mark mark.OpenParenthesis ∷ (more ++ post) =
        e ∙ ap (λ z. spell_head z ++ post) n.is ∙ ap (λ z. z ++ post) (new_of-spelling n.target n.args) in
        (tt, (more ++ post, (tt, cc)))

-- a target, its arguments, and the closing parenthesis
abbrev pub target_form : Form
target_form = seq expr_form (λ _. more_args_form false)

abbrev pub new_of : target_form.Tree → Head
new_of p = head.NewOf p.0 p.1

-- after `new (` and no closing parenthesis stands a target
pub new_of_0 : (r : Tokens) → BeginsNot (Mark mark.CloseParenthesis) r →
    At head_form (Word word.New ∷ Mark mark.OpenParenthesis ∷ r) target_form r new_of
new_of_0 r none = after_tokens head_form target_form (Word word.New ∷ Mark mark.OpenParenthesis ∷ []) r new_of
    (λ b post m. new_of-spelling b.0 b.1)
    (λ b post m. new_of-writing b.0 b.1 ∙ and_from (is_written_expr b.0) (are_written_args false (map writing_of_arg b.1)) m.0.0 m.1)
    (λ us go a post m e. only us go a post e (head_at (Word word.New) (Mark mark.OpenParenthesis ∷ us) post a m e))
  where
    only : (us : Tokens) → GoesOnAs r us → (a : Head) (post : Tokens) → Word word.New ∷ Mark mark.OpenParenthesis ∷ us ≡ spell_head a ++ post →
        (a ≡ head.New) ⊎ IsNewOf a → (b : target_form.Tree) × ((a ≡ new_of b) × target_form.May b post)
    only us go a post e (inl is) =
        let f : Word word.New ∷ Mark mark.OpenParenthesis ∷ us ≡ Word word.New ∷ Mark mark.OpenParenthesis ∷ Mark mark.CloseParenthesis ∷ post =
        e ∙ ap (λ z. spell_head z ++ post) is ∙ ap (λ z. z ++ post) new-spelling in
        let begins = first_is r us post (Mark mark.CloseParenthesis) go cc in
        absurd (none begins.0 begins.1)
    only us go a post e (inr n) =
        ((n.target, n.args), (n.is, ((n.written, more_apart (map spell_arg n.args) post), n.args_written)))
