-- What expressions are spelled as, form by form.
use Rattle.std.proofs.Common.{◌≡◌, ℕ, ℤ, false, List, [], ◌∷◌, ◌++◌, Option, sym, ap, ◌∙◌, append_assoc, append-nil}
use Rattle.std.specs.List.{flat_map}
use Rattle.std.proofs.lemmas.List.Folds.{flat_map-map}
use Rattle.std.proofs.lemmas.Grind.{flat_map-append}
use Rattle.dyn_value.specs.declared.operator.BinOp.{BinOp}
use Rattle.dyn_value.specs.declared.operator.UnOp.{UnOp}
use Rattle.dyn_value.specs.declared.value.Kind.{Kind}
use Rattle.script_tokens.specs.declared.token.Keyword.TheVariants as word
use Rattle.script_tokens.specs.declared.token.Symbol.TheVariants as mark
use Rattle.script_tokens.specs.declared.token.Token.TheVariants.{Int, Mark, Name, Text, Word}
use Rattle.script_grammar.specs.declared.tree.Arg.{Arg}
use Rattle.script_grammar.specs.declared.tree.Expr.{Expr}
use Rattle.script_grammar.specs.declared.tree.Head.{Head}
use Rattle.script_grammar.specs.declared.tree.Head.TheFolds.{fold-roll-Arg, fold-roll-Expr, fold-roll-Head, fold-roll-Suffix, map-Head, map-Suffix}
use Rattle.script_grammar.specs.declared.tree.Head.TheOpen.{Head-F, Suffix-F}
use Rattle.script_grammar.specs.declared.tree.Head.TheVariants as head
use Rattle.script_grammar.specs.declared.tree.Head.TheViews.{roll-Head, roll-Suffix}
use Rattle.script_grammar.specs.declared.tree.Suffix.{Suffix}
use Rattle.script_grammar.specs.declared.tree.Suffix.TheVariants as suffix
use Rattle.script_grammar.specs.Forms.{Tokens}
use Rattle.script_grammar.specs.ExpressionForms.{closed_form, args_form, more_args_form, name_expr}
use Rattle.script_grammar.specs.OperatorSymbols.{operator_symbol, unary_symbol, conversion_word}
use Rattle.script_grammar.specs.Spelling.{spell_arg, spell_expr, spell_head, spell_suffix, head_spelling, suffix_spelling, arg_spelling, expr_spelling, named_tokens}

rolled_head : (x : Head-F Head Suffix Arg Expr) →
    spell_head (roll-Head x) ≡ head_spelling (map-Head Head Suffix Arg Expr Tokens Tokens Tokens Tokens spell_head spell_suffix spell_arg spell_expr x)
rolled_head x = fold-roll-Head Tokens Tokens Tokens Tokens head_spelling suffix_spelling arg_spelling expr_spelling x

rolled_suffix : (x : Suffix-F Head Suffix Arg Expr) →
    spell_suffix (roll-Suffix x) ≡ suffix_spelling (map-Suffix Head Suffix Arg Expr Tokens Tokens Tokens Tokens spell_head spell_suffix spell_arg spell_expr x)
rolled_suffix x = fold-roll-Suffix Tokens Tokens Tokens Tokens head_spelling suffix_spelling arg_spelling expr_spelling x

-- an expression is spelled as its head, and then its suffixes
pub expr-spelling : (h : Head) (ss : List Suffix) →
    spell_expr (record { head = h; suffixes = ss }) ≡ spell_head h ++ flat_map spell_suffix ss
expr-spelling h ss =
    fold-roll-Expr Tokens Tokens Tokens Tokens head_spelling suffix_spelling arg_spelling expr_spelling (record { head = h; suffixes = ss })
    ∙ ap (λ z. spell_head h ++ z) (flat_map-map (λ ts. ts) spell_suffix ss)

-- an argument as its value, after its name if it has one
pub arg-spelling : (n : Option (List ℕ)) (value : Expr) →
    spell_arg (record { name = n; value = value }) ≡ named_tokens n (spell_expr value)
arg-spelling n value =
    fold-roll-Arg Tokens Tokens Tokens Tokens head_spelling suffix_spelling arg_spelling expr_spelling (record { name = n; value = value })

-- one suffix more
pub longer-spelling : (e : Expr) (s : Suffix) →
    spell_expr (record { head = e.head; suffixes = e.suffixes ++ s ∷ [] }) ≡ spell_expr e ++ spell_suffix s
longer-spelling e s =
    expr-spelling e.head (e.suffixes ++ s ∷ [])
    ∙ ap (λ z. spell_head e.head ++ z) (flat_map-append spell_suffix e.suffixes (s ∷ []) ∙ ap (λ z. flat_map spell_suffix e.suffixes ++ z) (append-nil (spell_suffix s)))
    ∙ sym (append_assoc (spell_head e.head) (flat_map spell_suffix e.suffixes) (spell_suffix s))
    ∙ ap (λ z. z ++ spell_suffix s) (sym (expr-spelling e.head e.suffixes))

-- Heads.

pub int-spelling : (n : ℤ) → spell_head (head.Int n) ≡ Int n ∷ []
int-spelling n = ap spell_head (sym (head.rolls-Int n)) ∙ rolled_head (Head-F.Int n)

pub text-spelling : (t : List ℕ) → spell_head (head.Text t) ≡ Text t ∷ []
text-spelling t = ap spell_head (sym (head.rolls-Text t)) ∙ rolled_head (Head-F.Text t)

pub nil-spelling : spell_head head.Nil ≡ Word word.Nil ∷ []
nil-spelling = ap spell_head (sym head.rolls-Nil) ∙ rolled_head Head-F.Nil

pub true-spelling : spell_head head.True ≡ Word word.True ∷ []
true-spelling = ap spell_head (sym head.rolls-True) ∙ rolled_head Head-F.True

pub false-spelling : spell_head head.False ≡ Word word.False ∷ []
false-spelling = ap spell_head (sym head.rolls-False) ∙ rolled_head Head-F.False

pub name-spelling : (n : List ℕ) → spell_head (head.Name n) ≡ Name n ∷ []
name-spelling n = ap spell_head (sym (head.rolls-Name n)) ∙ rolled_head (Head-F.Name n)

pub unary-spelling : (op : UnOp) (e : Expr) →
    spell_head (head.Unary op e) ≡ Mark mark.OpenParenthesis ∷ Mark (unary_symbol op) ∷ closed_form.tokens e
unary-spelling op e = ap spell_head (sym (head.rolls-Unary op e)) ∙ rolled_head (Head-F.Unary op e)

pub binary-spelling : (op : BinOp) (l r : Expr) →
    spell_head (head.Binary op l r) ≡ Mark mark.OpenParenthesis ∷ (spell_expr l ++ Mark (operator_symbol op) ∷ closed_form.tokens r)
binary-spelling op l r =
    ap spell_head (sym (head.rolls-Binary op l r)) ∙ rolled_head (Head-F.Binary op l r)
    ∙ ap (λ z. Mark mark.OpenParenthesis ∷ z) (append_assoc (spell_expr l) (Mark (operator_symbol op) ∷ spell_expr r) (Mark mark.CloseParenthesis ∷ []))

pub new-spelling : spell_head head.New ≡ Word word.New ∷ Mark mark.OpenParenthesis ∷ Mark mark.CloseParenthesis ∷ []
new-spelling = ap spell_head (sym head.rolls-New) ∙ rolled_head Head-F.New

pub new_of-spelling : (target : Expr) (args : List Arg) →
    spell_head (head.NewOf target args) ≡ Word word.New ∷ Mark mark.OpenParenthesis ∷ (spell_expr target ++ (more_args_form false).tokens args)
new_of-spelling target args = ap spell_head (sym (head.rolls-NewOf target args)) ∙ rolled_head (Head-F.NewOf target args)

pub convert-spelling : (to : Kind) (e : Expr) →
    spell_head (head.Convert to e) ≡ Word (conversion_word to) ∷ Mark mark.OpenParenthesis ∷ closed_form.tokens e
convert-spelling to e = ap spell_head (sym (head.rolls-Convert to e)) ∙ rolled_head (Head-F.Convert to e)

-- Suffixes.

pub member-spelling : (n : List ℕ) → spell_suffix (suffix.Member n) ≡ Mark mark.Dot ∷ Name n ∷ []
member-spelling n = ap spell_suffix (sym (suffix.rolls-Member n)) ∙ rolled_suffix (Suffix-F.Member n)

pub member_call-spelling : (n : List ℕ) (args : List Arg) →
    spell_suffix (suffix.MemberCall n args) ≡ Mark mark.Dot ∷ Name n ∷ Mark mark.OpenParenthesis ∷ args_form.tokens args
member_call-spelling n args = ap spell_suffix (sym (suffix.rolls-MemberCall n args)) ∙ rolled_suffix (Suffix-F.MemberCall n args)

pub index-spelling : (key : Expr) →
    spell_suffix (suffix.Index key) ≡ Mark mark.OpenBracket ∷ (spell_expr key ++ Mark mark.CloseBracket ∷ [])
index-spelling key = ap spell_suffix (sym (suffix.rolls-Index key)) ∙ rolled_suffix (Suffix-F.Index key)

pub call-spelling : (args : List Arg) → spell_suffix (suffix.Call args) ≡ Mark mark.OpenParenthesis ∷ args_form.tokens args
call-spelling args = ap spell_suffix (sym (suffix.rolls-Call args)) ∙ rolled_suffix (Suffix-F.Call args)

-- a name alone
pub bare-spelling : (n : List ℕ) → spell_expr (name_expr n) ≡ Name n ∷ []
bare-spelling n = expr-spelling (head.Name n) [] ∙ ap (λ z. z ++ []) (name-spelling n)
