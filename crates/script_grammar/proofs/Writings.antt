-- What can be written of expressions, form by form.
use Rattle.std.proofs.Common.{◌≡◌, ℕ, ℤ, Bool, true, false, ◌&&◌, List, Option, map, sym, ap, ◌∙◌}
use Rattle.std.specs.Option.{is_some}
use Rattle.std.proofs.lemmas.Bool.{and_from, and_parts}
use Rattle.dyn_value.specs.declared.operator.BinOp.{BinOp}
use Rattle.dyn_value.specs.declared.operator.UnOp.{UnOp}
use Rattle.dyn_value.specs.declared.value.Kind.{Kind}
use Rattle.script_grammar.specs.declared.tree.Arg.{Arg}
use Rattle.script_grammar.specs.declared.tree.Expr.{Expr}
use Rattle.script_grammar.specs.declared.tree.Head.{Head}
use Rattle.script_grammar.specs.declared.tree.Head.TheFolds.{fold-roll-Arg, fold-roll-Expr, fold-roll-Head, fold-roll-Suffix, map-Head, map-Suffix}
use Rattle.script_grammar.specs.declared.tree.Head.TheOpen.{Head-F, Suffix-F}
use Rattle.script_grammar.specs.declared.tree.Head.TheVariants as head
use Rattle.script_grammar.specs.declared.tree.Head.TheViews.{roll-Head, roll-Suffix}
use Rattle.script_grammar.specs.declared.tree.Suffix.{Suffix}
use Rattle.script_grammar.specs.declared.tree.Suffix.TheVariants as suffix
use Rattle.script_grammar.specs.Written.{ArgWriting, SuffixWriting, are_written_args, are_written_suffixes, is_conversion, is_written_unary, is_written_head, is_written_expr, writing_of_suffix, writing_of_arg, head_writing, suffix_writing, arg_writing, expr_writing}

rolled_head : (x : Head-F Head Suffix Arg Expr) →
    is_written_head (roll-Head x) ≡ head_writing (map-Head Head Suffix Arg Expr Bool SuffixWriting ArgWriting Bool is_written_head writing_of_suffix writing_of_arg is_written_expr x)
rolled_head x = fold-roll-Head Bool SuffixWriting ArgWriting Bool head_writing suffix_writing arg_writing expr_writing x

rolled_suffix : (x : Suffix-F Head Suffix Arg Expr) →
    writing_of_suffix (roll-Suffix x) ≡ suffix_writing (map-Suffix Head Suffix Arg Expr Bool SuffixWriting ArgWriting Bool is_written_head writing_of_suffix writing_of_arg is_written_expr x)
rolled_suffix x = fold-roll-Suffix Bool SuffixWriting ArgWriting Bool head_writing suffix_writing arg_writing expr_writing x

pub expr-writing : (h : Head) (ss : List Suffix) →
    is_written_expr (record { head = h; suffixes = ss }) ≡ (is_written_head h && are_written_suffixes false (map writing_of_suffix ss))
expr-writing h ss =
    fold-roll-Expr Bool SuffixWriting ArgWriting Bool head_writing suffix_writing arg_writing expr_writing (record { head = h; suffixes = ss })

-- an expression can be written where its head and its suffixes can
pub expr_is_written : (h : Head) (ss : List Suffix) → is_written_head h ≡ true →
    are_written_suffixes false (map writing_of_suffix ss) ≡ true →
    is_written_expr (record { head = h; suffixes = ss }) ≡ true
expr_is_written h ss first rest =
    expr-writing h ss ∙ and_from (is_written_head h) (are_written_suffixes false (map writing_of_suffix ss)) first rest

pub written_expr : (h : Head) (ss : List Suffix) → is_written_expr (record { head = h; suffixes = ss }) ≡ true →
    (is_written_head h ≡ true) × (are_written_suffixes false (map writing_of_suffix ss) ≡ true)
written_expr h ss w =
    and_parts (is_written_head h) (are_written_suffixes false (map writing_of_suffix ss)) (sym (expr-writing h ss) ∙ w)

pub arg-writing : (n : Option (List ℕ)) (value : Expr) →
    writing_of_arg (record { name = n; value = value }) ≡ record { written = is_written_expr value; named = is_some n }
arg-writing n value =
    fold-roll-Arg Bool SuffixWriting ArgWriting Bool head_writing suffix_writing arg_writing expr_writing (record { name = n; value = value })

-- Heads.

pub int_is_written : (n : ℤ) → is_written_head (head.Int n) ≡ true
int_is_written n = ap is_written_head (sym (head.rolls-Int n)) ∙ rolled_head (Head-F.Int n)

pub text_is_written : (t : List ℕ) → is_written_head (head.Text t) ≡ true
text_is_written t = ap is_written_head (sym (head.rolls-Text t)) ∙ rolled_head (Head-F.Text t)

pub nil_is_written : is_written_head head.Nil ≡ true
nil_is_written = ap is_written_head (sym head.rolls-Nil) ∙ rolled_head Head-F.Nil

pub true_is_written : is_written_head head.True ≡ true
true_is_written = ap is_written_head (sym head.rolls-True) ∙ rolled_head Head-F.True

pub false_is_written : is_written_head head.False ≡ true
false_is_written = ap is_written_head (sym head.rolls-False) ∙ rolled_head Head-F.False

pub name_is_written : (n : List ℕ) → is_written_head (head.Name n) ≡ true
name_is_written n = ap is_written_head (sym (head.rolls-Name n)) ∙ rolled_head (Head-F.Name n)

pub unary-writing : (op : UnOp) (e : Expr) → is_written_head (head.Unary op e) ≡ (is_written_unary op && is_written_expr e)
unary-writing op e = ap is_written_head (sym (head.rolls-Unary op e)) ∙ rolled_head (Head-F.Unary op e)

pub binary-writing : (op : BinOp) (l r : Expr) → is_written_head (head.Binary op l r) ≡ (is_written_expr l && is_written_expr r)
binary-writing op l r = ap is_written_head (sym (head.rolls-Binary op l r)) ∙ rolled_head (Head-F.Binary op l r)

pub new_is_written : is_written_head head.New ≡ true
new_is_written = ap is_written_head (sym head.rolls-New) ∙ rolled_head Head-F.New

pub new_of-writing : (target : Expr) (args : List Arg) →
    is_written_head (head.NewOf target args) ≡ (is_written_expr target && are_written_args false (map writing_of_arg args))
new_of-writing target args = ap is_written_head (sym (head.rolls-NewOf target args)) ∙ rolled_head (Head-F.NewOf target args)

pub convert-writing : (to : Kind) (e : Expr) → is_written_head (head.Convert to e) ≡ (is_conversion to && is_written_expr e)
convert-writing to e = ap is_written_head (sym (head.rolls-Convert to e)) ∙ rolled_head (Head-F.Convert to e)

-- Suffixes.

pub member-writing : (n : List ℕ) → writing_of_suffix (suffix.Member n) ≡ record { written = true; member = true; no_call = true }
member-writing n = ap writing_of_suffix (sym (suffix.rolls-Member n)) ∙ rolled_suffix (Suffix-F.Member n)

pub member_call-writing : (n : List ℕ) (args : List Arg) →
    writing_of_suffix (suffix.MemberCall n args) ≡
    record { written = are_written_args false (map writing_of_arg args); member = false; no_call = true }
member_call-writing n args = ap writing_of_suffix (sym (suffix.rolls-MemberCall n args)) ∙ rolled_suffix (Suffix-F.MemberCall n args)

pub index-writing : (key : Expr) →
    writing_of_suffix (suffix.Index key) ≡ record { written = is_written_expr key; member = false; no_call = true }
index-writing key = ap writing_of_suffix (sym (suffix.rolls-Index key)) ∙ rolled_suffix (Suffix-F.Index key)

pub call-writing : (args : List Arg) →
    writing_of_suffix (suffix.Call args) ≡
    record { written = are_written_args false (map writing_of_arg args); member = false; no_call = false }
call-writing args = ap writing_of_suffix (sym (suffix.rolls-Call args)) ∙ rolled_suffix (Suffix-F.Call args)
