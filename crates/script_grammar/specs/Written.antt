-- What a script can write of an expression, beyond what its tokens say.
use Rattle.std.specs.Prelude.{Bool, true, false, ◌&&◌, List, [], ◌∷◌}
use Rattle.std.specs.Option.{is_some}
use Rattle.dyn_value.specs.declared.operator.UnOp.{UnOp}
use Rattle.dyn_value.specs.declared.operator.UnOp.TheVariants as unary
use Rattle.dyn_value.specs.declared.value.Kind.{Kind}
use Rattle.dyn_value.specs.declared.value.Kind.TheVariants as kind
use Rattle.script_grammar.specs.declared.tree.Head.TheFolds.{fold-Head, fold-Suffix, fold-Arg, fold-Expr}
use Rattle.script_grammar.specs.declared.tree.Head.TheOpen.{Head-F, Suffix-F, Arg-F, Expr-F}
use Rattle.script_grammar.specs.declared.tree.Arg.{Arg}
use Rattle.script_grammar.specs.declared.tree.Expr.{Expr}
use Rattle.script_grammar.specs.declared.tree.Head.{Head}
use Rattle.script_grammar.specs.declared.tree.Suffix.{Suffix}

-- the operators that stand before an operand
abbrev pub is_written_unary : UnOp → Bool
is_written_unary unary.IsTrue = false
is_written_unary _ = true

-- the kinds that a value is converted to
abbrev pub is_conversion : Kind → Bool
is_conversion kind.Int = true
is_conversion kind.Text = true
is_conversion kind.Bool = true
is_conversion _ = false

-- whether the second holds where the first does
abbrev pub implies : Bool → Bool → Bool
implies true b = b
implies false b = true

-- an argument: whether it can be written, and whether it has a name
pub record ArgWriting : Type 0 where
  pub written : Bool
  pub named : Bool

-- a suffix: whether it can be written, whether it is a plain member, and whether it is no plain call
pub record SuffixWriting : Type 0 where
  pub written : Bool
  pub member : Bool
  pub no_call : Bool

-- arguments, where those before are named or not: named ones stand after all others
abbrev pub are_written_args : Bool → List ArgWriting → Bool
are_written_args named [] = true
are_written_args named (a ∷ rest) = a.written && (implies named a.named && are_written_args a.named rest)

-- suffixes, after a plain member or not: no plain call follows one
abbrev pub are_written_suffixes : Bool → List SuffixWriting → Bool
are_written_suffixes member [] = true
are_written_suffixes member (s ∷ rest) = s.written && (implies member s.no_call && are_written_suffixes s.member rest)

abbrev pub head_writing : Head-F Bool SuffixWriting ArgWriting Bool → Bool
head_writing (Head-F.Unary op e) = is_written_unary op && e
head_writing (Head-F.Binary op left right) = left && right
head_writing (Head-F.NewOf target args) = target && are_written_args false args
head_writing (Head-F.Convert to e) = is_conversion to && e
head_writing _ = true

abbrev pub suffix_writing : Suffix-F Bool SuffixWriting ArgWriting Bool → SuffixWriting
suffix_writing (Suffix-F.Member n) = record { written = true; member = true; no_call = true }
suffix_writing (Suffix-F.MemberCall n args) = record { written = are_written_args false args; member = false; no_call = true }
suffix_writing (Suffix-F.Index key) = record { written = key; member = false; no_call = true }
suffix_writing (Suffix-F.Call args) = record { written = are_written_args false args; member = false; no_call = false }

abbrev pub arg_writing : Arg-F Bool SuffixWriting ArgWriting Bool → ArgWriting
arg_writing a = record { written = a.value; named = is_some a.name }

abbrev pub expr_writing : Expr-F Bool SuffixWriting ArgWriting Bool → Bool
expr_writing e = e.head && are_written_suffixes false e.suffixes

abbrev pub is_written_expr : Expr → Bool
is_written_expr e = fold-Expr Bool SuffixWriting ArgWriting Bool head_writing suffix_writing arg_writing expr_writing e

abbrev pub is_written_head : Head → Bool
is_written_head h = fold-Head Bool SuffixWriting ArgWriting Bool head_writing suffix_writing arg_writing expr_writing h

abbrev pub writing_of_suffix : Suffix → SuffixWriting
writing_of_suffix s = fold-Suffix Bool SuffixWriting ArgWriting Bool head_writing suffix_writing arg_writing expr_writing s

abbrev pub writing_of_arg : Arg → ArgWriting
writing_of_arg a = fold-Arg Bool SuffixWriting ArgWriting Bool head_writing suffix_writing arg_writing expr_writing a
