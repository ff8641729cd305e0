-- The grammar of expressions, as forms.
use Rattle.std.specs.Prelude.{◌≡◌, ◌≢◌, ℕ, Bool, true, false, List, [], ◌∷◌, ◌++◌, map}
use Rattle.std.specs.List.{flat_map}
use Rattle.dyn_value.specs.declared.operator.BinOp.{BinOp}
use Rattle.dyn_value.specs.declared.operator.UnOp.{UnOp}
use Rattle.script_tokens.specs.declared.token.Symbol.{Symbol}
use Rattle.script_tokens.specs.declared.token.Symbol.TheVariants as mark
use Rattle.script_tokens.specs.declared.token.Token.{Token}
use Rattle.script_tokens.specs.declared.token.Token.TheVariants.{Name, Mark}
use Rattle.script_grammar.specs.declared.parser.tokens.SuffixStart.{SuffixStart}
use Rattle.script_grammar.specs.declared.parser.tokens.SuffixStart.TheVariants as start
use Rattle.script_grammar.specs.declared.tree.Arg.{Arg}
use Rattle.script_grammar.specs.declared.tree.Expr.{Expr}
use Rattle.script_grammar.specs.declared.tree.Head.{Head}
use Rattle.script_grammar.specs.declared.tree.Head.TheVariants as head
use Rattle.script_grammar.specs.declared.tree.Suffix.{Suffix}
use Rattle.script_grammar.specs.Forms.{Form, Tokens}
use Rattle.script_grammar.specs.OperatorSymbols.{operator_symbol, unary_symbol}
use Rattle.script_grammar.specs.Spelling.{spell_head, spell_suffix, spell_arg, spell_expr, parts, more_parts}
use Rattle.script_grammar.specs.Written.{is_written_unary, is_written_head, is_written_expr, writing_of_suffix, writing_of_arg, are_written_args, are_written_suffixes}

-- the tokens do not begin with this one
abbrev pub BeginsNot : Token → Tokens → Type 0
BeginsNot t ts = (rest : Tokens) → ts ≡ t ∷ rest → ⊥

-- an identifier that is no keyword
abbrev pub name_form : Form
name_form = record { Tree = List ℕ; tokens = λ n. Name n ∷ []; May = λ n post. Unit {0} }

-- the symbol of an operator between two operands
abbrev pub operator_form : Form
operator_form = record { Tree = BinOp; tokens = λ op. Mark (operator_symbol op) ∷ []; May = λ op post. Unit {0} }

-- the tokens begin with no operator that stands before an operand
abbrev pub NoUnary : Tokens → Type 0
NoUnary ts = (op : UnOp) → is_written_unary op ≡ true → BeginsNot (Mark (unary_symbol op)) ts

-- the first symbol of a suffix
abbrev pub start_symbol : SuffixStart → Symbol
start_symbol start.Dot = mark.Dot
start_symbol start.Bracket = mark.OpenBracket
start_symbol start.Parenthesis = mark.OpenParenthesis

-- the tokens begin with no suffix
abbrev pub NoSuffix : Tokens → Type 0
NoSuffix ts = (s : SuffixStart) → BeginsNot (Mark (start_symbol s)) ts

-- the head of an expression, whatever follows it
abbrev pub head_form : Form
head_form = record { Tree = Head; tokens = spell_head; May = λ h post. is_written_head h ≡ true }

-- an expression, before what begins no further suffix
abbrev pub expr_form : Form
expr_form = record {
  Tree = Expr;
  tokens = spell_expr;
  May = λ e post. (is_written_expr e ≡ true) × NoSuffix post;
}

-- an expression and a closing parenthesis
abbrev pub closed_form : Form
closed_form = record {
  Tree = Expr;
  tokens = λ e. spell_expr e ++ Mark mark.CloseParenthesis ∷ [];
  May = λ e post. is_written_expr e ≡ true;
}

-- a suffix that begins as said; a plain member is before no opening parenthesis
abbrev pub suffix_form : SuffixStart → Form
suffix_form s = record {
  Tree = Suffix;
  tokens = spell_suffix;
  May = λ suffix post. ((writing_of_suffix suffix).written ≡ true)
      × ((writing_of_suffix suffix).no_call ≡ false → s ≡ start.Parenthesis)
      × ((writing_of_suffix suffix).member ≡ true → BeginsNot (Mark mark.OpenParenthesis) post);
}

-- suffixes, after a plain member or not, before what begins no further one
abbrev pub suffixes_form : Bool → Form
suffixes_form member = record {
  Tree = List Suffix;
  tokens = λ ss. flat_map spell_suffix ss;
  May = λ ss post. (are_written_suffixes member (map writing_of_suffix ss) ≡ true) × NoSuffix post;
}

-- an argument, after a named one or not; one without a name is before no colon
abbrev pub arg_form : Bool → Form
arg_form named = record {
  Tree = Arg;
  tokens = spell_arg;
  May = λ a post. ((writing_of_arg a).written ≡ true) × (named ≡ true → (writing_of_arg a).named ≡ true)
      × NoSuffix post × ((writing_of_arg a).named ≡ false → BeginsNot (Mark mark.Colon) post);
}

-- arguments, and the parenthesis that closes them
abbrev pub args_form : Form
args_form = record {
  Tree = List Arg;
  tokens = λ args. parts (map spell_arg args);
  May = λ args post. are_written_args false (map writing_of_arg args) ≡ true;
}

-- one argument or more, the first after a named one or not, and the parenthesis that closes them
abbrev pub some_args_form : Bool → Form
some_args_form named = record {
  Tree = List Arg;
  tokens = λ args. parts (map spell_arg args);
  May = λ args post. (args ≢ []) × (are_written_args named (map writing_of_arg args) ≡ true);
}

-- further arguments, each after a comma, and the parenthesis that closes them
abbrev pub more_args_form : Bool → Form
more_args_form named = record {
  Tree = List Arg;
  tokens = λ args. more_parts (map spell_arg args);
  May = λ args post. are_written_args named (map writing_of_arg args) ≡ true;
}

-- a name alone, as an expression
abbrev pub name_expr : List ℕ → Expr
name_expr n = record { head = head.Name n; suffixes = [] }
