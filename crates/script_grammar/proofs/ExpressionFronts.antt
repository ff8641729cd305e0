-- What an expression may begin with.
use Rattle.std.proofs.Common.{◌≡◌, true, ◌∷◌, ◌++◌}
use Rattle.script_tokens.specs.declared.token.Keyword.TheVariants as word
use Rattle.script_tokens.specs.declared.token.Symbol.TheVariants as mark
use Rattle.script_tokens.specs.declared.token.Token.{Token}
use Rattle.script_tokens.specs.declared.token.Token.TheVariants.{Mark, Word}
use Rattle.script_grammar.specs.declared.tree.Expr.{Expr}
use Rattle.script_grammar.specs.declared.tree.Head.{Head}
use Rattle.script_grammar.specs.Forms.{Tokens}
use Rattle.script_grammar.specs.Spelling.{spell_expr}
use Rattle.script_grammar.specs.Written.{is_written_expr}
use Rattle.script_grammar.proofs.Views.{HeadAt, expr_begins}

-- no word of a statement, and no closing brace
abbrev pub BeginsExpr : Token → Type 0
BeginsExpr (Word word.Let) = ⊥
BeginsExpr (Word word.Delete) = ⊥
BeginsExpr (Word word.If) = ⊥
BeginsExpr (Word word.Else) = ⊥
BeginsExpr (Word word.While) = ⊥
BeginsExpr (Word word.Return) = ⊥
BeginsExpr (Word word.Print) = ⊥
BeginsExpr (Word word.Try) = ⊥
BeginsExpr (Mark mark.CloseBrace) = ⊥
BeginsExpr _ = Unit {0}

head_begins : (t : Token) (h : Head) → HeadAt t h → BeginsExpr t
head_begins (Word word.Let) h at = absurd at
head_begins (Word word.Delete) h at = absurd at
head_begins (Word word.If) h at = absurd at
head_begins (Word word.Else) h at = absurd at
head_begins (Word word.While) h at = absurd at
head_begins (Word word.Return) h at = absurd at
head_begins (Word word.Print) h at = absurd at
head_begins (Word word.Try) h at = absurd at
head_begins (Mark mark.CloseBrace) h at = absurd at
head_begins _ h at = tt

pub begins_expr : (t : Token) (us post : Tokens) (e : Expr) → is_written_expr e ≡ true → t ∷ us ≡ spell_expr e ++ post → BeginsExpr t
begins_expr t us post e w is = head_begins t e.head (expr_begins t us post e w is)
