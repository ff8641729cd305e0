-- The texts of keywords and symbols.
use Rattle.std.specs.Prelude.{ℕ, List, codes}
use Rattle.script_tokens.specs.declared.token.Keyword.{Keyword}
use Rattle.script_tokens.specs.declared.token.Keyword.TheVariants as word
use Rattle.script_tokens.specs.declared.token.Symbol.{Symbol}
use Rattle.script_tokens.specs.declared.token.Symbol.TheVariants as mark

abbrev pub keyword_text : Keyword → List ℕ
keyword_text word.Shared = codes "shared"
keyword_text word.Fn = codes "fn"
keyword_text word.Task = codes "task"
keyword_text word.Let = codes "let"
keyword_text word.Delete = codes "delete"
keyword_text word.If = codes "if"
keyword_text word.Else = codes "else"
keyword_text word.While = codes "while"
keyword_text word.Return = codes "return"
keyword_text word.Print = codes "print"
keyword_text word.Try = codes "try"
keyword_text word.Catch = codes "catch"
keyword_text word.New = codes "new"
keyword_text word.Nil = codes "nil"
keyword_text word.True = codes "true"
keyword_text word.False = codes "false"
keyword_text word.Int = codes "int"
keyword_text word.Text = codes "text"
keyword_text word.Bool = codes "bool"

abbrev pub symbol_text : Symbol → List ℕ
symbol_text mark.OpenParenthesis = codes "("
symbol_text mark.CloseParenthesis = codes ")"
symbol_text mark.OpenBrace = codes "{"
symbol_text mark.CloseBrace = codes "}"
symbol_text mark.OpenBracket = codes "["
symbol_text mark.CloseBracket = codes "]"
symbol_text mark.Comma = codes ","
symbol_text mark.Semicolon = codes ";"
symbol_text mark.Dot = codes "."
symbol_text mark.Colon = codes ":"
symbol_text mark.Equal = codes "="
symbol_text mark.EqualEqual = codes "=="
symbol_text mark.BangEqual = codes "!="
symbol_text mark.Less = codes "<"
symbol_text mark.LessEqual = codes "<="
symbol_text mark.Greater = codes ">"
symbol_text mark.GreaterEqual = codes ">="
symbol_text mark.Plus = codes "+"
symbol_text mark.Minus = codes "-"
symbol_text mark.Star = codes "*"
symbol_text mark.Slash = codes "/"
symbol_text mark.Percent = codes "%"
symbol_text mark.Ampersand = codes "&"
symbol_text mark.Bar = codes "|"
symbol_text mark.Bang = codes "!"
