-- The symbols of operators, and the words of conversions.
use Rattle.dyn_value.specs.declared.operator.BinOp.{BinOp}
use Rattle.dyn_value.specs.declared.operator.BinOp.TheVariants as op
use Rattle.dyn_value.specs.declared.operator.UnOp.{UnOp}
use Rattle.dyn_value.specs.declared.operator.UnOp.TheVariants as unary
use Rattle.dyn_value.specs.declared.value.Kind.{Kind}
use Rattle.dyn_value.specs.declared.value.Kind.TheVariants as kind
use Rattle.script_tokens.specs.declared.token.Keyword.{Keyword}
use Rattle.script_tokens.specs.declared.token.Keyword.TheVariants as word
use Rattle.script_tokens.specs.declared.token.Symbol.{Symbol}
use Rattle.script_tokens.specs.declared.token.Symbol.TheVariants as mark

-- the symbol between the operands
abbrev pub operator_symbol : BinOp → Symbol
operator_symbol op.Add = mark.Plus
operator_symbol op.Subtract = mark.Minus
operator_symbol op.Multiply = mark.Star
operator_symbol op.Divide = mark.Slash
operator_symbol op.Modulo = mark.Percent
operator_symbol op.Equal = mark.EqualEqual
operator_symbol op.NotEqual = mark.BangEqual
operator_symbol op.LessThan = mark.Less
operator_symbol op.LessThanOrEqual = mark.LessEqual
operator_symbol op.GreaterThan = mark.Greater
operator_symbol op.GreaterThanOrEqual = mark.GreaterEqual
operator_symbol op.And = mark.Ampersand
operator_symbol op.Or = mark.Bar

-- the symbol before the operand; IsTrue is never written
abbrev pub unary_symbol : UnOp → Symbol
unary_symbol unary.Negate = mark.Minus
unary_symbol unary.Not = mark.Bang
unary_symbol unary.IsTrue = mark.Bang

-- the word of a conversion; one to another kind is never written
abbrev pub conversion_word : Kind → Keyword
conversion_word kind.Int = word.Int
conversion_word kind.Text = word.Text
conversion_word _ = word.Bool
