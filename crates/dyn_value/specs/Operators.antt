-- When two operators are the same.
use Rattle.std.specs.Prelude.{Bool, true, false}
use Rattle.dyn_value.specs.declared.operator.UnOp.{UnOp}
use Rattle.dyn_value.specs.declared.operator.UnOp.TheVariants as unary
use Rattle.dyn_value.specs.declared.operator.BinOp.{BinOp}
use Rattle.dyn_value.specs.declared.operator.BinOp.TheVariants as op

-- whether two operators with one operand are the same
abbrev pub same_unary : UnOp → UnOp → Bool
same_unary unary.Negate unary.Negate = true
same_unary unary.Not unary.Not = true
same_unary unary.IsTrue unary.IsTrue = true
same_unary _ _ = false

-- whether two operators with two operands are the same
abbrev pub same_binary : BinOp → BinOp → Bool
same_binary op.Add op.Add = true
same_binary op.Subtract op.Subtract = true
same_binary op.Multiply op.Multiply = true
same_binary op.Divide op.Divide = true
same_binary op.Modulo op.Modulo = true
same_binary op.Equal op.Equal = true
same_binary op.NotEqual op.NotEqual = true
same_binary op.LessThan op.LessThan = true
same_binary op.LessThanOrEqual op.LessThanOrEqual = true
same_binary op.GreaterThan op.GreaterThan = true
same_binary op.GreaterThanOrEqual op.GreaterThanOrEqual = true
same_binary op.And op.And = true
same_binary op.Or op.Or = true
same_binary _ _ = false
