-- Names and operators are read in one way.
use Rattle.std.proofs.Common.{◌≡◌, refl, sym, ap, ◌∙◌}
use Rattle.dyn_value.specs.declared.operator.BinOp.{BinOp}
use Rattle.dyn_value.specs.declared.operator.BinOp.TheVariants as op
use Rattle.script_tokens.specs.declared.token.Symbol.{Symbol}
use Rattle.script_tokens.specs.declared.token.Symbol.TheVariants as mark
use Rattle.script_grammar.specs.ExpressionForms.{name_form, operator_form}
use Rattle.script_grammar.specs.OperatorSymbols.{operator_symbol}
use Rattle.script_grammar.proofs.Items.{Lawful}
use Rattle.script_grammar.proofs.Unique.{UniqueAt}

-- the operator of a symbol that has one
symbol_operator : Symbol → BinOp
symbol_operator mark.Plus = op.Add
symbol_operator mark.Minus = op.Subtract
symbol_operator mark.Star = op.Multiply
symbol_operator mark.Slash = op.Divide
symbol_operator mark.Percent = op.Modulo
symbol_operator mark.EqualEqual = op.Equal
symbol_operator mark.BangEqual = op.NotEqual
symbol_operator mark.Less = op.LessThan
symbol_operator mark.LessEqual = op.LessThanOrEqual
symbol_operator mark.Greater = op.GreaterThan
symbol_operator mark.GreaterEqual = op.GreaterThanOrEqual
symbol_operator mark.Ampersand = op.And
symbol_operator _ = op.Or

symbol_operator-operator_symbol : (o : BinOp) → symbol_operator (operator_symbol o) ≡ o
unfolding symbol_operator
symbol_operator-operator_symbol op.Add = refl
symbol_operator-operator_symbol op.Subtract = refl
symbol_operator-operator_symbol op.Multiply = refl
symbol_operator-operator_symbol op.Divide = refl
symbol_operator-operator_symbol op.Modulo = refl
symbol_operator-operator_symbol op.Equal = refl
symbol_operator-operator_symbol op.NotEqual = refl
symbol_operator-operator_symbol op.LessThan = refl
symbol_operator-operator_symbol op.LessThanOrEqual = refl
symbol_operator-operator_symbol op.GreaterThan = refl
symbol_operator-operator_symbol op.GreaterThanOrEqual = refl
symbol_operator-operator_symbol op.And = refl
symbol_operator-operator_symbol op.Or = refl

same_operator : (a b : BinOp) → operator_symbol a ≡ operator_symbol b → a ≡ b
same_operator a b e = sym (symbol_operator-operator_symbol a) ∙ ap symbol_operator e ∙ symbol_operator-operator_symbol b

pub operator_unique : (a : BinOp) → UniqueAt operator_form a
operator_unique a b x y m n e =
    let same : operator_symbol a ≡ operator_symbol b = cc in
    (same_operator a b same, cc)

pub lawful_operator : Lawful operator_form
lawful_operator = record {
  unique = λ a b x y m n e. operator_unique a b x y m n e;
  local = λ a x y go m. m;
  ends = λ a x m. m;
}

pub lawful_name : Lawful name_form
lawful_name = record {
  unique = λ a b x y m n e. (cc, cc);
  local = λ a x y go m. m;
  ends = λ a x m. m;
}
