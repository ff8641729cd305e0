-- A sum of the tests, which looks at no object.
use Rattle.std.specs.Prelude.{List, [], ◌∷◌, pos}
use Rattle.dyn_value.specs.declared.operator.BinOp.TheVariants.{Add}
use Rattle.dyn_value.specs.declared.value.Value.{Value}
use Rattle.dyn_value.specs.declared.value.Value.TheVariants as value
use Rattle.standard_binders.specs.declared.binder.Binder.{Binder}
use Rattle.standard_binders.specs.declared.binder.Binder.TheVariants.{BinaryOperation}

-- the binder of sums
abbrev pub addition : Binder
addition = BinaryOperation Add

-- the operands of the sum of 2 and 3
abbrev pub two_and_three : List Value
two_and_three = value.Int (pos 2) ∷ value.Int (pos 3) ∷ []
