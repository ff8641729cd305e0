-- That what binds a run's operations keeps of itself has at most one proof.
use Rattle.std.specs.Prelude.{ℕ, List}
use Rattle.std.specs.List.{AllByRecursion, AllByRecursion-prop}
use Rattle.std.proofs.Props.{props}
use Rattle.dyn_value.specs.declared.value.Value.{Value}
use Rattle.dyn_value.specs.declared.value.Value.TheVariants as value
use Rattle.dyn_value.specs.Proper.{IsProperIn}
use Rattle.expando_class.specs.declared.pass.ClassPass.{ClassPass}
use Rattle.expando_class.specs.declared.table.ClassTable.{ClassTable}
use Rattle.expando_class.specs.Pass.{IsPassOf}
use Rattle.standard_binders.specs.Functions.{Functions, HaveFewParameters}
use Rattle.object_history.specs.RowProps.{class_prop}

pub pass_prop : (table : ClassTable) (pass : ClassPass) → IsProp (IsPassOf table pass)
pass_prop table pass = λ p q i number class at. class_prop table class (p number class at) (q number class at) i

pub few_prop : (functions : Functions) → IsProp (HaveFewParameters functions)
few_prop functions = Prim.hlevel props

pub value_prop : (functions objects : ℕ) (v : Value) → IsProp (IsProperIn functions objects v)
value_prop functions objects value.Nil = Prim.hlevel props
value_prop functions objects (value.Bool b) = Prim.hlevel props
value_prop functions objects (value.Int n) = Prim.hlevel props
value_prop functions objects (value.Text t) = Prim.hlevel props
value_prop functions objects (value.Fun f) = Prim.hlevel props
value_prop functions objects (value.Obj o) = Prim.hlevel props

pub proper_prop : (functions objects : ℕ) (vs : List Value) → IsProp (AllByRecursion (IsProperIn functions objects) vs)
proper_prop functions objects vs = AllByRecursion-prop (IsProperIn functions objects) (value_prop functions objects) vs
