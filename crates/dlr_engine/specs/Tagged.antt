-- Values of a run, by the tag of its objects.
use Rattle.std.specs.Prelude.{List}
use Rattle.std.specs.List.{AllByRecursion}
use Rattle.dyn_value.specs.declared.value.Value.{Value}
use Rattle.dyn_value.specs.Proper.{IsProperIn}
use Rattle.object_history.specs.declared.tag.RowTag.{RowTag}
use Rattle.dlr_engine.specs.BindingProps.{proper_prop}

-- these values are proper by this tag
abbrev pub AreProperBy : RowTag → List Value → Type 0
AreProperBy tag values = AllByRecursion (IsProperIn tag.functions tag.limit) values

pub proper_by_prop : (tag : RowTag) (values : List Value) → IsProp (AreProperBy tag values)
proper_by_prop tag values = proper_prop tag.functions tag.limit values
