-- Kinds of values.
use Rattle.std.specs.Prelude.{Bool, true, false}
use Rattle.dyn_value.specs.declared.value.Kind.{Kind}
use Rattle.dyn_value.specs.declared.value.Kind.TheVariants as kind
use Rattle.dyn_value.specs.declared.value.Value.{Value}
use Rattle.dyn_value.specs.declared.value.Value.TheVariants as value

-- the kind of a value
abbrev pub kind_of : Value → Kind
kind_of value.Nil = kind.Nil
kind_of (value.Bool b) = kind.Bool
kind_of (value.Int n) = kind.Int
kind_of (value.Text t) = kind.Text
kind_of (value.Fun f) = kind.Fun
kind_of (value.Obj o) = kind.Obj

-- whether two kinds are the same
abbrev pub same_kind : Kind → Kind → Bool
same_kind kind.Nil kind.Nil = true
same_kind kind.Bool kind.Bool = true
same_kind kind.Int kind.Int = true
same_kind kind.Text kind.Text = true
same_kind kind.Fun kind.Fun = true
same_kind kind.Obj kind.Obj = true
same_kind _ _ = false
