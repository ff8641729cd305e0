-- The shape of an operation: its binder, and what the tests of its binding look at.
use Rattle.std.specs.Prelude.{ℕ, ◌==◌, ◌&&◌, Bool, false, List, map}
use Rattle.std.specs.Cmp.Lexicographic.{pointwise}
use Rattle.std.specs.Str.{bytes_eq}
use Rattle.dyn_value.specs.declared.value.Kind.{Kind}
use Rattle.dyn_value.specs.declared.value.Value.{Value}
use Rattle.dyn_value.specs.Kinds.{same_kind}
use Rattle.restrictions.specs.declared.restriction.Restriction.{Restriction}
use Rattle.restrictions.specs.declared.restriction.Restriction.TheVariants.{Kind as IsKind, Fun as IsFun, Key, LongKey, Class}
use Rattle.rule_model.specs.Tests.{Form, tests_of}

-- What a test looks at: an operand's kind, which function it is, which text it is, or that it is a text too long for a
-- name; or the names of the target's members, in order.
pub data Look : Type 0 where
  AtKind : ℕ → Kind → Look
  AtFun : ℕ → ℕ → Look
  AtKey : ℕ → List ℕ → Look
  AtLong : ℕ → Look
  AtNames : List (List ℕ) → Look

-- a test of the class looks at the names of the target's members
abbrev pub look_of : List (List ℕ) → Restriction → Look
look_of names (IsKind operand k) = AtKind operand k
look_of names (IsFun operand f) = AtFun operand f
look_of names (Key operand text) = AtKey operand text
look_of names (LongKey operand) = AtLong operand
look_of names (Class n) = AtNames names

-- What the tests of an operation look at, by its operands and the names of its target's members. They are the same
-- whatever number the class has.
abbrev pub looks_of : Form → List Value → List (List ℕ) → List Look
looks_of form operands names = map (look_of names) (tests_of form operands 0)

-- an operation's shape: its binder's number, and what its tests look at
pub record Shape : Type 0 where
  pub binder : ℕ
  pub looks : List Look

-- whether two tests look at the same
abbrev pub same_look : Look → Look → Bool
same_look (AtKind a k) (AtKind b l) = a == b && same_kind k l
same_look (AtFun a f) (AtFun b g) = a == b && f == g
same_look (AtKey a s) (AtKey b t) = a == b && bytes_eq s t
same_look (AtLong a) (AtLong b) = a == b
same_look (AtNames ms) (AtNames ns) = pointwise bytes_eq ms ns
same_look _ _ = false

-- whether two shapes are the same
abbrev pub same_shape : Shape → Shape → Bool
same_shape one other = one.binder == other.binder && pointwise same_look one.looks other.looks
