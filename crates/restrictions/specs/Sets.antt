-- Lists of distinct restrictions.
use Rattle.std.specs.Prelude.{◌==◌, ◌≤◌, ◌&&◌, Bool, true, false, not, IsTrue, List, ◌++◌, length, nat_le}
use Rattle.std.specs.List.{IsDistinct, list_all, list_any, filter}
use Rattle.std.specs.Str.{bytes_eq}
use Rattle.dyn_value.specs.Kinds.{same_kind}
use Rattle.restrictions.specs.declared.restriction.Restriction.{Restriction}
use Rattle.restrictions.specs.declared.restriction.Restriction.TheVariants.{Kind, Fun, Key, LongKey, Class}

-- whether two restrictions are the same
abbrev pub is_same : Restriction → Restriction → Bool
is_same (Kind a k) (Kind b l) = a == b && same_kind k l
is_same (Fun a f) (Fun b g) = a == b && f == g
is_same (Key a s) (Key b t) = a == b && bytes_eq s t
is_same (LongKey a) (LongKey b) = a == b
is_same (Class c) (Class d) = c == d
is_same _ _ = false

-- whether a restriction stands in a list
abbrev pub is_in : Restriction → List Restriction → Bool
is_in r rs = list_any (λ x. is_same x r) rs

-- whether the operand that a restriction looks at is at most 16
abbrev pub operand_fits : Restriction → Bool
operand_fits (Kind a k) = nat_le a 16
operand_fits (Fun a f) = nat_le a 16
operand_fits (Key a t) = nat_le a 16
operand_fits (LongKey a) = nat_le a 16
operand_fits (Class c) = true

-- whether a restriction is one of an instance, and one of an expression
abbrev pub is_instance : Restriction → Bool
is_instance (Fun a f) = true
is_instance (Key a t) = true
is_instance _ = false

abbrev pub is_expression : Restriction → Bool
is_expression (LongKey a) = true
is_expression (Class c) = true
is_expression _ = false

-- at most 16 distinct restrictions
pub record IsSet (rs : List Restriction) : Type 0 where
  pub few : length rs ≤ 16
  pub distinct : IsDistinct is_same rs
  pub operands : IsTrue (list_all operand_fits rs)

-- the first list, followed by those of the second that are not in it
abbrev pub merged : List Restriction → List Restriction → List Restriction
merged first second = first ++ filter (λ r. not (is_in r first)) second
