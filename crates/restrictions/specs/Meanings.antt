-- When a restriction holds, of operands and the class number of a state.
use Rattle.std.specs.Prelude.{ℕ, ◌==◌, Bool, List, slice_get}
use Rattle.std.specs.List.{list_all}
use Rattle.dyn_value.specs.declared.value.Value.{Value}
use Rattle.dyn_value.specs.Kinds.{kind_of, same_kind}
use Rattle.expr_tree.specs.Meanings.{is_fun, is_text, is_long, passes_there}
use Rattle.restrictions.specs.declared.restriction.Restriction.{Restriction}
use Rattle.restrictions.specs.declared.restriction.Restriction.TheVariants.{Kind, Fun, Key, LongKey, Class}

-- whether a restriction holds: the operand is there and has the kind, is the function, is the text or is a text of
-- more than 64 bytes; the class has the number
abbrev pub holds : List Value → ℕ → Restriction → Bool
holds ops class (Kind a k) = passes_there (λ v. same_kind (kind_of v) k) (slice_get ops a)
holds ops class (Fun a f) = passes_there (is_fun f) (slice_get ops a)
holds ops class (Key a t) = passes_there (is_text t) (slice_get ops a)
holds ops class (LongKey a) = passes_there is_long (slice_get ops a)
holds ops class (Class c) = class == c

-- whether all of them hold
abbrev pub all_hold : List Restriction → List Value → ℕ → Bool
all_hold rs ops class = list_all (holds ops class) rs
