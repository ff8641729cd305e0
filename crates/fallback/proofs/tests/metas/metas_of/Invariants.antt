-- The metaobjects so far are those of the operands before this one.
use Rattle.std.proofs.Common.{◌≡◌, ℕ, Some, length, slice_get}
use Rattle.std.specs.Option.{option_copied}
use Rattle.dyn_value.specs.declared.value.Value.{Value}
use Rattle.meta_object.specs.declared.meta.MetaObject.{MetaObject}
use Rattle.meta_object.specs.Metas.{IsMetaOf}
use Rattle.meta_object.specs.Operands.{lent_at}
use Rattle.fallback.proofs.tests.metas.metas_of.Given as goal

abbrev pub invariant-loop-place : goal.invariant-loop-place
invariant-loop-place l = record {
  count : length l.metas.items ≡ l.place;
  each : (i : ℕ) (m : MetaObject) (v : Value) → slice_get l.metas.items i ≡ Some m → slice_get l.operands i ≡ Some v
      → IsMetaOf i v (lent_at i (option_copied l.class)) m;
}
