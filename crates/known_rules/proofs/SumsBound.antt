-- The sum of the tests: what it is bound by.
use Rattle.std.proofs.Common.{◌≡◌, ℕ, zero, suc, List, [], ◌∷◌, slice_get, Option, None, Some, ap, refl, subst}
use Rattle.std.specs.Prelude.{IsTrue, IsSomeAnd, pos}
use Rattle.dyn_value.specs.declared.value.Value.{Value}
use Rattle.dyn_value.specs.declared.value.Value.TheVariants as value
use Rattle.expando_class.specs.declared.class.ClassRef.{ClassRef}
use Rattle.expando_class.specs.declared.pass.ClassPass.{ClassPass}
use Rattle.expando_class.specs.declared.table.ClassTable.{ClassTable}
use Rattle.expando_class.specs.Pass.{IsPassOf}
use Rattle.rule_model.specs.Tests.{known_value}
use Rattle.meta_object.specs.declared.meta.MetaObject.{MetaObject}
use Rattle.meta_object.specs.Metas.{IsMetaOf, class_in_shape, is_callable, target_class}
use Rattle.meta_object.specs.Operands.{AreMetasOf, CanBeBound, IsLentFor, lent_at}
use Rattle.rule.specs.declared.claimed.Adopted.{Adopted}
use Rattle.rule.specs.declared.rule.Rule.{Rule}
use Rattle.rule.specs.Claimed.{IsAdopted}
use Rattle.rule.specs.Rules.{IsBoundRule, claim_of}
use Rattle.known_rules.specs.Bounds.{IsClaimedFor, IsClaimedOf}
use Rattle.known_rules.specs.Guarding.{IsAdoptedIn}
use Rattle.known_rules.specs.Sums.{addition, two_and_three}
use Rattle.known_rules.proofs.WritesBound.{callable_as, one_of}

two : (a b : MetaObject) → IsMetaOf 0 (value.Int (pos 2)) None a → IsMetaOf 1 (value.Int (pos 3)) None b
    → (i : ℕ) (m : MetaObject) (w : Value) → slice_get (a ∷ b ∷ []) i ≡ Some m → slice_get two_and_three i ≡ Some w → IsMetaOf i w (lent_at i None) m
two a b p q zero m w at_m at_w = one_of None 0 (value.Int (pos 2)) w a m at_m at_w p
two a b p q (suc zero) m w at_m at_w = one_of None 1 (value.Int (pos 3)) w b m at_m at_w q
two a b p q (suc (suc i)) m w at_m at_w = cc

pub sum_metas : (a b : MetaObject) → IsMetaOf 0 (value.Int (pos 2)) None a → IsMetaOf 1 (value.Int (pos 3)) None b
    → AreMetasOf two_and_three None (a ∷ b ∷ [])
sum_metas a b p q = record { count = refl; each = two a b p q }

-- neither operand is a function
none_called : (i : ℕ) (w : Value) → slice_get two_and_three i ≡ Some w → IsTrue (is_callable [] (known_value w))
none_called zero w at = callable_as (value.Int (pos 2)) w at refl
none_called (suc zero) w at = callable_as (value.Int (pos 3)) w at refl
none_called (suc (suc i)) w at = cc

pub sum_lent : IsLentFor addition two_and_three 0 None
sum_lent = refl

pub sum_bindable : (table : ClassTable) (pass : ClassPass) → IsPassOf table pass → CanBeBound [] table pass addition two_and_three None
sum_bindable table pass own = record { key = refl; suit = refl; own = own; of = tt; callable = none_called }

target_is : (metas : List MetaObject) → AreMetasOf two_and_three None metas → target_class metas ≡ None
target_is [] are = refl
target_is (m ∷ ms) are = ap class_in_shape (are.each 0 m (value.Int (pos 2)) refl refl).shape_is

-- what binding gives is what is asked of a bound rule
pub sum_adopted : (table : ClassTable) (pass : ClassPass) (metas : List MetaObject) (r : Rule) (adopted : Adopted)
    → AreMetasOf two_and_three None metas → IsBoundRule [] pass addition metas r
    → (IsClaimedFor [] pass None (claim_of r) → IsAdopted [] table (claim_of r) adopted) → IsAdoptedIn addition [] table r adopted
sum_adopted table pass metas r adopted are bound adopts = (
  bound.binder_is,
  adopts (record {
    lists = λ d e. subst (λ (k : Option ClassRef). IsSomeAnd k (IsClaimedOf pass d)) (target_is metas are) (bound.holds.class d e);
    fun = bound.holds.fun;
  }),
)
