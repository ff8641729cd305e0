-- The write of the tests, on an object of a class: what it is bound by.
use Rattle.std.proofs.Common.{◌≡◌, ℕ, zero, suc, List, [], ◌∷◌, slice_get, Option, None, Some, ap, refl, subst}
use Rattle.std.specs.Prelude.{IsTrue, IsSomeAnd, pos}
use Rattle.dyn_value.specs.declared.value.Kind.TheVariants as kind
use Rattle.dyn_value.specs.declared.value.Value.{Value}
use Rattle.dyn_value.specs.declared.value.Value.TheVariants as value
use Rattle.dyn_value.specs.Kinds.{kind_of}
use Rattle.expando_class.specs.declared.class.ClassRef.{ClassRef}
use Rattle.expando_class.specs.declared.pass.ClassPass.{ClassPass}
use Rattle.expando_class.specs.declared.table.ClassTable.{ClassTable}
use Rattle.expando_class.specs.Class.{IsClassOf, number_of}
use Rattle.expando_class.specs.Pass.{IsPassOf}
use Rattle.standard_binders.specs.declared.binder.Binder.TheVariants.{SetIndex}
use Rattle.rule_model.specs.Tests.{known_value}
use Rattle.meta_object.specs.declared.meta.MetaObject.{MetaObject}
use Rattle.meta_object.specs.Metas.{IsMetaOf, class_in_shape, is_callable, target_class}
use Rattle.meta_object.specs.Operands.{AreMetasOf, CanBeBound, IsLentFor, lent_at}
use Rattle.rule.specs.declared.claimed.Adopted.{Adopted}
use Rattle.rule.specs.declared.rule.Rule.{Rule}
use Rattle.rule.specs.Claimed.{IsAdopted}
use Rattle.rule.specs.Rules.{IsBoundRule, claim_of}
use Rattle.known_rules.specs.Bounds.{IsClaimedFor, IsClaimedOf}
use Rattle.known_rules.specs.Guarding.{IsAdoptedIn}
use Rattle.known_rules.specs.Writes.{write}

abbrev pub Is : Option ClassRef → ℕ → Value → MetaObject → Type 0
Is class i v m = IsMetaOf i v (lent_at i class) m

pub one_of : (class : Option ClassRef) (i : ℕ) (v w : Value) (m n : MetaObject) → Some m ≡ Some n → Some v ≡ Some w → Is class i v m → Is class i w n
one_of class i v w m n at_m at_w is =
    let one : m ≡ n = cc in let other : v ≡ w = cc in subst (λ (k : MetaObject). Is class i w k) one (subst (λ (x : Value). Is class i x m) other is)

three : (class : ClassRef) (key : Value) (a b c : MetaObject) → IsMetaOf 0 (value.Obj 0) (Some class) a → IsMetaOf 1 key None b
    → IsMetaOf 2 (value.Int (pos 7)) None c → (i : ℕ) (m : MetaObject) (w : Value) → slice_get (a ∷ b ∷ c ∷ []) i ≡ Some m
    → slice_get (write key) i ≡ Some w → IsMetaOf i w (lent_at i (Some class)) m
three class key a b c p q r zero m w at_m at_w = one_of (Some class) 0 (value.Obj 0) w a m at_m at_w p
three class key a b c p q r (suc zero) m w at_m at_w = one_of (Some class) 1 key w b m at_m at_w q
three class key a b c p q r (suc (suc zero)) m w at_m at_w = one_of (Some class) 2 (value.Int (pos 7)) w c m at_m at_w r
three class key a b c p q r (suc (suc (suc i))) m w at_m at_w = cc

pub write_metas : (class : ClassRef) (key : Value) (a b c : MetaObject) → IsMetaOf 0 (value.Obj 0) (Some class) a → IsMetaOf 1 key None b
    → IsMetaOf 2 (value.Int (pos 7)) None c → AreMetasOf (write key) (Some class) (a ∷ b ∷ c ∷ [])
write_metas class key a b c p q r = record { count = refl; each = three class key a b c p q r }

text_callable : (key : Value) → kind_of key ≡ kind.Text → IsTrue (is_callable [] (known_value key))
text_callable (value.Text t) is = refl
text_callable value.Nil is = cc
text_callable (value.Bool b) is = cc
text_callable (value.Int n) is = cc
text_callable (value.Fun f) is = cc
text_callable (value.Obj o) is = cc

pub callable_as : (v w : Value) → Some v ≡ Some w → IsTrue (is_callable [] (known_value v)) → IsTrue (is_callable [] (known_value w))
callable_as v w at is = let same : v ≡ w = cc in subst (λ (x : Value). IsTrue (is_callable [] (known_value x))) same is

-- none of the operands is a function
none_called : (key : Value) → kind_of key ≡ kind.Text → (i : ℕ) (w : Value) → slice_get (write key) i ≡ Some w
    → IsTrue (is_callable [] (known_value w))
none_called key is zero w at = callable_as (value.Obj 0) w at refl
none_called key is (suc zero) w at = callable_as key w at (text_callable key is)
none_called key is (suc (suc zero)) w at = callable_as (value.Int (pos 7)) w at refl
none_called key is (suc (suc (suc i))) w at = cc

pub write_lent : (key : Value) (class : ClassRef) → IsLentFor SetIndex (write key) (number_of class) (Some class)
write_lent key class = refl

pub write_bindable : (key : Value) (table : ClassTable) (pass : ClassPass) (class : ClassRef) → kind_of key ≡ kind.Text → IsPassOf table pass
    → IsClassOf table class → CanBeBound [] table pass SetIndex (write key) (Some class)
write_bindable key table pass class is own of = record { key = refl; suit = refl; own = own; of = of; callable = none_called key is }

target_is : (class : ClassRef) (key : Value) (metas : List MetaObject) → AreMetasOf (write key) (Some class) metas → target_class metas ≡ Some class
target_is class key [] are = absurd (cc)
target_is class key (m ∷ ms) are = ap class_in_shape (are.each 0 m (value.Obj 0) refl refl).shape_is

-- what binding gives is what is asked of a bound rule
pub write_adopted : (table : ClassTable) (pass : ClassPass) (class : ClassRef) (key : Value) (metas : List MetaObject) (r : Rule) (adopted : Adopted)
    → AreMetasOf (write key) (Some class) metas → IsBoundRule [] pass SetIndex metas r
    → (IsClaimedFor [] pass (Some class) (claim_of r) → IsAdopted [] table (claim_of r) adopted) → IsAdoptedIn SetIndex [] table r adopted
write_adopted table pass class key metas r adopted are bound adopts = (
  bound.binder_is,
  adopts (record {
    lists = λ d e. subst (λ (k : Option ClassRef). IsSomeAnd k (IsClaimedOf pass d)) (target_is class key metas are) (bound.holds.class d e);
    fun = bound.holds.fun;
  }),
)
