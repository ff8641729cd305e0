-- That what known rules keep of themselves has at most one proof.
use Rattle.std.specs.Prelude.{◌≡◌, ◌==◌, ℕ, Bool, List, length, Option, None, Some, slice_get}
use Rattle.std.proofs.Props.{props}
use Rattle.expando_class.specs.declared.class.ClassRef.{ClassRef}
use Rattle.expando_class.specs.declared.table.ClassTable.{ClassTable}
use Rattle.expando_class.specs.Class.{number_of}
use Rattle.object_history.specs.RowProps.{class_prop}
use Rattle.standard_binders.specs.declared.binder.Binder.{Binder}
use Rattle.standard_binders.specs.Functions.{Functions}
use Rattle.rule_model.specs.declared.claim.Claim.{Claim}
use Rattle.rule_model.specs.declared.claim.ClassClaim.{ClassClaim}
use Rattle.rule_model.specs.Claims.{ClassHolds, FunHolds, IsPlaced, ListHolds, changed, class_after}
use Rattle.tree_eval.specs.States.{names_after}
use Rattle.binder_cache.specs.declared.pass.CachePass.{CachePass}
use Rattle.rule.specs.declared.claimed.Adopted.{Adopted}
use Rattle.rule.specs.declared.rule.Rule.{Rule}
use Rattle.rule.specs.Claimed.{IsAdopted, IsNamed, IsShown, class_named}
use Rattle.known_rules.specs.Adoptions.{IsOfCache, KnowsAdopted, Setting}

number_prop : (m n : ℕ) → IsProp (m ≡ n)
number_prop m n = Prim.hlevel props

bool_prop : (a b : Bool) → IsProp (a ≡ b)
bool_prop a b = Prim.hlevel props

names_prop : (a b : List (List ℕ)) → IsProp (a ≡ b)
names_prop a b = Prim.hlevel props

parameters_prop : (a b : Option (List (List ℕ))) → IsProp (a ≡ b)
parameters_prop a b = Prim.hlevel props

binder_prop : (a b : Binder) → IsProp (a ≡ b)
binder_prop a b = Prim.hlevel props

none_prop : (class : Option ClassRef) → IsProp (class ≡ None)
none_prop class = Prim.hlevel props

shown_prop : (table : ClassTable) (number : ℕ) (class : ClassRef) → IsProp (IsShown table number class)
shown_prop table number class = λ p q i. (
  class_prop table class p.0 q.0 i,
  number_prop (number_of class) number p.1 q.1 i,
)

-- a class that is named, or none
named_prop : (table : ClassTable) (number : Option ℕ) (class : Option ClassRef) → IsProp (IsNamed table number class)
named_prop table None class = none_prop class
named_prop table (Some number) None = Prim.hlevel props
named_prop table (Some number) (Some class) = shown_prop table number class

placed_prop : (names : List (List ℕ)) (name : List ℕ) (place : Option ℕ) → IsProp (IsPlaced names name place)
placed_prop names name (Some place) = Prim.hlevel props
placed_prop names name None = Prim.hlevel props

list_prop : (c : ClassClaim) (names more : List (List ℕ)) → IsProp (ListHolds c names more)
list_prop c names more = λ p q i. record {
  placed = placed_prop names c.name c.place p.placed q.placed i;
  full = bool_prop c.full (length names == 64) p.full q.full i;
  after = λ n e. names_prop more (changed names c.name c.place) (p.after n e) (q.after n e) i;
}

lists_prop : (claim : Claim) (names more : List (List ℕ)) → IsProp (ClassHolds claim names more)
lists_prop claim names more = λ p q i. record { lists = λ c e. list_prop c names more (p.lists c e) (q.lists c e) i }

fun_prop : (claim : Claim) (functions : Functions) → IsProp (FunHolds claim functions)
fun_prop claim functions = λ p q i. record {
  params = λ f e. parameters_prop (slice_get functions f.number) (Some f.params) (p.params f e) (q.params f e) i;
}

is_adopted_prop : (functions : Functions) (table : ClassTable) (claim : Claim) (adopted : Adopted)
    → IsProp (IsAdopted functions table claim adopted)
is_adopted_prop functions table claim adopted = λ p q i. record {
  class = named_prop table (class_named claim) adopted.class p.class q.class i;
  after = named_prop table (class_after claim) adopted.after p.after q.after i;
  lists = lists_prop claim (names_after adopted.class) (names_after adopted.after) p.lists q.lists i;
  fun = fun_prop claim functions p.fun q.fun i;
}

pub adopted_prop : (s : Setting) (pass : CachePass Rule Adopted) → IsProp (KnowsAdopted s pass)
adopted_prop s pass = λ p q i k d inside. (
  binder_prop _ s.binder (p k d inside).0 (q k d inside).0 i,
  is_adopted_prop s.functions s.table _ _ (p k d inside).1 (q k d inside).1 i,
)

pub own_prop : (s : Setting) (pass : CachePass Rule Adopted) → IsProp (IsOfCache s pass)
own_prop s pass = λ p q i k d inside. number_prop _ _ (p k d inside) (q k d inside) i
