-- Where rules are known, and that all of them are adopted there.
use Rattle.std.specs.Prelude.{List, All}
use Rattle.expando_class.specs.declared.table.ClassTable.{ClassTable}
use Rattle.standard_binders.specs.declared.binder.Binder.{Binder}
use Rattle.standard_binders.specs.Functions.{Functions}
use Rattle.binder_cache.specs.declared.cache.Cache.{Cache}
use Rattle.binder_cache.specs.declared.pass.CachePass.{CachePass}
use Rattle.binder_cache.specs.Known.{KnownRule}
use Rattle.binder_cache.specs.Pass.{IsPassOf, known_of}
use Rattle.rule.specs.declared.claimed.Adopted.{Adopted}
use Rattle.rule.specs.declared.rule.Rule.{Rule}
use Rattle.known_rules.specs.Guarding.{IsAdoptedIn}
use Rattle.known_rules.specs.declared.snapshots.Snapshots.{Snapshots}

-- where rules are known: the cache that holds them, their binder, and the functions and the table by which they claim
pub record Setting : Type 0 where
  pub cache : Cache Rule
  pub binder : Binder
  pub functions : Functions
  pub table : ClassTable

abbrev pub setting : Cache Rule → Binder → Functions → ClassTable → Setting
setting cache b functions table = record { cache = cache; binder = b; functions = functions; table = table }

abbrev pub setting_in : Snapshots → Setting
setting_in s = setting s.cache.value s.binder.value s.funs.value.params s.table.value

-- each of these rules is adopted, with the classes of its note
abbrev pub AreAdopted : Setting → List (KnownRule Rule Adopted) → Type 0
AreAdopted s rules = All (λ k. IsAdoptedIn s.binder s.functions s.table k.rule k.note) rules

-- the pass is one of the cache
abbrev pub IsOfCache : Setting → CachePass Rule Adopted → Type 0
IsOfCache s pass = IsPassOf s.cache pass

-- each rule that a pass knows is adopted
abbrev pub KnowsAdopted : Setting → CachePass Rule Adopted → Type 0
KnowsAdopted s pass = AreAdopted s (known_of pass)
