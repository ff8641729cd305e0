-- The rules that a pass knows, as a list.
use Rattle.std.specs.Prelude.{List}
use Rattle.binder_cache.specs.declared.rows.KnownRules.{KnownRules}
use Rattle.binder_cache.specs.Row.{in_order}
use Rattle.binder_cache.specs.Known.{KnownRule}

-- the known rules, most recent first
abbrev pub rules_in : {R A : Type 0} → KnownRules R A → List (KnownRule R A)
rules_in rules = in_order rules.rows.items rules.order
