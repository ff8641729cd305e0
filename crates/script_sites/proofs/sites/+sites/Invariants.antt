use Rattle.std.proofs.Common.{◌≡◌, ◌++◌, take, map}
use Rattle.std.specs.List.{flat_map}
use Rattle.script_sites.specs.Calls.{checked}
use Rattle.script_sites.specs.Sites.{expr_sites, sites_of_suffix}
use Rattle.script_sites.proofs.sites.+sites.Given as goal

abbrev pub invariant-add_expr_sites-loop-suffix : goal.invariant-add_expr_sites-loop-suffix
invariant-add_expr_sites-loop-suffix l = l.sites ≡ l.initial.sites ++ map checked (flat_map sites_of_suffix (take l.suffix-index l.suffix-items))

abbrev pub invariant-add_argument_sites-loop-arg : goal.invariant-add_argument_sites-loop-arg
invariant-add_argument_sites-loop-arg l = l.sites ≡ l.initial.sites ++ map checked (flat_map (λ a. expr_sites a.value) (take l.arg-index l.args))
