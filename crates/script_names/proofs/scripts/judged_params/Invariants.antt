use Rattle.std.proofs.Common.{◌≡◌, ◌++◌, [], take, drop}
use Rattle.script_names.specs.Names.{row, row_after}
use Rattle.script_names.specs.Scripts.{params_flags}
use Rattle.script_names.proofs.scripts.judged_params.Given as goal

-- what was judged, with the parameters that are left, is all; those judged are in scope
abbrev pub invariant-loop-param : goal.invariant-loop-param
invariant-loop-param l = record {
  flags : l.flags ++ row_after l.comma (params_flags l.items l.scope (drop l.param-index l.params)) ≡ l.initial.flags ++ row (params_flags l.items [] l.params);
  scope : l.scope ≡ take l.param-index l.params;
}
