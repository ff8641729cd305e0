use Rattle.std.proofs.Common.{◌≡◌, ◌++◌, take, map}
use Rattle.std.specs.List.{flat_map}
use Rattle.script_sites.specs.Calls.{checked}
use Rattle.script_sites.specs.Sites.{stmt_sites}
use Rattle.script_sites.proofs.statements.+statement_sites.Given as goal

abbrev pub invariant-add_block_sites-loop-stmt : goal.invariant-add_block_sites-loop-stmt
invariant-add_block_sites-loop-stmt l = l.sites ≡ l.initial.sites ++ map checked (flat_map stmt_sites (take l.stmt-index l.stmt-items))
