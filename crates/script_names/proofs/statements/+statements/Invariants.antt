use Rattle.std.proofs.Common.{◌≡◌, ◌++◌, map, take, drop}
use Rattle.std.specs.List.{flat_map}
use Rattle.script_names.specs.Statements.{statement, stmts_flags}
use Rattle.script_names.proofs.statements.+statements.Given as goal

-- what was judged, with the statements that are left, is all; the scope has grown at its end
abbrev pub invariant-judge_block-loop-stmt : goal.invariant-judge_block-loop-stmt
invariant-judge_block-loop-stmt l = record {
  flags : l.flags ++ stmts_flags (map (statement l.items) (drop l.stmt-index l.stmt-items)) l.scope ≡ l.initial.flags ++ stmts_flags (map (statement l.items) l.stmt-items) l.initial.scope;
  scope : l.scope ≡ l.initial.scope ++ flat_map (λ s. (statement l.items s).declares) (take l.stmt-index l.stmt-items);
}
