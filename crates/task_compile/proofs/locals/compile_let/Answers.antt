use Rattle.std.proofs.Common.{subst, sym}
use Rattle.script_grammar.specs.declared.tree.Stmt.TheVariants.{Let}
use Rattle.task_code.specs.declared.code.Step.TheVariants.{Set}
use Rattle.task_compile.specs.CompiledBlocks.{IsStep}
use Rattle.task_compile.proofs.StatementForms.{is_let}
use Rattle.task_compile.proofs.locals.compile_let.Goals as goal

pub returns-clause-code : goal.returns-clause-code
returns-clause-code c =
    subst (λ z. IsStep c.args.scope.now.items c.args.scope.now.locals c.args.site.now (Let c.args.name.now c.args.value.now) (Set z c.in_ok-value.value)) (sym c.in_ok-local.ensures.number)
    (is_let c.args.scope.now.items c.args.scope.now.locals c.args.site.now c.args.name.now c.args.value.now c.in_ok-value.value c.in_ok-value.ensures.code)
