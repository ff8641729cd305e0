use Rattle.std.proofs.Common.{take}
use Rattle.task_compile.specs.Compiled.{AreArgs, AreSuffixes}
use Rattle.task_compile.proofs.expressions.+expression.Given as goal

abbrev pub invariant-compile_args-loop-arg : goal.invariant-compile_args-loop-arg
invariant-compile_args-loop-arg l = AreArgs l.scope.items l.scope.locals l.initial.site (take l.arg-index l.args) l.nodes l.site

abbrev pub invariant-compile_suffixes-loop-suffix : goal.invariant-compile_suffixes-loop-suffix
invariant-compile_suffixes-loop-suffix l = AreSuffixes l.scope.items l.scope.locals l.initial.site (take l.suffix-index l.suffixes) l.nodes l.site
