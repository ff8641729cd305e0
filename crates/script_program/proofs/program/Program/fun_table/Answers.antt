use Rattle.std.proofs.Common.{map, sym, ap, ◌∙◌, subst}
use Rattle.standard_binders.specs.Functions.{HaveFewParameters}
use Rattle.script_sites.specs.declared.limits.What.TheVariants as what
use Rattle.script_program.specs.Programs.{params_of, script_of}
use Rattle.script_program.proofs.Numbers.{params_few}
use Rattle.script_program.proofs.program.Program.fun_table.Goals as goal

pub returns-clause-few : goal.returns-clause-few
returns-clause-few c =
    subst HaveFewParameters (sym (c.in_ok-params.ensures ∙ ap (map params_of) c.functions.ensures.functions))
    (params_few (script_of c.args.self.now).functions (c.args.self.now.built.limits what.Parameters))
