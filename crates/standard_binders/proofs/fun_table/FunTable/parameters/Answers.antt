use Rattle.std.proofs.Common.{[], ap, ◌∙◌}
use Rattle.std.specs.Prelude.{unwrap_or}
use Rattle.std.proofs.lemmas.Option.{unwrap_or-slice_get}
use Rattle.standard_binders.proofs.fun_table.FunTable.parameters.Goals as goal

pub returns-in-None-clause-parameters : goal.returns-in-None-clause-parameters
returns-in-None-clause-parameters c = ap (λ o. unwrap_or o []) c.in-None.ensures.value ∙ unwrap_or-slice_get c.args.self.now.params c.args.number []
