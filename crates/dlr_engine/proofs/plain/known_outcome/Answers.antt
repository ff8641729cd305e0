use Rattle.std.proofs.Common.{◌≡◌, ◌∙◌, ap}
use Rattle.object_model.specs.Plain.{plain_step}
use Rattle.standard_binders.specs.declared.binder.Binder.{Binder}
use Rattle.standard_binders.specs.Functions.{Functions}
use Rattle.known_rules.specs.Knowledge.{setting_of}
use Rattle.dlr_engine.proofs.PlainAnswers.{is_plain_outcome}
use Rattle.dlr_engine.proofs.plain.known_outcome.Goals as goal

pub returns : goal.returns
returns g c =
    let functions = g.L.Language.functions c.args.lang.now in let b = c.args.binder.now in let operands = c.args.operands.now in
    let is : c.in_ok-outcome.outcome ≡ plain_step functions b operands =
    c.in_ok-outcome.ensures
    ∙ ap (λ (fs : Functions). plain_step fs (setting_of c.args.known.now).binder operands) c.requires.functions
    ∙ ap (λ (x : Binder). plain_step functions x operands) c.requires.binder in
    record {
      outcome = is_plain_outcome functions c.requires.proper.0 b operands c.in_ok-outcome.outcome c.requires.short_names c.requires.proper.1 is
          c.show_proper_content.ensures;
    }
