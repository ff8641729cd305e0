use Rattle.std.proofs.Common.{◌∙◌, sym, ap}
use Rattle.std.specs.List.{filter_map}
use Rattle.std.proofs.lemmas.List.{take_all}
use Rattle.script_sites.proofs.ArgumentSites.{name_of, names_are}
use Rattle.script_sites.proofs.calls.argument_names.Goals as goal

pub returns : goal.returns
returns c = c.loop-arg.invariant ∙ ap (filter_map name_of) (take_all c.loop-arg.arg-index c.args.args.now c.loop-arg-test.false) ∙ sym (names_are c.args.args.now)
