use Rattle.std.proofs.Common.{rules, ◌≡◌, ap, ◌∙◌}
use Rattle.script_names.specs.Scripts.{first_bad}
use Rattle.script_names.proofs.ScriptAgreement.{bad_within, distinct_where_none}
use Rattle.script_names.proofs.scripts.first_bad_name.Goals as goal

pub returns-clause-within : goal.returns-clause-within
returns-clause-within c = let is : c.first_bad_of.result ≡ first_bad c.args.script.now = search rules in bad_within c.args.script.now c.first_bad_of.result is

pub returns-clause-distinct : goal.returns-clause-distinct
returns-clause-distinct c = let is : c.first_bad_of.result ≡ first_bad c.args.script.now = search rules in distinct_where_none c.args.script.now c.first_bad_of.result is
