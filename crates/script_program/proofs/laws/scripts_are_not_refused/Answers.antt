use Rattle.script_program.proofs.Causes.{not_refused}
use Rattle.script_program.proofs.laws.scripts_are_not_refused.Goals as goal

pub returns : goal.returns
returns c = not_refused
    (record { one_list = c.bytes_have_one_list_of_tokens.ensures; not_refused = c.tokens_are_not_refused.ensures })
    (record { one_tree = c.trees_have_distinct_spellings.ensures; no_place = c.scripts_have_no_syntax_place.ensures })
    c.limits_are_judged_in_order.ensures.none
