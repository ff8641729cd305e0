use Rattle.script_program.proofs.Causes.{one_refusal}
use Rattle.script_program.proofs.laws.bytes_have_one_refusal.Goals as goal

pub returns : goal.returns
returns c = one_refusal
    (record { one_list = c.bytes_have_one_list_of_tokens.ensures; not_refused = c.tokens_are_not_refused.ensures })
    (record { one_tree = c.trees_have_distinct_spellings.ensures; no_place = c.scripts_have_no_syntax_place.ensures })
    (record { one_refusal = c.bytes_have_one_refusal.ensures; one_place = c.tokens_have_one_syntax_place.ensures; one_limit = c.limits_are_judged_in_order.ensures.one })
