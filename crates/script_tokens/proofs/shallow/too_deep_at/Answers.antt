use Rattle.script_tokens.proofs.Depths.{opened_more, deep_here, all_shallow}
use Rattle.script_tokens.proofs.shallow.too_deep_at.Goals as goal

pub returns-in-None : goal.returns-in-None
returns-in-None c =
    deep_here c.args.tokens.now c.loop-number.number c.loop-number.open_brackets c.index-tokens-number.result c.loop-number.invariant c.loop-number-test.true
    c.index-tokens-number.is c.in-None.ensures

pub loop-number-preserved : goal.loop-number-preserved
loop-number-preserved c =
    opened_more c.args.tokens.now c.loop-number.number c.loop-number.open_brackets c.in-Some.brackets c.index-tokens-number.result c.loop-number.invariant
    c.loop-number-test.true c.index-tokens-number.is c.in-Some.ensures

pub returns : goal.returns
returns c = all_shallow c.args.tokens.now c.loop-number.number c.loop-number.open_brackets c.loop-number.invariant c.loop-number-test.false
