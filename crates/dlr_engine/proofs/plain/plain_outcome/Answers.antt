use Rattle.std.proofs.Common.{◌≡◌, ℕ, Bool, List, Option}
use Rattle.std.specs.Prelude.{IfNone, IfSome}
use Rattle.binder_cache.specs.Known.{BringsFirst}
use Rattle.dyn_value.specs.declared.value.Value.{Value}
use Rattle.known_rules.specs.Guarding.{Passes}
use Rattle.known_rules.specs.Knowledge.{rules_in}
use Rattle.dlr_engine.specs.Knowing.{ComesToKnow, KnownList}
use Rattle.dlr_engine.proofs.Permuting.{comes_after, searched}
use Rattle.dlr_engine.proofs.plain.plain_outcome.Goals as goal

-- first one was looked for on these operands, and then chosen
chosen_among : (others : Bool) (operands : List Value) (old found new : KnownList) (r : Option ℕ) → IfNone r (found ≡ old)
    → IfSome r (BringsFirst (Passes operands 0) old found) → ComesToKnow others found new → ComesToKnow others old new
chosen_among others operands old found new r same brings among =
    comes_after others old found new (searched (Passes operands 0) old found r same brings) among

pub returns-in_err-outcome-in-Some-clause-among : goal.returns-in_err-outcome-in-Some-clause-among
returns-in_err-outcome-in-Some-clause-among g c =
    chosen_among c.args.has_others c.args.operands.now (rules_in c.args.known.now) (rules_in c.find-rule.new.self) (rules_in c.choose.new.known)
    c.find-rule.result c.find-rule.ensures.same c.find-rule.ensures.found c.choose.ensures.among

pub returns-in_ok-outcome-in-Some-clause-among : goal.returns-in_ok-outcome-in-Some-clause-among
returns-in_ok-outcome-in-Some-clause-among g c =
    chosen_among c.args.has_others c.args.operands.now (rules_in c.args.known.now) (rules_in c.find-rule.new.self) (rules_in c.choose.new.known)
    c.find-rule.result c.find-rule.ensures.same c.find-rule.ensures.found c.choose.ensures.among

pub returns-in-None-clause-among : goal.returns-in-None-clause-among
returns-in-None-clause-among g c =
    chosen_among c.args.has_others c.args.operands.now (rules_in c.args.known.now) (rules_in c.find-rule.new.self) (rules_in c.choose.new.known)
    c.find-rule.result c.find-rule.ensures.same c.find-rule.ensures.found c.choose.ensures.among
