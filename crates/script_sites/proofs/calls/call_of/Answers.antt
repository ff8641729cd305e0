use Rattle.std.proofs.Common.{◌∙◌, map, subst, sym, refl}
use Rattle.standard_binders.specs.Arguments.{AreArguments}
use Rattle.script_sites.specs.Sites.{argument, call_info}
use Rattle.script_sites.proofs.CallRules.{call_kept, call_made, false_from, names_few, same_call}
use Rattle.script_sites.proofs.calls.call_of.Goals as goal

pub returns-in-Ok-make : goal.returns-in-Ok-make
returns-in-Ok-make c =
    let same = same_call c.args.args.now c.in-Ok.count c.in_ok-names.names.items (c.in-Ok.ensures.1) c.in_ok-names.ensures in
    (c.in-Ok-make.ensures.info ∙ same, call_kept (call_info (map argument c.args.args.now)) (subst AreArguments same (c.in-Ok-make.ensures.made.0 refl)))

pub returns-in-Err : goal.returns-in-Err
returns-in-Err c =
    let same = same_call c.args.args.now c.in-Ok.count c.in_ok-names.names.items (c.in-Ok.ensures.1) c.in_ok-names.ensures in
    let info = call_info (map argument c.args.args.now) in
    false_from _ (λ h. let made = c.in-Err.ensures.made.1 (subst AreArguments (sym same) (call_made info (names_few c.args.args.now) h)) in cc)
