use Rattle.std.proofs.Common.{[], ◌∷◌, ◌++◌, map, sym, ap, ◌∙◌}
use Rattle.std.specs.List.{flat_map}
use Rattle.standard_binders.specs.declared.binder.Binder.TheVariants as binder
use Rattle.script_sites.specs.Calls.{checked}
use Rattle.script_sites.specs.Sites.{argument, argument_sites, call_info, expr_sites, sites_of_head, sites_of_suffix}
use Rattle.script_sites.proofs.ArgumentSites.{sites_are}
use Rattle.script_sites.proofs.Rows.{added_after, added_one, added_rows, loop_end}
use Rattle.script_sites.proofs.SiteEquations.{conversion, creation, expression}
use Rattle.script_sites.proofs.sites.+sites.Goals as goal

pub add_argument_sites-returns : goal.add_argument_sites-returns
add_argument_sites-returns t c =
    loop_end (λ z. map checked (flat_map (λ a. expr_sites a.value) z)) c.args.args.now c.loop-arg.arg-index c.args.sites.now c.loop-arg.sites
    (map checked (argument_sites (map argument c.args.args.now))) c.loop-arg-test.false c.loop-arg.invariant (ap (map checked) (sym (sites_are c.args.args.now)))

pub add_expr_sites-returns : goal.add_expr_sites-returns
add_expr_sites-returns t c =
    let suffixes = loop_end (λ z. map checked (flat_map sites_of_suffix z)) c.as_slice-suffix-items.result.now c.loop-suffix.suffix-index c.add_head_sites.new.sites c.loop-suffix.sites
    (map checked (flat_map sites_of_suffix c.args.expr.now.suffixes)) c.loop-suffix-test.false c.loop-suffix.invariant (ap (λ z. map checked (flat_map sites_of_suffix z)) c.as_slice-suffix-items.ensures) in
    added_rows checked (sites_of_head c.args.expr.now.head) (flat_map sites_of_suffix c.args.expr.now.suffixes) (expr_sites c.args.expr.now)
    c.args.sites.now c.add_head_sites.new.sites c.loop-suffix.sites c.in_ok-add_head_sites.ensures suffixes (expression c.args.expr.now)

pub add_head_sites-returns-in_ok-add_argument_sites-in-NewOf : goal.add_head_sites-returns-in_ok-add_argument_sites-in-NewOf
add_head_sites-returns-in_ok-add_argument_sites-in-NewOf t c =
    let args = c.in-NewOf.args in
    let call = binder.CreateInstance (call_info (map argument args)) in
    let first = c.in_ok-push-in-NewOf.ensures.ok
    ∙ ap (λ z. c.args.sites.now ++ z ∷ []) (c.in_ok-create_instance-in-NewOf.ensures ∙ ap (λ z. checked (binder.CreateInstance (call_info (map argument z)))) c.as_slice.ensures) in
    let second = c.in_ok-add_expr_sites-in-NewOf.ensures ∙ ap (λ z. c.push-in-NewOf.new.self ++ map checked (expr_sites z)) c.get-in-NewOf.ensures in
    let third = c.in_ok-add_argument_sites-in-NewOf.ensures ∙ ap (λ z. c.add_expr_sites-in-NewOf.new.sites ++ map checked (argument_sites (map argument z))) c.as_slice-in-NewOf.ensures in
    added_after checked call (expr_sites c.in-NewOf.target) (argument_sites (map argument args)) (sites_of_head c.args.head.now)
    c.args.sites.now c.push-in-NewOf.new.self c.add_expr_sites-in-NewOf.new.sites c.add_argument_sites.new.sites first second third
    (ap sites_of_head c.in-NewOf.is ∙ creation c.in-NewOf.target args)

pub add_head_sites-returns-in_ok-add_expr_sites-in-Convert : goal.add_head_sites-returns-in_ok-add_expr_sites-in-Convert
add_head_sites-returns-in_ok-add_expr_sites-in-Convert t c =
    added_one checked (binder.Convert c.in-Convert.to) (expr_sites c.in-Convert.value) (sites_of_head c.args.head.now) c.args.sites.now c.push-in-Convert.new.self c.add_expr_sites-in-Convert.new.sites
    c.in_ok-push-in-Convert.ensures.ok
    (c.in_ok-add_expr_sites-in-Convert.ensures ∙ ap (λ z. c.push-in-Convert.new.self ++ map checked (expr_sites z)) c.get-in-Convert.ensures)
    (ap sites_of_head c.in-Convert.is ∙ conversion c.in-Convert.to c.in-Convert.value)
