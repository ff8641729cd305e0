use Rattle.std.proofs.Common.{rules, subst}
use Rattle.script_sites.specs.declared.limits.What.TheVariants as what
use Rattle.script_sites.specs.Numbering.{IsNumbering}
use Rattle.script_sites.proofs.Judged.{arguments_above, binders_above, counted, locals_above, refused_for, sites_above, within_limits}
use Rattle.script_sites.proofs.site_numbering.number_sites.Goals as goal

pub returns-in_default-2-clause-refused : goal.returns-in_default-2-clause-refused
returns-in_default-2-clause-refused c = λ w.
    refused_for c.args.script.now what.Arguments w
    (arguments_above c.args.script.now c.as_slice.result.now c.in_default.ensures (search rules) (search rules) c.requires.distinct)

pub returns-then-not-have_few_locals-clause-refused : goal.returns-then-not-have_few_locals-clause-refused
returns-then-not-have_few_locals-clause-refused c = λ w.
    refused_for c.args.script.now what.Locals w (locals_above c.args.script.now c.in-Some-2.at_sites
    (counted c.args.script.now c.as_slice.result.now c.in-Some-2.at_sites c.in_default.ensures (search rules) (search rules)) (search rules))

pub returns-then-len-gt-MOST_SITES-clause-refused : goal.returns-then-len-gt-MOST_SITES-clause-refused
returns-then-len-gt-MOST_SITES-clause-refused c = λ w.
    refused_for c.args.script.now what.Sites w (sites_above c.args.script.now c.in-Some-2.at_sites
    (counted c.args.script.now c.as_slice.result.now c.in-Some-2.at_sites c.in_default.ensures (search rules) (search rules)) (search rules) (search rules))

pub returns-then-len-gt-MOST_BINDERS-clause-refused : goal.returns-then-len-gt-MOST_BINDERS-clause-refused
returns-then-len-gt-MOST_BINDERS-clause-refused c = λ w.
    refused_for c.args.script.now what.Binders w (binders_above c.args.script.now c.in-Some-2.at_sites c.in_ok-sites-2.field-0.sites c.in_ok-sites-2.field-0.binders
    (counted c.args.script.now c.as_slice.result.now c.in-Some-2.at_sites c.in_default.ensures (search rules) (search rules)) (search rules) (search rules) (search rules) (search rules))

pub returns-clause-numbering : goal.returns-clause-numbering
returns-clause-numbering c =
    let is = counted c.args.script.now c.as_slice.result.now c.in-Some-2.at_sites c.in_default.ensures (search rules) (search rules) in
    let numbering : IsNumbering c.in-Some-2.at_sites c.in_ok-sites-2.field-0.sites c.in_ok-sites-2.field-0.binders = search rules in
    subst (λ z. IsNumbering z c.in_ok-sites-2.field-0.sites c.in_ok-sites-2.field-0.binders) is.sites numbering

pub returns-clause-limits : goal.returns-clause-limits
returns-clause-limits c = within_limits c.args.script.now c.in-Some-2.at_sites c.in_ok-sites-2.field-0.sites c.in_ok-sites-2.field-0.binders
    (counted c.args.script.now c.as_slice.result.now c.in-Some-2.at_sites c.in_default.ensures (search rules) (search rules)) (search rules) (search rules) (search rules) (search rules)
