use Rattle.std.proofs.Common.{◌≡◌, ◌≤◌, List, true, length, subst, sym}
use Rattle.std.specs.List.{list_all}
use Rattle.standard_binders.specs.declared.binder.Binder.{Binder}
use Rattle.script_sites.specs.declared.limits.What.TheVariants as what
use Rattle.script_sites.specs.Sites.{site_binders}
use Rattle.script_program.specs.Names.{has_short_names}
use Rattle.script_program.specs.Programs.{binders_of, script_of, sites_of}
use Rattle.script_program.proofs.Numbers.{binders_short, few_binders}
use Rattle.script_program.proofs.program.Program.binders.Goals as goal

pub returns-clause-few : goal.returns-clause-few
returns-clause-few c =
    subst (λ (bs : List Binder). length bs ≤ 4096) (sym c.as_slice.ensures)
    (few_binders (site_binders (script_of c.args.self.now)) (sites_of c.args.self.now) (binders_of c.args.self.now) c.args.self.now.built.numbers (c.args.self.now.built.limits what.Sites))

pub returns-clause-short_names : goal.returns-clause-short_names
returns-clause-short_names c =
    subst (λ (bs : List Binder). list_all has_short_names bs ≡ true) (sym c.as_slice.ensures)
    (binders_short (site_binders (script_of c.args.self.now)) (sites_of c.args.self.now) (binders_of c.args.self.now) c.args.self.now.built.numbers c.args.self.now.built.short_names)
