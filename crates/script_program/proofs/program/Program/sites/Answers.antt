use Rattle.std.proofs.Common.{◌≤◌, ◌<◌, List, ℕ, length, subst, sym, ap, ◌∙◌}
use Rattle.std.specs.List.{All}
use Rattle.script_sites.specs.declared.limits.What.TheVariants as what
use Rattle.script_sites.specs.Numbering.{IsNumbering}
use Rattle.script_sites.specs.Sites.{site_binders}
use Rattle.script_program.specs.Programs.{binders_of, script_of, sites_of}
use Rattle.script_program.proofs.Numbers.{few_sites, numbers_within, sites_number}
use Rattle.script_program.proofs.program.Program.sites.Goals as goal

pub returns-clause-numbering : goal.returns-clause-numbering
returns-clause-numbering c =
    subst (λ (ns : List ℕ). IsNumbering (site_binders (script_of c.args.self.now)) ns (binders_of c.args.self.now)) (sym c.as_slice.ensures) c.args.self.now.built.numbers

pub returns-clause-count : goal.returns-clause-count
returns-clause-count c =
    ap length c.as_slice.ensures ∙ sites_number (site_binders (script_of c.args.self.now)) (sites_of c.args.self.now) (binders_of c.args.self.now) c.args.self.now.built.numbers

pub returns-clause-few : goal.returns-clause-few
returns-clause-few c =
    subst (λ (ns : List ℕ). length ns ≤ 4096) (sym c.as_slice.ensures)
    (few_sites (site_binders (script_of c.args.self.now)) (sites_of c.args.self.now) (binders_of c.args.self.now) c.args.self.now.built.numbers (c.args.self.now.built.limits what.Sites))

pub returns-clause-within : goal.returns-clause-within
returns-clause-within c =
    subst (λ (ns : List ℕ). All (λ n. n < length (binders_of c.args.self.now)) ns) (sym c.as_slice.ensures)
    (numbers_within (site_binders (script_of c.args.self.now)) (sites_of c.args.self.now) (binders_of c.args.self.now) c.args.self.now.built.numbers)
