use Rattle.std.proofs.Common.{◌≡◌, refl, subst, arith}
use Rattle.rule_cells.specs.Cells.{index_of, rule_of}
use Rattle.binder_cache.specs.declared.rows.Publication.{Publication}
use Rattle.binder_cache.proofs.Learning.{more_of, learns_nothing, learns_one}
use Rattle.binder_cache.proofs.cache.Cache.learn_next.Goals as goal

pub returns-then-publication-pass-clause-learns : goal.returns-then-publication-pass-clause-learns
returns-then-publication-pass-clause-learns g c = learns_nothing (g.P.Adopt.admits c.args.adopt.now) c.args.pass.now _ refl refl refl (omega arith)

pub returns-in-Some-adopt-clause-pass : goal.returns-in-Some-adopt-clause-pass
returns-in-Some-adopt-clause-pass g c =
    more_of c.args.self.now.cells c.args.pass.now.rules.rows.items c.add_foreign.new.self.rules.rows.items c.in-Some.known c.add_foreign.ensures.rows c.requires.pass c.in-Some.ensures.known

pub returns-in-Some-adopt-clause-learns : goal.returns-in-Some-adopt-clause-learns
returns-in-Some-adopt-clause-learns g c = let known = c.in-Some.known in let note = c.in-Some-adopt.note in let at : index_of known ≡ c.args.pass.now.next_look = c.in-Some.ensures.index in let counts = c.add_foreign.ensures in
    learns_one (g.P.Adopt.admits c.args.adopt.now) c.args.pass.now c.add_foreign.new.self (index_of known) (rule_of known).rule note c.add_foreign.ensures.adds
    (subst (λ (z : Publication g.row.R.Denot). g.P.Adopt.admits c.args.adopt.now z.rule note) c.show-publication.ensures c.in-Some-adopt.ensures.admitted) (omega arith) (omega arith) counts.published counts.foreign

pub returns-in_default-adopt-clause-learns : goal.returns-in_default-adopt-clause-learns
returns-in_default-adopt-clause-learns g c = learns_nothing (g.P.Adopt.admits c.args.adopt.now) c.args.pass.now _ refl refl refl (omega arith)
