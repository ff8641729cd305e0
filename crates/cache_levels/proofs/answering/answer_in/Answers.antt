use Rattle.std.proofs.Common.{ℕ, ap, ◌∙◌, subst, Option, List}
use Rattle.binder_cache.specs.Pass.{known_of}
use Rattle.binder_cache.specs.Known.{KnownRule, AddsFirst}
use Rattle.call_site.specs.declared.memo.Memo.{Memo}
use Rattle.call_site.specs.declared.choice.Level.{Level}
use Rattle.call_site.specs.declared.choice.Level.TheVariants.{Bind}
use Rattle.call_site.specs.Chosen.{Chooses, TriesInOrder}
use Rattle.call_site.specs.Passes.{target_of, ring_of, site_count}
use Rattle.cache_levels.proofs.LoneSteps.{picks, settled}
use Rattle.cache_levels.proofs.answering.answer_in.Goals as goal

pub returns-in-Some-clause-ends : goal.returns-in-Some-clause-ends
returns-in-Some-clause-ends g c = let T = g.O.Operation.tests in let P = g.O.Probe.accepts c.args.operation.now in
    let old = c.args.pass.now in let mid = c.select-choice.new.pass in let new = c.settle.new.pass in
    let known = known_of c.args.known.now in let known' = known_of c.select-choice.new.cache_pass in
    let level : Level = c.in-Some.level in let index : ℕ = c.select-choice.result.rule in let site : ℕ = c.args.site in let word : ℕ = c.word-word.result in
    let chose = c.select-choice.ensures in let same = chose.own.1 in record {
      word = word;
      answers = picks T P (g.O.Operation.shape c.args.operation.now) (target_of old site) (ring_of old site) known known' level word index
          (subst (λ (o : Option Level). Chooses P known known' o index) c.in-Some.is chose.chooses)
          (subst (λ (o : Option Level). TriesInOrder P (target_of old site) (ring_of old site) known o index) c.in-Some.is (chose.tries c.requires.one))
          c.word-word.ensures.word c.word-word.ensures.apart;
      settles = settled (site_count c.args.sites.now) site word level old.seat.me.0 mid.seat.me.0 new.seat.me.0 same (c.settle.ensures.settles (ap (λ (m : Memo). m.made) same ∙ c.requires.one));
    }

pub returns-in-Ok-At-clause-ends : goal.returns-in-Ok-At-clause-ends
returns-in-Ok-At-clause-ends g c = let P = g.O.Probe.accepts c.args.operation.now in
    let old = c.args.pass.now in let mid = c.select-choice.new.pass in let new = c.settle-in-Ok-At.new.pass in
    let known = known_of c.args.known.now in let known' = known_of c.publish.new.pass in let mid_known = known_of c.select-choice.new.cache_pass in
    let index : ℕ = c.in-Ok-At.index in let site : ℕ = c.args.site in let word : ℕ = c.word-word-in-Ok-At.result in
    let chose = c.select-choice.ensures in let same = chose.own.1 in record {
      word = word;
      answers = let none = subst (λ (o : Option Level). Chooses P known mid_known o c.select-choice.result.rule) c.in-None.is chose.chooses in
          let published = rw c.in-Ok-At.field-0-is at c.in-Ok-At.ensures.at in record {
            index = index;
            rule = c.in_ok-rule-in-None.rule;
            note = tt;
            tests = c.in_ok-rule-in-None.ensures;
            none = none.0;
            adds = subst (λ (l : List (KnownRule g.row.R.Denot (Unit {0}))). AddsFirst l known' index c.in_ok-rule-in-None.rule tt) none.2 published.adds;
            word_is = c.word-word-in-Ok-At.ensures.word;
            word_named = c.word-word-in-Ok-At.ensures.named;
            apart = c.word-word-in-Ok-At.ensures.apart;
          };
      settles = settled (site_count c.args.sites.now) site word Bind old.seat.me.0 mid.seat.me.0 new.seat.me.0 same (c.settle-in-Ok-At.ensures.settles (ap (λ (m : Memo). m.made) same ∙ c.requires.one));
    }
