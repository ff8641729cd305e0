use Rattle.std.proofs.Common.{◌≡◌, ◌+◌, ◌<◌, List, get_or, length, sym, subst, arith, rules}
use Rattle.known_rules.specs.declared.known.KnownRules.{KnownRules}
use Rattle.dlr_engine.specs.Knowing.{KnowsNone}
use Rattle.dlr_engine.proofs.Settings.{KnowsFirst, all_first, first_more, none_more}
use Rattle.dlr_engine.proofs.starting.none_known.Goals as goal

pub loop-number-preserved : goal.loop-number-preserved
loop-number-preserved c =
    let inv = c.loop-number.invariant in let n = c.loop-number.number in
    let caches = c.args.caches.now in let binders = c.args.binders.now in
    let cache = c.index-caches-number.result in let b = c.index-binders-number.result in
    let within : n < length binders = omega (arith, c.loop-number-test.true, c.loop-number.auto) in
    let inside : n < length caches = omega (arith, within, c.requires) in
    let cache_is : cache ≡ get_or caches n cache = search rules in
    let binder_is : b ≡ get_or binders n b = search rules in (
      omega (arith, inv.0, c.in_ok-push.ensures.len),
      subst (λ (ks : List KnownRules). KnowsFirst caches binders c.args.funs.now.params c.args.table.now ks (n + 1)) (sym c.in_ok-push.ensures.items)
          (first_more caches binders c.args.funs.now.params c.args.table.now c.loop-number.known.items c.in_ok-none.none cache cache b b n inv.0 inside within
          cache_is binder_is c.in_ok-none.ensures.setting inv.1),
      subst KnowsNone (sym c.in_ok-push.ensures.items) (none_more c.loop-number.known.items c.in_ok-none.none c.in_ok-none.ensures.rules c.in_ok-none.ensures.published inv.2),
    )

pub returns-clause-each : goal.returns-clause-each
returns-clause-each c =
    let inv = c.loop-number.invariant in
    all_first c.args.caches.now c.args.binders.now c.args.funs.now.params c.args.table.now c.loop-number.known.items c.loop-number.number c.requires inv.0
    (omega (arith, c.loop-number-test.false, c.loop-number.auto)) inv.1
