-- What is chosen is sound: what is suggested stays so where the pass knows more.
use Rattle.std.proofs.Common.{sym, subst, Option, Some}
use Rattle.meta_object.specs.declared.bound.Bound.{Bound}
use Rattle.meta_object.specs.Bindings.{IsSoundAnswer, IsSoundFor, IsSuggestion}
use Rattle.meta_object.proofs.Handing.{sound_still}
use Rattle.fallback.proofs.Fallbacks.{chosen_answer}
use Rattle.fallback.proofs.script.Script.fallback.Goals as goal

pub returns-in_ok-own-in-Some-clause-bound : goal.returns-in_ok-own-in-Some-clause-bound
returns-in_ok-own-in-Some-clause-bound g c =
    let functions = c.args.self.now.functions.params in
    let b = c.args.binder.now in
    let metas = c.args.metas.now in
    let old = c.args.cx.now.pass.now in
    let new = c.own_bound.new.cx.pass.now in
    let given : IsSoundFor functions old b metas c.in-Some.suggested = subst (λ (o : Option Bound). IsSuggestion functions old b metas o) c.in-Some.is c.requires.suggestion in
    subst (λ (o : Option Bound). IsSoundAnswer functions new b metas o c.answer.result) (sym c.in-Some.is)
    (subst (λ (k : Bound). IsSoundAnswer functions new b metas (Some c.in-Some.suggested) k) (sym c.answer.ensures)
    (chosen_answer functions new b metas c.in_ok-own-in-Some.own c.in-Some.suggested c.in_ok-own-in-Some.ensures.own
    (sound_still functions old new b metas c.in-Some.suggested c.in_ok-own-in-Some.ensures.context.keeps given)))
