-- Where the operation looks at no object, the row is the language's own.
use Rattle.std.proofs.Common.{◌≡◌, rules, None}
use Rattle.fallback.specs.Answers.{object_class as class_in}
use Rattle.fallback.proofs.KnownMetas.{known_from}
use Rattle.fallback.proofs.ObjectBounds.{row_own, shows_none}
use Rattle.fallback.proofs.own.own_bound.Goals as goal

pub row_bound-requires-clause-known : goal.row_bound-requires-clause-known
row_bound-requires-clause-known g c =
    let none : class_in c.args.binder.now c.args.metas.now ≡ None = search rules in
    known_from c.args.functions.now.params c.args.cx.now.table.now c.args.cx.now.pass.now c.args.binder.now c.args.metas.now c.requires.can (shows_none c.args.binder.now c.args.metas.now none)

pub returns-in_ok-own-in-None-clause-own : goal.returns-in_ok-own-in-None-clause-own
returns-in_ok-own-in-None-clause-own g c =
    let none : class_in c.args.binder.now c.args.metas.now ≡ None = search rules in
    row_own c.args.functions.now.params c.args.cx.now.table.now c.args.cx.now.pass.now c.args.binder.now c.args.metas.now c.in_ok-own-in-None.own c.requires.can none
    c.in_ok-own-in-None.ensures.tests c.in_ok-own-in-None.ensures.body c.in_ok-own-in-None.ensures.claim
