use Rattle.std.proofs.Common.{◌∙◌, ap, sym, subst, rules}
use lib.ListN.{get_elem?}
use mathlib.Core.Option.{some}
use Rattle.atomic_table.proofs.Lists.{at_index}
use Rattle.turn_rows.specs.Rule.{meaning}
use Rattle.turn_rows.specs.Passes.{IsNew, IsFresh}
use Rattle.turn_rows.proofs.Lists.{all_at}
use Rattle.turn_rows.proofs.Ends.{starts, begins_fresh}
use Rattle.turn_rows.proofs.passes.Rows+S.new.Goals as goal

pub new-requires : goal.new-requires
new-requires g c = let held = g.S.Held in let states = c.args.states.items in let words = c.in_ok-words.ensures in
    starts (meaning held.entries held.by held.turns held.tag held.mark) c.from.result c.args.shared c.len-count.result c.of-2.result.value.items states c.as_slice.result.now c.in_ok-words.words.items c.of.result.value (ap (λ z. z.items) c.of-2.ensures) c.as_slice.ensures.value c.from.ensures (search rules)
    (at_index states 0 c.index.result.now c.requires.some c.index.ensures ∙ ap some (sym c.of.ensures)) c.requires.rows c.requires.shared words.wide words.zeros words.last c.requires.new c.requires.tag

pub returns-clause-fresh : goal.returns-clause-fresh
returns-clause-fresh g c = let held = g.S.Held in let m = meaning held.entries held.by held.turns held.tag held.mark in
    subst (IsFresh m) (sym (ap (λ z. z.0.own) c.in-Ok.ensures.ok.4)) (begins_fresh m c.of-2.result.value.items 0 1 (λ i y e. let new = all_at (IsNew m) c.args.states.items i y c.requires.new (ap (λ z. get_elem? z.items i) (sym c.of-2.ensures) ∙ e) in (new.0, new.2)))

pub returns-clause-tag : goal.returns-clause-tag
returns-clause-tag g c k d l = c.requires.tag c.index.result.now k d l ∙ ap g.S.Held.tag (sym c.index.ensures ∙ (sym c.of.ensures ∙ sym (ap (λ z. z.one.value) c.in-Ok.ensures.ok.5)))
