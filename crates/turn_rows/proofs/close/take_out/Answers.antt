use Rattle.std.proofs.Common.{arith, ◌<◌, ◌+◌, ℕ, ◌∷◌, ◌++◌, [], false, length, get_or, set, take, sym, ap, ◌∙◌, get_or-set_other, get_or-set_same}
use mathlib.Core.Logic.{dite}
use native.Mathlib.Decide.{ℕ_discrete}
use Rattle.std.specs.Slots.{slots_items, slots_filled, slots_counts}
use Rattle.turn_rows.proofs.Lists.{take_at_place}
use Rattle.turn_rows.proofs.close.take_out.Goals as goal

pub loop-row-preserved : goal.loop-row-preserved
loop-row-preserved g c = let inv = c.loop-row.invariant in let row : ℕ = c.loop-row.row in let others = c.take.ensures.others in let items = slots_items c.loop-row.closed.slots in let full = slots_filled c.loop-row.closed.slots in
    let long = (slots_counts c.loop-row.closed.slots).1 in let near : row < length full = (let l = c.loop-row-test.true in let n = c.requires.count in let s = inv.2 in omega arith) in (
      c.push_reserved.ensures.items ∙ (ap (λ z. z ++ c.take.result ∷ []) inv.0 ∙ (sym (take_at_place items row c.take.result c.take.ensures.value) ∙ ap (take (row + 1)) (sym others.0))),
      others.0 ∙ inv.1,
      others.2 ∙ inv.2,
      λ k lo hi. ap (λ z. get_or z k false) others.1 ∙ (get_or-set_other full row k false false (let l = lo in omega arith) ∙ inv.3 k (omega arith) (let e = others.2 in omega arith)),
      λ k l. ap (λ z. get_or z k false) others.1 ∙ dite (ℕ_discrete k row) (λ e. ap (λ z. get_or (set full row false) z false) e ∙ get_or-set_same full row false false near) (λ n. get_or-set_other full row k false false n ∙ inv.4 k (omega arith)),
      (let cap = c.push_reserved.ensures.capacity in let r = inv.5 in omega arith),
    )
