use Rattle.std.proofs.Common.{◌≡◌, ◌+◌, ◌<◌, List, [], ◌∷◌, ◌++◌, length, drop, ap, sym, subst, ◌∙◌, append_assoc, arith}
use Rattle.dyn_value.specs.declared.value.Value.{Value}
use Rattle.task_code.specs.Acts.{placed}
use Rattle.task_walk.specs.Tales.{AreProper, IsProperValue}
use Rattle.task_walk.proofs.Placing.{placed_next, all_taken, all_left}
use Rattle.task_walk.proofs.Puts.{all_push}
use Rattle.task_walk.proofs.arguments.place_values.Goals as goal

pub loop-place-preserved : goal.loop-place-preserved
loop-place-preserved c =
    let i = c.loop-place.place in
    let params = c.args.params.now in
    let names = c.args.names.now in
    let front = c.split_at.result.0.now in
    let back = c.split_at.result.1.now in
    let v = c.in_ok-value.value in
    let less : i < length params = omega arith in
    let rest : List Value = placed (drop (i + 1) params) names (drop (i + 1) front) back in
    let next : placed (drop i params) names (drop i front) back ≡ v ∷ rest =
    placed_next params names front back i c.index-params-place.result less c.index-params-place.is ∙ ap (λ (x : Value). x ∷ rest)
    (sym c.in_ok-value.ensures.value) in
    record {
      values = ap (λ (xs : List Value). xs ++ rest) c.in_ok-push.ensures.ok ∙ append_assoc c.loop-place.values (v ∷ []) rest
          ∙ ap (λ (ys : List Value). c.loop-place.values ++ ys) (sym next) ∙ c.loop-place.invariant.values;
      proper = λ by had.
          subst (AreProper by) (sym c.in_ok-push.ensures.ok) (all_push (IsProperValue by) c.loop-place.values v (c.loop-place.invariant.proper by had)
          (c.in_ok-value.ensures.proper by (subst (AreProper by) (sym c.split_at.ensures.front) (all_taken (IsProperValue by) _ c.args.args.now had))
          (subst (AreProper by) (sym c.split_at.ensures.back) (all_left (IsProperValue by) _ c.args.args.now had))));
    }
