use Rattle.std.proofs.Common.{◌≡◌, vec_len, ℕ, ◌+◌, ◌<◌, ◌≤◌, ◌⊎◌, ⊎_elim, List, [], ◌∷◌, ◌++◌, length, take, get_or, slice_get, Some, None, sym, ◌∙◌, ap, arith}
use Rattle.std.proofs.lemmas.Option.{slice_get_within, get_or_from_slice_get, none-some, slice_get-get_or}
use Rattle.std.proofs.lemmas.List.{take_more, take_all}
use Rattle.rule_order.proofs.tests.listed.Goals as goal

one_more : (xs ys : List ℕ) (k x : ℕ) → ys ≡ take k xs → slice_get xs k ≡ Some x → ys ++ x ∷ [] ≡ take (k + 1) xs
one_more xs ys k x e h = ap (λ zs. zs ++ x ∷ []) e ∙ ap (λ z. take k xs ++ z ∷ []) (sym (get_or_from_slice_get xs k x 0 h)) ∙ sym (take_more xs k 0 (slice_get_within xs k x h))

whole : (xs ys : List ℕ) (k : ℕ) → ys ≡ take k xs → slice_get xs k ≡ None → ys ≡ xs
whole xs ys k e h = e ∙ take_all k xs (⊎_elim (λ (s : k < length xs). absurd (none-some (get_or xs k 0) (sym h ∙ slice_get-get_or xs k 0 s))) (λ (s : length xs ≤ k). s) (let c : (k < length xs) ⊎ (length xs ≤ k) = grind arith in c))

pub loop-at-preserved : goal.loop-at-preserved
loop-at-preserved c = let xs : List ℕ = c.args.order.now in let k : ℕ = vec_len c.loop-at.indexes in let x : ℕ = c.in-Some.index in
    let at : slice_get xs k ≡ Some x = sym c.loop-at.invariant.1 ∙ c.in-Some.is in let more : vec_len c.push.new.self ≡ k + 1 = c.in_ok-push.ensures.len in
    let near : k < length xs = slice_get_within xs k x at in (
      c.in_ok-push.ensures.items ∙ one_more xs c.loop-at.indexes.items k x c.loop-at.invariant.0 at ∙ ap (λ n. take n xs) (sym more),
      c.next-at.ensures.next k at ∙ ap (slice_get xs) (sym more),
      omega arith,
    )

pub returns : goal.returns
returns c = whole c.args.order.now c.loop-at.indexes.items (vec_len c.loop-at.indexes) c.loop-at.invariant.0 (sym c.loop-at.invariant.1 ∙ c.in_default.is)
