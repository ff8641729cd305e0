use Rattle.std.proofs.Common.{◌≡◌, ℕ, List, [], ◌∷◌, length, refl, ap, ◌∙◌, ◌&&◌, arith}
use Rattle.std.specs.Cmp.Lexicographic.{pointwise}
use Rattle.std.specs.List.{list_all, zip}
use Rattle.std.specs.Str.{bytes_eq}
use Rattle.std.proofs.lemmas.Slice.Eq.{bytes_eq-Decides, slice_eq-Decides}
use Rattle.rule.proofs.claimed.are_same.Goals as goal

one_by_one : (xs ys : List (List ℕ)) → length xs ≡ length ys → list_all (λ (p : List ℕ × List ℕ). bytes_eq p.0 p.1) (zip xs ys) ≡ pointwise bytes_eq xs ys
one_by_one [] [] e = refl
one_by_one [] (y ∷ ys) e = absurd (omega arith)
one_by_one (x ∷ xs) [] e = absurd (omega arith)
one_by_one (x ∷ xs) (y ∷ ys) e = ap (λ b. bytes_eq x y && b) (one_by_one xs ys (omega arith))

pub returns-then-left-right : goal.returns-then-left-right
returns-then-left-right c =
    let left = c.args.left.now in
    let right = c.args.right.now in
    slice_eq-Decides bytes_eq-Decides left right c.all_same.result (c.all_same.ensures ∙ one_by_one left right c.if-left-right.true)
