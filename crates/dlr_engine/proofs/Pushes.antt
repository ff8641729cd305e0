-- Lists to which elements are added.
use Rattle.std.proofs.Common.{◌≡◌, List, [], ◌∷◌, ◌++◌, map, ap, refl}

-- one element more of those that are mapped
pub pushed : {A B : Type 0} (f : A → B) (front : List B) (xs : List A) (x : A) → (front ++ map f xs) ++ f x ∷ [] ≡ front ++ map f (xs ++ x ∷ [])
pushed f [] [] x = refl
pushed {A} {B} f [] (y ∷ ys) x = ap (λ (zs : List B). f y ∷ zs) (pushed f [] ys x)
pushed {A} {B} f (z ∷ zs) xs x = ap (λ (us : List B). z ∷ us) (pushed f zs xs x)
