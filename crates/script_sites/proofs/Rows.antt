-- Rows that grow at their ends.
use Rattle.std.proofs.Common.{◌≡◌, ◌≤◌, ℕ, List, [], ◌∷◌, ◌++◌, length, map, take, Result, ap, ◌∙◌, append_assoc}
use Rattle.std.specs.Prelude.{Ok, Err, OnOk}
use Rattle.std.proofs.lemmas.List.{take_all, map-append}

-- what follows at Ok from what holds there
pub on_ok : {A E P Q : Type 0} (r : Result A E) → (P → Q) → OnOk r P → OnOk r Q
on_ok (Ok a) f p = f p
on_ok (Err e) f p = p

-- a loop over a row has come to its end
pub loop_end : {A B : Type 0} (f : List A → List B) (xs : List A) (i : ℕ) (before now target : List B) → length xs ≤ i → now ≡ before ++ f (take i xs) → f xs ≡ target → now ≡ before ++ target
loop_end f xs i before now target past so_far is = so_far ∙ ap (λ z. before ++ f z) (take_all i xs past) ∙ ap (λ z. before ++ z) is

-- one and a row were added, and then another row
pub added_after : {A B : Type 0} (f : A → B) (b : A) (xs ys whole : List A) (old first second third : List B) → first ≡ old ++ f b ∷ [] → second ≡ first ++ map f xs → third ≡ second ++ map f ys → whole ≡ b ∷ xs ++ ys → third ≡ old ++ map f whole
added_after f b xs ys whole old first second third p q r is = simp (r, q, p, is, append_assoc, map-append)

-- a row was added, and then another
pub added_rows : {A B : Type 0} (f : A → B) (xs ys whole : List A) (old first second : List B) → first ≡ old ++ map f xs → second ≡ first ++ map f ys → whole ≡ xs ++ ys → second ≡ old ++ map f whole
added_rows f xs ys whole old first second p q is = simp (q, p, is, append_assoc, map-append)

-- one was added, and then a row
pub added_one : {A B : Type 0} (f : A → B) (b : A) (xs whole : List A) (old first second : List B) → first ≡ old ++ f b ∷ [] → second ≡ first ++ map f xs → whole ≡ b ∷ xs → second ≡ old ++ map f whole
added_one f b xs whole old first second p q is = simp (q, p, is, append_assoc)
