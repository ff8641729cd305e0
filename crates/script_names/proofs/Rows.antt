-- Rows that grow at their ends.
use Rattle.std.proofs.Common.{◌≡◌, ◌≤◌, ℕ, List, ◌++◌, length, take, sym, ap, ◌∙◌, append_assoc}
use Rattle.std.proofs.lemmas.List.{take_all}

-- a loop over a row has come to its end
pub loop_end : {A B : Type 0} (f : List A → List B) (xs : List A) (i : ℕ) (before now : List B) → length xs ≤ i → now ≡ before ++ f (take i xs) → now ≡ before ++ f xs
loop_end f xs i before now past so_far = so_far ∙ ap (λ z. before ++ f z) (take_all i xs past)
