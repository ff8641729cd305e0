-- Two lists whose elements belong together, place by place.
use Rattle.std.proofs.Common.{◌≡◌, ℕ, zero, suc, ◌+◌, ◌<◌, ◌≤◌, List, [], ◌∷◌, ◌++◌, length, take, get_or, map, slice_get, Option, None, Some, refl, sym, ap, ◌∙◌, subst, arith, length-take-le}
use Rattle.std.specs.List.{AllByRecursion}
use Rattle.std.proofs.lemmas.List.{take_more}
use Rattle.std.proofs.lemmas.Option.{none-some, same_Some}
use Rattle.task_compile.specs.CompiledScripts.{IsBoth}

abbrev pub ArePairs : {A B : Type 0} → (ℕ → A → B → Type 0) → List A → List B → Type 0
ArePairs P us ws = (k : ℕ) → IsBoth (P k) (slice_get us k) (slice_get ws k)

-- one more of both
pub one_more_pair : {A B : Type 0} (P : ℕ → A → B → Type 0) (us : List A) (ws : List B) (a : A) (b : B) → ArePairs P us ws → P (length us) a b → ArePairs P (us ++ a ∷ []) (ws ++ b ∷ [])
one_more_pair P [] [] a b all is zero = is
one_more_pair P [] [] a b all is (suc k) = tt
one_more_pair P [] (y ∷ ws) a b all is k = absurd (all zero)
one_more_pair P (x ∷ us) [] a b all is k = absurd (all zero)
one_more_pair P (x ∷ us) (y ∷ ws) a b all is zero = all zero
one_more_pair P (x ∷ us) (y ∷ ws) a b all is (suc k) = one_more_pair (λ n. P (suc n)) us ws a b (λ n. all (suc n)) is k

-- one more of those that are taken from a list
pub one_more_taken : {A B : Type 0} (P : ℕ → A → B → Type 0) (xs : List A) (i : ℕ) (x : A) (ys more : List B) (y : B) → i < length xs → x ≡ get_or xs i x → more ≡ ys ++ y ∷ [] → ArePairs P (take i xs) ys → P i x y → ArePairs P (take (i + 1) xs) more
one_more_taken P xs i x ys more y inside at grown all is =
    let taken : take (i + 1) xs ≡ take i xs ++ x ∷ [] = take_more xs i x inside ∙ ap (λ z. take i xs ++ z ∷ []) (sym at) in
    let upto : i ≤ length xs = omega arith in
    let count : length (take i xs) ≡ i = length-take-le i xs upto in
    subst (ArePairs P (take (i + 1) xs)) (sym grown) (subst (λ z. ArePairs P z (ys ++ y ∷ [])) (sym taken) (one_more_pair P (take i xs) ys x y all (subst (λ z. P z x y) (sym count) is)))

pub as_many : {A B : Type 0} (P : ℕ → A → B → Type 0) (us : List A) (ws : List B) → ArePairs P us ws → length ws ≡ length us
as_many P [] [] all = refl
as_many P [] (y ∷ ws) all = absurd (all zero)
as_many P (x ∷ us) [] all = absurd (all zero)
as_many P (x ∷ us) (y ∷ ws) all = ap suc (as_many (λ n. P (suc n)) us ws (λ n. all (suc n)))

-- what the second ones have in common with the first
pub same_map : {A B C : Type 0} (P : ℕ → A → B → Type 0) (f : A → C) (g : B → C) (us : List A) (ws : List B) → ArePairs P us ws → ((k : ℕ) (a : A) (b : B) → P k a b → g b ≡ f a) → map g ws ≡ map f us
same_map P f g [] [] all same = refl
same_map P f g [] (y ∷ ws) all same = absurd (all zero)
same_map P f g (x ∷ us) [] all same = absurd (all zero)
same_map P f g (x ∷ us) (y ∷ ws) all same = λ i. same zero x y (all zero) i ∷ same_map (λ n. P (suc n)) f g us ws (λ n. all (suc n)) (λ n. same (suc n)) i

-- what each of the second ones is, by its first
pub each_second : {A B : Type 0} (P : ℕ → A → B → Type 0) (Q : B → Type 0) (us : List A) (ws : List B) → ArePairs P us ws → ((k : ℕ) (a : A) (b : B) → slice_get us k ≡ Some a → P k a b → Q b) → AllByRecursion Q ws
each_second P Q [] [] all step = tt
each_second P Q [] (y ∷ ws) all step = absurd (all zero)
each_second P Q (x ∷ us) [] all step = absurd (all zero)
each_second P Q (x ∷ us) (y ∷ ws) all step = (step zero x y refl (all zero), each_second (λ n. P (suc n)) Q us ws (λ n. all (suc n)) (λ n. step (suc n)))

-- both, where the second is there
pub first_of : {A B : Type 0} (P : A → B → Type 0) (o : Option A) (p : Option B) (b : B) → IsBoth P o p → p ≡ Some b → (a : A) × ((o ≡ Some a) × P a b)
first_of P None None b is at = absurd (none-some b at)
first_of P None (Some y) b is at = absurd is
first_of P (Some x) None b is at = absurd is
first_of P (Some x) (Some y) b is at = (x, (refl, subst (P x) (same_Some y b at) is))

-- more is known of both
pub both_more : {A B : Type 0} (P Q : A → B → Type 0) (o : Option A) (p : Option B) → IsBoth P o p → ((a : A) (b : B) → o ≡ Some a → P a b → Q a b) → IsBoth Q o p
both_more P Q None None is step = tt
both_more P Q None (Some y) is step = absurd is
both_more P Q (Some x) None is step = absurd is
both_more P Q (Some x) (Some y) is step = step x y refl is
