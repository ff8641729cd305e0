-- A list that grows at its end.
use Rattle.std.proofs.Common.{◌≡◌, ◌⊎◌, inl, inr, ℕ, zero, suc, ◌<◌, List, [], ◌∷◌, ◌++◌, length, Some, refl, ap, ◌∙◌, arith, slice_get, length-append}
use Rattle.std.proofs.lemmas.List.{get_or_append_left}
use Rattle.std.proofs.Math.Seq.{get_or-append_seam}
use Rattle.std.proofs.lemmas.Option.{slice_get_within, slice_get-get_or, get_or_from_slice_get}

-- what stands in a list stands there when the list has grown
pub grown_get : {A : Type 0} (bs : List A) (x b : A) (n : ℕ) → slice_get bs n ≡ Some b → slice_get (bs ++ x ∷ []) n ≡ Some b
grown_get bs x b n e =
    let within = slice_get_within bs n b e in
    let inside : n < length (bs ++ x ∷ []) = omega (arith, length-append bs (x ∷ [])) in
    slice_get-get_or (bs ++ x ∷ []) n x inside ∙ ap Some (get_or_append_left bs (x ∷ []) x n within ∙ get_or_from_slice_get bs n b x e)

pub last_get : {A : Type 0} (bs : List A) (x : A) → slice_get (bs ++ x ∷ []) (length bs) ≡ Some x
last_get bs x =
    let inside : length bs < length (bs ++ x ∷ []) = omega (arith, length-append bs (x ∷ [])) in
    slice_get-get_or (bs ++ x ∷ []) (length bs) x inside ∙ ap Some (get_or-append_seam bs x [] x)

-- what stands in a grown list stood there before, or is the new one at its end
pub grown_got : {A : Type 0} (bs : List A) (x b : A) (n : ℕ) → slice_get (bs ++ x ∷ []) n ≡ Some b → (slice_get bs n ≡ Some b) ⊎ ((n ≡ length bs) × (x ≡ b))
grown_got [] x b zero e = inr (refl, cc)
grown_got [] x b (suc n) e = absurd (cc)
grown_got (c ∷ bs) x b zero e = inl e
grown_got (c ∷ bs) x b (suc n) e = elim (grown_got bs x b n e) [ inl h ↦ inl h | inr h ↦ inr (omega arith, h.1) ]
