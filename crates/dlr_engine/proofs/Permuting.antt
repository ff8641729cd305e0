-- Known rules in another order, and rules that are learned.
use Rattle.std.proofs.Common.{◌≡◌, ◌∙◌, ℕ, Bool, true, false, List, [], ◌∷◌, ◌++◌, Option, None, Some, refl, sym, subst}
use Rattle.std.proofs.lemmas.List.Sorted.{IsPermutation-append_right, IsPermutation-middle, IsPermutation-refl, IsPermutation-trans}
use Rattle.std.specs.List.Sorted.{IsPermutation}
use Rattle.std.specs.Prelude.{IfNone, IfSome}
use Rattle.binder_cache.specs.Known.{BringsFirst, KnownRule}
use Rattle.known_rules.specs.Knowledge.{Grows}
use Rattle.dlr_engine.specs.Knowing.{ComesToKnow, KnownList}

-- what is known in another order, and then more
pub comes_after : (others : Bool) (a b c : KnownList) → IsPermutation a b → ComesToKnow others b c → ComesToKnow others a c
comes_after others a b c same comes = record {
  learned = comes.learned;
  rules = IsPermutation-trans (comes.learned ++ a) (comes.learned ++ b) c (IsPermutation-append_right comes.learned a b same) comes.rules;
  alone = comes.alone;
}

-- more is known, and then in another order
pub comes_then : (others : Bool) (a b c : KnownList) → ComesToKnow others a b → IsPermutation b c → ComesToKnow others a c
comes_then others a b c comes same = record {
  learned = comes.learned;
  rules = IsPermutation-trans (comes.learned ++ a) b c comes.rules same;
  alone = comes.alone;
}

-- nothing was learned
pub permuted : (others : Bool) (a b : KnownList) → IsPermutation a b → ComesToKnow others a b
permuted others a b same = record { learned = []; rules = same; alone = λ _. refl }

-- rules were learned, before all others
pub grown : (others : Bool) (a b : KnownList) → others ≡ true → Grows a b → ComesToKnow others a b
grown others a b some grows = record {
  learned = grows.0;
  rules = subst (IsPermutation (grows.0 ++ a)) (sym grows.1) (IsPermutation-refl (grows.0 ++ a));
  alone = λ none. absurd (true_is_false (sym some ∙ none));
}
  where
    true_is_false : true ≡ false → ⊥
    true_is_false e = cc

-- the rule that is found comes first, and all others keep their order
brought : {R A : Type 0} (Passes : R → Type 0) (old new : List (KnownRule R A)) (index : ℕ) → BringsFirst Passes old new index
    → IsPermutation old new
brought {R = R} {A = A} Passes old new index brings =
    subst (λ (xs : List (KnownRule R A)). IsPermutation xs new) (sym brings.old_is)
    (subst (IsPermutation (brings.before ++ brings.found ∷ brings.after)) (sym brings.new_is)
    (IsPermutation-middle brings.before brings.found brings.after))

-- what is known after a search
pub searched : {R A : Type 0} (Passes : R → Type 0) (old new : List (KnownRule R A)) (r : Option ℕ) → IfNone r (new ≡ old)
    → IfSome r (BringsFirst Passes old new) → IsPermutation old new
searched {R = R} {A = A} Passes old new None same brings = subst (IsPermutation old) (sym same) (IsPermutation-refl old)
searched {R = R} {A = A} Passes old new (Some index) same brings = brought Passes old new index brings
