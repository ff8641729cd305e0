-- How the known rules move: in order alone, or one more is known before them.
use Rattle.std.proofs.Common.{◌≡◌, ◌≢◌, ℕ, suc, ◌+◌, ⊎_elim, List, ◌∷◌, ◌++◌, length, refl, sym, ap, ◌∙◌, subst, arith, Contains, Any, Some, length-append}
use Rattle.std.proofs.lemmas.List.Elements.{All-contains}
use Rattle.binder_cache.specs.Known.{KnownRule, BringsFirst}
use Rattle.call_site.specs.declared.choice.Level.{Level}
use Rattle.call_site.specs.declared.choice.Level.TheVariants.{Target, Site, Binder, Bind}
use Rattle.call_site.specs.Chosen.{Chooses}
use Rattle.cache_levels.specs.Memories.{AreApart, NamesShape, RulesHold}
use Rattle.cache_levels.proofs.Members.{all_from, some_at, place_of, contains_first, contains_later, contains_cases, to_first, from_first, one_of}

module _ {R A H : Type 0} (Tests : R → H → Type 0) where
  -- the names of a word stay where the known rules move, or one more comes with a word of its own
  pub names_move : (old new : List (KnownRule R A)) (word : ℕ) (s : H) → ((k : KnownRule R A) → Contains old k → Contains new k)
      → ((k : KnownRule R A) → Contains new k → Contains old k) → NamesShape Tests old word s → NamesShape Tests new word s
  names_move old new word s to back n = record {
    there = some_at (λ k. k.word ≡ word) new n.there.1 (to n.there.1 (place_of (λ k. k.word ≡ word) old n.there)) n.there.4;
    tests = all_from (λ k. k.word ≡ word → Tests k.rule s) new (λ k c. All-contains (λ k. k.word ≡ word → Tests k.rule s) old k n.tests (back k c));
  }

  pub names_more : (old : List (KnownRule R A)) (k : KnownRule R A) (word : ℕ) (s : H) → AreApart (k ∷ old) → NamesShape Tests old word s
      → NamesShape Tests (k ∷ old) word s
  names_more old k word s apart n = let o : KnownRule R A = n.there.1 in let c = place_of (λ k. k.word ≡ word) old n.there in record {
    there = some_at (λ k. k.word ≡ word) (k ∷ old) o (contains_later k old o c) n.there.4;
    tests = all_from (λ k. k.word ≡ word → Tests k.rule s) (k ∷ old) (λ x d e. ⊎_elim
        (λ (q : k ≡ x). absurd (first_apart old k o apart c (ap (λ (z : KnownRule R A). z.word) q ∙ e ∙ sym n.there.4)))
        (λ (d : Contains old x). All-contains (λ k. k.word ≡ word → Tests k.rule s) old x n.tests d e) (contains_cases k old x d));
  }
    where
      first_apart : (old : List (KnownRule R A)) (k o : KnownRule R A) → AreApart (k ∷ old) → Contains old o → k.word ≡ o.word → ⊥
      first_apart old k o apart c e = apart 0 (suc c.0) o (omega arith) (let l = c.1 in omega arith) (e ∙ ap (λ (z : KnownRule R A). z.word) (sym c.2))

  -- the word of a known rule names its shape
  pub names_own : (known : List (KnownRule R A)) (k : KnownRule R A) (s : H) → AreApart known → Contains known k → Tests k.rule s
      → NamesShape Tests known k.word s
  names_own known k s apart c t = record {
    there = some_at (λ x. x.word ≡ k.word) known k c refl;
    tests = all_from (λ x. x.word ≡ k.word → Tests x.rule s) known (λ x d e. subst (λ (z : KnownRule R A). Tests z.rule s) (sym (one_of (λ (z : KnownRule R A). z.word) known apart x k d c e)) t);
  }

  -- the known rules of a binder after a choice, and after one more was bound
  pub rules_move : (old new : List (KnownRule R A)) (met : List H) → ((k : KnownRule R A) → Contains old k → Contains new k)
      → ((k : KnownRule R A) → Contains new k → Contains old k) → length new ≡ length old → AreApart new → RulesHold Tests old met
      → RulesHold Tests new met
  rules_move old new met to back counted apart r = record {
    each_met = all_from (λ k. Any (Tests k.rule) met) new (λ k c. All-contains (λ k. Any (Tests k.rule) met) old k r.each_met (back k c));
    each_known = all_from (λ s. Any (λ k. Tests k.rule s) new) met (λ s c. let a = All-contains (λ s. Any (λ k. Tests k.rule s) old) met s r.each_known c in
        some_at (λ k. Tests k.rule s) new a.1 (to a.1 (place_of (λ k. Tests k.rule s) old a)) a.4);
    counted = counted ∙ r.counted;
    apart = apart;
    named = all_from (λ k. k.word ≢ 0) new (λ k c. All-contains (λ k. k.word ≢ 0) old k r.named (back k c));
  }

  pub rules_more : (h : H) (old : List (KnownRule R A)) (k : KnownRule R A) (met : List H) → Tests k.rule h → k.word ≢ 0
      → AreApart (k ∷ old) → RulesHold Tests old met → RulesHold Tests (k ∷ old) (h ∷ met)
  rules_more h old k met tests named apart r = record {
    each_met = all_from (λ x. Any (Tests x.rule) (h ∷ met)) (k ∷ old) (λ x c. ⊎_elim
        (λ (e : k ≡ x). some_at (Tests x.rule) (h ∷ met) h (contains_first h met) (subst (λ (z : KnownRule R A). Tests z.rule h) e tests))
        (λ (d : Contains old x). let a = All-contains (λ k. Any (Tests k.rule) met) old x r.each_met d in some_at (Tests x.rule) (h ∷ met) a.1 (contains_later h met a.1 (place_of (Tests x.rule) met a)) a.4) (contains_cases k old x c));
    each_known = all_from (λ s. Any (λ x. Tests x.rule s) (k ∷ old)) (h ∷ met) (λ s c. ⊎_elim
        (λ (e : h ≡ s). some_at (λ x. Tests x.rule s) (k ∷ old) k (contains_first k old) (subst (Tests k.rule) e tests))
        (λ (d : Contains met s). let a = All-contains (λ s. Any (λ k. Tests k.rule s) old) met s r.each_known d in some_at (λ x. Tests x.rule s) (k ∷ old) a.1 (contains_later k old a.1 (place_of (λ x. Tests x.rule s) old a)) a.4) (contains_cases h met s c));
    counted = ap suc r.counted;
    apart = apart;
    named = all_from (λ x. x.word ≢ 0) (k ∷ old) (λ x c. ⊎_elim (λ (e : k ≡ x). subst (λ (z : KnownRule R A). z.word ≢ 0) e named) (λ (d : Contains old x). All-contains (λ k. k.word ≢ 0) old x r.named d) (contains_cases k old x c));
  }

-- what a choice tells of the rule that was used, and of how the known rules moved
module _ {R A : Type 0} (Passes : R → Type 0) where
  pub record Used (old new : List (KnownRule R A)) (index : ℕ) : Type 0 where
    pub rule : KnownRule R A
    pub here : Contains new rule
    pub at : rule.index ≡ index
    pub passes : Passes rule.rule
    pub to : (k : KnownRule R A) → Contains old k → Contains new k
    pub back : (k : KnownRule R A) → Contains new k → Contains old k
    pub counted : length new ≡ length old

  stayed : (old new : List (KnownRule R A)) (index : ℕ) → Any (λ k. (k.index ≡ index) × Passes k.rule) old → new ≡ old → Used old new index
  stayed old new index a e = record {
    rule = a.1;
    here = subst (λ (l : List (KnownRule R A)). Contains l a.1) (sym e) (place_of (λ k. (k.index ≡ index) × Passes k.rule) old a);
    at = a.4.0;
    passes = a.4.1;
    to = λ k c. subst (λ (l : List (KnownRule R A)). Contains l k) (sym e) c;
    back = λ k c. subst (λ (l : List (KnownRule R A)). Contains l k) e c;
    counted = ap length e;
  }

  brought : (old new : List (KnownRule R A)) (index : ℕ) → BringsFirst Passes old new index → Used old new index
  brought old new index b = record {
    rule = b.found;
    here = subst (λ (l : List (KnownRule R A)). Contains l b.found) (sym b.new_is) (contains_first b.found (b.before ++ b.after));
    at = b.index_is;
    passes = b.passes;
    to = λ k c. subst (λ (l : List (KnownRule R A)). Contains l k) (sym b.new_is) (to_first b.before b.after b.found k (subst (λ (l : List (KnownRule R A)). Contains l k) b.old_is c));
    back = λ k c. subst (λ (l : List (KnownRule R A)). Contains l k) (sym b.old_is) (from_first b.before b.after b.found k (subst (λ (l : List (KnownRule R A)). Contains l k) b.new_is c));
    counted = let p : length new ≡ suc (length b.before + length b.after) = ap length b.new_is ∙ ap suc (length-append b.before b.after) in
        let q : length old ≡ length b.before + suc (length b.after) = ap length b.old_is ∙ length-append b.before (b.found ∷ b.after) in omega arith;
  }

  pub used : (old new : List (KnownRule R A)) (level : Level) (index : ℕ) → Chooses Passes old new (Some level) index → Used old new index
  used old new Target index c = stayed old new index c.0 c.1
  used old new Site index c = stayed old new index c.0 c.1
  used old new Binder index c = brought old new index c
  used old new Bind index c = absurd c
