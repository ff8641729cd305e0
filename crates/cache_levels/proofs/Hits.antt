-- Which words of a site and which known rules hit an operation, by its shape.
use Rattle.std.proofs.Common.{◌≡◌, ◌≢◌, ℕ, ⊎_elim, Bool, true, false, cond, List, ◌∷◌, ◌++◌, take, replicate, refl, sym, ◌∙◌, subst, Contains, All, Any, Option, Some, None}
use Rattle.std.specs.List.{list_any}
use Rattle.std.proofs.lemmas.List.Elements.{All-contains, All-replicate, Contains-append_right}
use Rattle.binder_cache.specs.Known.{KnownRule}
use Rattle.call_site.specs.declared.choice.Level.TheVariants.{Target, Site, Binder, Bind}
use Rattle.call_site.specs.Chosen.{Hits, PassedOver, FirstHit}
use Rattle.cache_levels.specs.Levels.{TellsEqual, is_among, is_shape, level_by}
use Rattle.cache_levels.specs.Memories.{Fits, NamesShape, TargetHolds, RingHolds, RulesHold}
use Rattle.cache_levels.proofs.Members.{place_of, contains_first, some_passes, none_passes, pair_of_second, pair_of_first}

module _ {H : Type 0} (same : H → H → Bool) (h : H) where
  pub level_is : (last : Option H) (entered met : List H) (a b c : Bool) → is_shape same h last ≡ a → is_among same h (take 10 entered) ≡ b
      → is_among same h met ≡ c → level_by same last entered met h ≡ cond a Target (cond b Site (cond c Binder Bind))
  level_is last entered met a b c p q r = λ i. cond (p i) Target (cond (q i) Site (cond (r i) Binder Bind))

-- of an operation of the shape h: which rules pass on it
module _ {R A H : Type 0} (Tests : R → H → Type 0) (same : H → H → Bool) (is : TellsEqual same) (Passes : R → Type 0) (h : H) (fits : Fits Tests Passes h) where
  -- a word that hits names the shape, and one that is passed over names another
  pub hit_shape : (known : List (KnownRule R A)) (word index : ℕ) (s : H) → NamesShape Tests known word s → Hits Passes known word index → s ≡ h
  hit_shape known word index s n hit = let k : KnownRule R A = hit.1 in
      (fits k.rule s (All-contains (λ k. k.word ≡ word → Tests k.rule s) known k n.tests (hit.0, hit.2, hit.3) hit.4.0)).0 hit.4.2

  pub over_shape : (known : List (KnownRule R A)) (word : ℕ) (s : H) → NamesShape Tests known word s → PassedOver Passes known word → s ≢ h
  over_shape known word s n over e = ⊎_elim
      (λ (no : All (λ k. k.word ≢ word) known). All-contains (λ k. k.word ≢ word) known n.there.1 no (place_of (λ k. k.word ≡ word) known n.there) n.there.4)
      (λ (a : Any (λ k. (k.word ≡ word) × (¬ Passes k.rule)) known). let k : KnownRule R A = a.1 in
      a.4.1 ((fits k.rule s (All-contains (λ k. k.word ≡ word → Tests k.rule s) known k n.tests (a.0, a.2, a.3) a.4.0)).1 e)) over

  pub none_shape : (known : List (KnownRule R A)) (word : ℕ) (s : H) → NamesShape Tests known word s → All (λ k. ¬ Passes k.rule) known → s ≢ h
  none_shape known word s n none e = let a = n.there in let k : KnownRule R A = a.1 in let c = place_of (λ k. k.word ≡ word) known a in
      All-contains (λ k. ¬ Passes k.rule) known k none c ((fits k.rule s (All-contains (λ k. k.word ≡ word → Tests k.rule s) known k n.tests c a.4)).1 e)

  -- the target's test
  pub target_hit : (known : List (KnownRule R A)) (word index : ℕ) (last : Option H) → All (λ k. k.word ≢ 0) known
      → TargetHolds Tests known word last → Hits Passes known word index → is_shape same h last ≡ true
  target_hit known word index None named z hit = absurd (All-contains (λ k. k.word ≢ 0) known hit.1 named (hit.0, hit.2, hit.3) (hit.4.0 ∙ z))
  target_hit known word index (Some s) named n hit = (is h s).1 (sym (hit_shape known word index s n hit))

  pub target_miss : (known : List (KnownRule R A)) (word : ℕ) (last : Option H) → ((s : H) → NamesShape Tests known word s → s ≢ h)
      → TargetHolds Tests known word last → is_shape same h last ≡ false
  target_miss known word None miss z = refl
  target_miss known word (Some s) miss n = not_true (same h s) (λ e. miss s n (sym ((is h s).0 e)))
    where
      not_true : (b : Bool) → (b ≡ true → ⊥) → b ≡ false
      not_true true f = absurd (f refl)
      not_true false f = refl

  -- the ring's tests
  pub ring_hit : (known : List (KnownRule R A)) (ring : List ℕ) (entered : List H) (index : ℕ) → All (λ k. k.word ≢ 0) known
      → RingHolds Tests known ring entered → FirstHit Passes known ring index → list_any (same h) (take 10 entered) ≡ true
  ring_hit known ring entered index named holds f = let w : ℕ = f.word in
      let here : Contains (take 10 (holds.words ++ replicate 10 0)) w = subst (λ (l : List ℕ). Contains l w) (sym f.ring_is ∙ holds.ring_is) (Contains-append_right f.before (w ∷ f.after) w (contains_first w f.after)) in
      ⊎_elim (λ (p : (s : H) × Contains (take 10 entered) s × NamesShape Tests known w s). some_passes (same h) (take 10 entered) p.0 p.1 ((is h p.0).1 (sym (hit_shape known w index p.0 p.2 f.hits))))
      (λ (c : Contains (take 10 (replicate 10 0)) w). let zero_is : w ≡ 0 = All-contains (λ x. x ≡ 0) (replicate 10 0) w (All-replicate (λ x. x ≡ 0) 10 0 refl) c in
      absurd (All-contains (λ k. k.word ≢ 0) known f.hits.1 named (f.hits.0, f.hits.2, f.hits.3) (f.hits.4.0 ∙ zero_is)))
      (pair_of_first (NamesShape Tests known) 10 holds.words (replicate 10 0) entered holds.named w here)

  pub ring_miss : (known : List (KnownRule R A)) (ring : List ℕ) (entered : List H) → ((w : ℕ) → Contains ring w → (s : H) → NamesShape Tests known w s → s ≢ h)
      → RingHolds Tests known ring entered → list_any (same h) (take 10 entered) ≡ false
  ring_miss known ring entered miss holds = none_passes (same h) (take 10 entered) (λ s c e. let p = pair_of_second (NamesShape Tests known) 10 holds.words (replicate 10 0) entered holds.named s c in
      miss p.0 (subst (λ (l : List ℕ). Contains l p.0) (sym holds.ring_is) p.1) s p.2 (sym ((is h s).0 e)))

  -- the binder's tests
  pub met_hit : (known : List (KnownRule R A)) (met : List H) → RulesHold Tests known met → (k : KnownRule R A) → Contains known k
      → Passes k.rule → list_any (same h) met ≡ true
  met_hit known met holds k c p = let a = All-contains (λ k. Any (Tests k.rule) met) known k holds.each_met c in
      some_passes (same h) met a.1 (place_of (Tests k.rule) met a) ((is h a.1).1 (sym ((fits k.rule a.1 a.4).0 p)))

  pub met_miss : (known : List (KnownRule R A)) (met : List H) → RulesHold Tests known met → All (λ k. ¬ Passes k.rule) known
      → list_any (same h) met ≡ false
  met_miss known met holds none = none_passes (same h) met (λ s c e. let a = All-contains (λ s. Any (λ k. Tests k.rule s) known) met s holds.each_known c in
      All-contains (λ k. ¬ Passes k.rule) known a.1 none (place_of (λ k. Tests k.rule s) known a) ((fits a.1.rule s a.4).1 (sym ((is h s).0 e))))

  -- a known rule that passes tests the shape
  pub tests_it : (known : List (KnownRule R A)) (met : List H) → RulesHold Tests known met → (k : KnownRule R A) → Contains known k
      → Passes k.rule → Tests k.rule h
  tests_it known met holds k c p = let a = All-contains (λ k. Any (Tests k.rule) met) known k holds.each_met c in subst (Tests k.rule) ((fits k.rule a.1 a.4).0 p) a.4
