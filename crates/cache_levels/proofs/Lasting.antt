-- What is remembered at the start, and where rules and words stay; and how counts grow.
use Rattle.std.proofs.Common.{◌≡◌, ℕ, suc, ◌≤◌, Bool, true, false, cond, List, [], ◌∷◌, length, replicate, refl, sym, ap, ◌∙◌, subst, arith, Any, Option, Some, None, eqb}
use Rattle.std.proofs.lemmas.List.Elements.{All-contains}
use Rattle.binder_cache.specs.Known.{KnownRule}
use Rattle.call_site.specs.declared.choice.Level.{Level}
use Rattle.call_site.specs.declared.choice.Level.TheVariants.{Target, Site, Binder, Bind}
use Rattle.cache_levels.specs.Levels.{Counts, total, raised, levels_of, Asked, is_among, last_at, with_new, met_by, entered_at, level_after, MeetsFew}
use Rattle.cache_levels.specs.Memories.{Memory, HasMoved, NamesShape, TargetHolds, RingHolds, RulesHold, Remembers}
use Rattle.std.specs.List.Sorted.{IsPermutation}
use Rattle.std.proofs.lemmas.List.Sorted.{Contains-permutation, IsPermutation-sym, length_permutation}
use Rattle.cache_levels.proofs.Permuted.{apart_stays}
use Rattle.cache_levels.proofs.Moves.{names_move, rules_move}
use Rattle.cache_levels.proofs.Members.{all_from, zip_weaker}

-- the start: no operation, words that are 0, and no known rule
pub nothing_yet : {R A H : Type 0} (Tests : ℕ → R → H → Type 0) (same : H → H → Bool) (binder_of : ℕ → ℕ) (count : ℕ) (m : Memory R A)
    → ((site : ℕ) → m.target site ≡ 0) → ((site : ℕ) → m.ring site ≡ replicate 10 0) → ((binder : ℕ) → m.known binder ≡ [])
    → Remembers Tests same binder_of count [] m
nothing_yet {R} {A} {H} Tests same binder_of count m targets rings known = record {
  targets = λ site _. targets site;
  rings = λ site _. record { words = []; ring_is = rings site; named = tt };
  rules = λ binder. subst (λ (l : List (KnownRule R A)). RulesHold (Tests binder) l []) (sym (known binder)) record {
    each_met = λ k d l. absurd (omega arith);
    each_known = λ k d l. absurd (omega arith);
    counted = refl;
    apart = λ i j d l h. absurd (omega arith);
    named = λ k d l. absurd (omega arith);
  };
}

some_weaker : {X : Type 0} (P Q : X → Type 0) → ((x : X) → P x → Q x) → (xs : List X) → Any P xs → Any Q xs
some_weaker P Q w xs a = (a.0, a.1, a.2, a.3, w a.1 a.4)

-- the same where the relation of rules to shapes is implied, as by a map of classes that has grown
module _ {R A H : Type 0} (Tests Tests' : R → H → Type 0) (more : (r : R) (s : H) → Tests r s → Tests' r s) where
  names_weaker : (known : List (KnownRule R A)) (word : ℕ) (s : H) → NamesShape Tests known word s → NamesShape Tests' known word s
  names_weaker known word s n = record {
    there = n.there;
    tests = all_from (λ k. k.word ≡ word → Tests' k.rule s) known (λ k c e. more k.rule s (All-contains (λ k. k.word ≡ word → Tests k.rule s) known k n.tests c e));
  }

  target_weaker : (known : List (KnownRule R A)) (word : ℕ) (o : Option H) → TargetHolds Tests known word o → TargetHolds Tests' known word o
  target_weaker known word None t = t
  target_weaker known word (Some s) t = names_weaker known word s t

  ring_weaker : (known : List (KnownRule R A)) (ring : List ℕ) (entered : List H) → RingHolds Tests known ring entered
      → RingHolds Tests' known ring entered
  ring_weaker known ring entered r = record {
    words = r.words;
    ring_is = r.ring_is;
    named = zip_weaker (NamesShape Tests known) (NamesShape Tests' known) (names_weaker known) r.words entered r.named;
  }

  rules_weaker : (known : List (KnownRule R A)) (met : List H) → RulesHold Tests known met → RulesHold Tests' known met
  rules_weaker known met r = record {
    each_met = all_from (λ k. Any (Tests' k.rule) met) known (λ k c. some_weaker (Tests k.rule) (Tests' k.rule) (more k.rule) met (All-contains (λ k. Any (Tests k.rule) met) known k r.each_met c));
    each_known = all_from (λ s. Any (λ k. Tests' k.rule s) known) met (λ s c. some_weaker (λ k. Tests k.rule s) (λ k. Tests' k.rule s) (λ k. more k.rule s) known (All-contains (λ s. Any (λ k. Tests k.rule s) known) met s r.each_known c));
    counted = r.counted;
    apart = r.apart;
    named = r.named;
  }

pub remembers_weaker : {R A H : Type 0} (Tests Tests' : ℕ → R → H → Type 0) → ((b : ℕ) (r : R) (s : H) → Tests b r s → Tests' b r s)
    → (same : H → H → Bool) (binder_of : ℕ → ℕ) (sites : ℕ) (asked : List (Asked H)) (m : Memory R A) → Remembers Tests same binder_of sites asked m → Remembers Tests' same binder_of sites asked m
remembers_weaker Tests Tests' more same binder_of sites asked m mem = record {
  targets = λ s l. let b = binder_of s in target_weaker (Tests b) (Tests' b) (more b) (m.known b) (m.target s) (last_at asked s) (mem.targets s l);
  rings = λ s l. let b = binder_of s in ring_weaker (Tests b) (Tests' b) (more b) (m.known b) (m.ring s) (entered_at same binder_of asked s) (mem.rings s l);
  rules = λ b. rules_weaker (Tests b) (Tests' b) (more b) (m.known b) (met_by same binder_of asked b) (mem.rules b);
}

-- the same where the words stay, and the known rules of each binder move in their order alone
module _ {R A H : Type 0} (Tests : R → H → Type 0) (old new : List (KnownRule R A)) (moved : IsPermutation old new) where
  target_moves : (word : ℕ) (last : Option H) → TargetHolds Tests old word last → TargetHolds Tests new word last
  target_moves word None t = t
  target_moves word (Some s) t = names_move Tests old new word s (λ k. Contains-permutation old new k moved) (λ k. Contains-permutation new old k (IsPermutation-sym old new moved)) t

  ring_moves : (ring : List ℕ) (entered : List H) → RingHolds Tests old ring entered → RingHolds Tests new ring entered
  ring_moves ring entered r = record {
    words = r.words;
    ring_is = r.ring_is;
    named = zip_weaker (NamesShape Tests old) (NamesShape Tests new) (λ w s n. names_move Tests old new w s (λ k. Contains-permutation old new k moved) (λ k. Contains-permutation new old k (IsPermutation-sym old new moved)) n) r.words entered r.named;
  }

pub remembers_moved : {R A H : Type 0} (Tests : ℕ → R → H → Type 0) (same : H → H → Bool) (binder_of : ℕ → ℕ) (sites : ℕ) (asked : List (Asked H)) (old new : Memory R A)
    → HasMoved old new → Remembers Tests same binder_of sites asked old → Remembers Tests same binder_of sites asked new
remembers_moved Tests same binder_of sites asked old new moved mem = record {
  targets = λ s l. let b = binder_of s in
      subst (λ (w : ℕ). TargetHolds (Tests b) (new.known b) w (last_at asked s)) (sym (moved.targets s)) (target_moves (Tests b) (old.known b) (new.known b) (moved.rules b) (old.target s) (last_at asked s) (mem.targets s l));
  rings = λ s l. let b = binder_of s in
      subst (λ (r : List ℕ). RingHolds (Tests b) (new.known b) r (entered_at same binder_of asked s)) (sym (moved.rings s)) (ring_moves (Tests b) (old.known b) (new.known b) (moved.rules b) (old.ring s) (entered_at same binder_of asked s) (mem.rings s l));
  rules = λ b. let o = old.known b in let n = new.known b in let m = moved.rules b in
      rules_move (Tests b) o n (met_by same binder_of asked b) (λ k. Contains-permutation o n k m) (λ k. Contains-permutation n o k (IsPermutation-sym o n m)) (length_permutation o n m) (apart_stays o n m (mem.rules b).apart) (mem.rules b);
}

-- the four counts add up to the number of operations
pub counts_sum : {H : Type 0} (same : H → H → Bool) (binder_of : ℕ → ℕ) (asked : List (Asked H))
    → total (levels_of same binder_of asked) ≡ length asked
counts_sum same binder_of [] = refl
counts_sum same binder_of (o ∷ earlier) = one_more (level_after same binder_of earlier o) (levels_of same binder_of earlier) ∙ ap suc (counts_sum same binder_of earlier)
  where
    one_more : (l : Level) (c : Counts) → total (raised l c) ≡ suc (total c)
    one_more Target c = omega arith
    one_more Site c = omega arith
    one_more Binder c = omega arith
    one_more Bind c = omega arith

-- a shorter list has no more shapes
pub meets_fewer : {H : Type 0} (same : H → H → Bool) (binder_of : ℕ → ℕ) (o : Asked H) (earlier : List (Asked H))
    → MeetsFew same binder_of (o ∷ earlier) → MeetsFew same binder_of earlier
meets_fewer {H} same binder_of o earlier few binder = at (eqb (binder_of o.site) binder) (is_among same o.shape (met_by same binder_of earlier binder)) (met_by same binder_of earlier binder) (few binder)
  where
    at : (c b : Bool) (met : List H) → length (cond c (with_new b o.shape met) met) ≤ 64 → length met ≤ 64
    at true true met l = l
    at true false met l = let k : suc (length met) ≤ 64 = l in omega arith
    at false b met l = l
