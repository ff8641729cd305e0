-- From the clauses of the calls to one operation of a lone pass.
use Rattle.std.proofs.Common.{◌≡◌, ◌≢◌, ℕ, zero, suc, ◌<◌, Bool, List, [], ◌∷◌, length, get_or, set, refl, sym, ap, ◌∙◌, subst, arith, All, Some, slice_get, length-set, get_or-set_same, get_or-set_other}
use Rattle.std.proofs.lemmas.List.{get_or_default}
use Rattle.std.proofs.lemmas.Option.{slice_get-get_or, slice_get_within}
use mathlib.Core.Logic.{dite}
use native.Mathlib.Decide.{ℕ_discrete}
use Rattle.binder_cache.specs.declared.cache.Cache.{Cache}
use Rattle.binder_cache.specs.declared.pass.CachePass.{CachePass}
use Rattle.binder_cache.specs.Known.{KnownRule}
use Rattle.binder_cache.specs.Pass.{known_of, published_of}
use Rattle.call_site.specs.declared.choice.Level.{Level}
use Rattle.call_site.specs.declared.choice.Level.TheVariants.{Target, Site, Binder, Bind}
use Rattle.call_site.specs.declared.memo.Memo.{Memo}
use Rattle.call_site.specs.declared.sites.SitePass.{SitePass}
use Rattle.call_site.specs.Chosen.{Chooses, TriesInOrder}
use Rattle.call_site.specs.Places.{target_in, ring_in}
use Rattle.call_site.specs.Settled.{Settles}
use Rattle.cache_levels.specs.declared.answered.Kept.{Kept}
use Rattle.cache_levels.specs.declared.answered.Kept.TheVariants.{Settled, Past, Dropped}
use Rattle.cache_levels.specs.Levels.{Asked, MeetsFew, TellsEqual, level_after}
use Rattle.cache_levels.specs.LonePasses.{AnswersHere, AreLoneOf, EndsHere, IsKept, IsLoneOf, KeepsLevels, known_in, memory_of}
use Rattle.cache_levels.specs.Memories.{Answers, AreApart, Fits, HasWord, Memory, Remembers}
use Rattle.cache_levels.specs.Runs.{number_at}
use Rattle.cache_levels.proofs.Next.{answered_keeps, answered_level, none_level, room}

pub picks : {R A H : Type 0} (Tests : R → H → Type 0) (Passes : R → Type 0) (shape : H) (target : ℕ) (ring : List ℕ) (old new : List (KnownRule R A)) (level : Level) (word index : ℕ)
    → Chooses Passes old new (Some level) index → TriesInOrder Passes target ring old (Some level) index → HasWord new index word → AreApart new
    → Answers Tests Passes shape target ring old new word level
picks Tests Passes shape target ring old new Target word index c t w a = record { index = index; chooses = c; tries = t; word_is = w; apart = a }
picks Tests Passes shape target ring old new Site word index c t w a = record { index = index; chooses = c; tries = t; word_is = w; apart = a }
picks Tests Passes shape target ring old new Binder word index c t w a = record { index = index; chooses = c; tries = t; word_is = w; apart = a }
picks Tests Passes shape target ring old new Bind word index c t w a = absurd c

-- a site is settled from a memory that is as before
pub settled : (count site word : ℕ) (level : Level) (old mid new : Memo) → mid ≡ old
    → Settles count site word level (target_in mid.words) (target_in new.words) (ring_in mid.words) (ring_in new.words)
    → Settles count site word level (target_in old.words) (target_in new.words) (ring_in old.words) (ring_in new.words)
settled count site word level old mid new same s = subst (λ (m : Memo). Settles count site word level (target_in m.words) (target_in new.words) (ring_in m.words) (ring_in new.words)) same s

-- one of a list changes
module _ {X : Type 0} where
  slice_get-set_same : (xs : List X) (i : ℕ) (x : X) → i < length xs → slice_get (set xs i x) i ≡ Some x
  slice_get-set_same xs i x l = slice_get-get_or (set xs i x) i x (let e = length-set xs i x in omega arith) ∙ ap Some (get_or-set_same xs i x x l)

  slice_get-set_other : (xs : List X) (i j : ℕ) (x : X) → j ≢ i → slice_get (set xs i x) j ≡ slice_get xs j
  slice_get-set_other [] i j x n = refl
  slice_get-set_other (y ∷ ys) zero zero x n = absurd (n refl)
  slice_get-set_other (y ∷ ys) zero (suc j) x n = refl
  slice_get-set_other (y ∷ ys) (suc i) zero x n = refl
  slice_get-set_other (y ∷ ys) (suc i) (suc j) x n = slice_get-set_other ys i j x (λ e. n (ap suc e))

module _ {R A : Type 0} where
  -- one of the passes made an operation
  pub lone_after : (shared : List (Cache R)) (old : List (CachePass R A)) (binder : ℕ) (cache : Cache R) (pass : CachePass R A)
      → AreLoneOf shared old → binder < length shared → cache ≡ get_or shared binder cache
      → IsLoneOf cache pass → AreLoneOf shared (set old binder pass)
  lone_after shared old binder cache pass of near is own = record {
    as_many = length-set old binder pass ∙ of.as_many;
    each = λ b c p l. dite (ℕ_discrete b binder)
        (λ e. subst (λ (z : Cache R × CachePass R A). IsLoneOf z.0 z.1)
        (λ i. ((is ∙ get_or_default shared binder cache c near ∙ ap (λ k. get_or shared k c) (sym e)) i, (sym (ap (λ k. get_or (set old binder pass) k p) e ∙ get_or-set_same old binder pass p (let q = of.as_many in omega arith))) i)) own)
        (λ n. subst (λ (z : CachePass R A). IsLoneOf (get_or shared b c) z) (sym (get_or-set_other old binder b pass p n)) (of.each b c p l));
  }

  -- an operation at a site of a binder is one on what is kept
  module _ {H : Type 0} (Tests : R → H → Type 0) (Passes : R → Type 0) (shape : H) (fits : Fits Tests Passes shape) (binders : List ℕ) (old new : SitePass) (known : List (CachePass R A)) (pass after : CachePass R A)
      (site : ℕ) (near : site < length binders) (at : slice_get known (number_at binders site) ≡ Some pass) (counted : published_of pass ≡ length (known_of pass)) where
    abbrev binder : ℕ
    binder = number_at binders site

    abbrev before : Memory R A
    before = memory_of old known

    abbrev now : Memory R A
    now = memory_of new (set known binder after)

    before_is : before.known binder ≡ known_of pass
    before_is = ap known_in at

    now_is : now.known binder ≡ known_of after
    now_is = ap known_in (slice_get-set_same known binder after (slice_get_within known binder pass at))

    others : (other : ℕ) → other ≢ binder → now.known other ≡ before.known other
    others other n = ap known_in (slice_get-set_other known binder other after n)

    module _ (same : H → H → Bool) (is : TellsEqual same) (asked : List (Asked H)) (mem : Remembers (λ _. Tests) same (number_at binders) (length binders) asked before) where
      abbrev next : Asked H
      next = record { site = site; shape = shape }

      here : (level : Level) → AnswersHere Tests Passes shape (length binders) site level old new (known_of pass) (known_of after)
          → AnswersHere Tests Passes shape (length binders) site level old new (before.known binder) (now.known binder)
      here level a = subst (λ (z : List (KnownRule R A) × List (KnownRule R A)). AnswersHere Tests Passes shape (length binders) site level old new z.0 z.1) (λ i. (sym before_is i, sym now_is i)) a

      none_here : All (λ k. ¬ Passes k.rule) (known_of pass) → All (λ k. ¬ Passes k.rule) (before.known binder)
      none_here none = subst (All (λ k. ¬ Passes k.rule)) (sym before_is) none

      bound_level : (level : Level) → level ≡ Bind → All (λ k. ¬ Passes k.rule) (known_of pass)
          → level_after same (number_at binders) asked next ≡ level
      bound_level level is_bind none = none_level (λ _. Tests) same is (number_at binders) (length binders) asked before now mem Passes shape site near fits (none_here none) ∙ sym is_bind

      abbrev Left : Kept → Type 0
      Left kept = IsKept kept → MeetsFew same (number_at binders) (next ∷ asked) → Remembers (λ _. Tests) same (number_at binders) (length binders) (next ∷ asked) now

      pub ends : (level : Level) (kept : Kept) → EndsHere Tests Passes shape (length binders) site level old new pass after kept
          → (level_after same (number_at binders) asked next ≡ level) × Left kept
      ends level Settled a = let h = here level a in (
        answered_level (λ _. Tests) same is (number_at binders) (length binders) asked before now mem Passes shape site near fits h.word level h.answers,
        λ _ _. answered_keeps (λ _. Tests) same is (number_at binders) (length binders) asked before now mem Passes shape site near fits h.word level h.answers h.settles others,
      )
      ends level Past a = (
        bound_level level a.0.0 a.0.1,
        λ _ few. let r = room (λ _. Tests) same is (number_at binders) (length binders) asked before now mem Passes shape site near fits (none_here a.0.1) few in
            let e = ap length before_is in let full = a.1 in absurd (omega arith),
      )
      ends level Dropped a = (bound_level level a.0 a.1, λ kept. absurd kept)

    pub keeps_levels : (level : Level) (kept : Kept) → EndsHere Tests Passes shape (length binders) site level old new pass after kept
        → KeepsLevels Tests binders site shape level kept before now
    keeps_levels level kept a same is asked mem = ends same is asked mem level kept a
