-- What a lone pass keeps, and what an operation does to it.
use Rattle.std.specs.Prelude.{◌≡◌, ℕ, ◌<◌, Bool, List, [], ◌∷◌, All, Option, Some, None, length, slice_get, slice_index_or}
use Rattle.binder_cache.specs.Known.{KnownRule}
use Rattle.binder_cache.specs.declared.cache.Cache.{Cache}
use Rattle.binder_cache.specs.declared.pass.CachePass.{CachePass}
use Rattle.binder_cache.specs.Pass.{known_of, published_of}
use Rattle.binder_cache.specs.Pass as caches
use Rattle.call_site.specs.declared.choice.Level.{Level}
use Rattle.call_site.specs.declared.choice.Level.TheVariants.{Bind}
use Rattle.call_site.specs.declared.sites.SitePass.{SitePass}
use Rattle.call_site.specs.Passes.{target_of, ring_of}
use Rattle.call_site.specs.Settled.{Settles}
use Rattle.cache_levels.specs.declared.answered.Kept.{Kept}
use Rattle.cache_levels.specs.declared.answered.Kept.TheVariants.{Settled, Past, Dropped}
use Rattle.cache_levels.specs.Levels.{Asked, MeetsFew, TellsEqual, level_after}
use Rattle.cache_levels.specs.Memories.{Answers, Memory, Remembers}
use Rattle.cache_levels.specs.Runs.{number_at}

module _ {R A : Type 0} where
  abbrev pub known_in : Option (CachePass R A) → List (KnownRule R A)
  known_in None = []
  known_in (Some pass) = known_of pass

  -- what is kept of the sites and of each binder's rules
  abbrev pub memory_of : SitePass → List (CachePass R A) → Memory R A
  memory_of sites passes =
      record { target = target_of sites; ring = ring_of sites; known = λ binder. known_in (slice_get passes binder) }

  -- each known rule was published by the pass, which is one of the cache
  abbrev pub IsLoneOf : Cache R → CachePass R A → Type 0
  IsLoneOf cache pass = caches.IsPassOf cache pass × (published_of pass ≡ length (known_of pass))

  -- for each cache there is a pass, which learned of no other
  pub record AreLoneOf (shared : List (Cache R)) (passes : List (CachePass R A)) : Type 0 where
    pub as_many : length passes ≡ length shared
    pub each : (binder : ℕ) (cache : Cache R) (pass : CachePass R A) → binder < length shared
        → IsLoneOf (slice_index_or shared binder cache) (slice_index_or passes binder pass)

-- no rule was dropped for want of memory
abbrev pub IsKept : Kept → Type 0
IsKept Dropped = ⊥
IsKept _ = Unit {0}

module _ {R A H : Type 0} (Tests : R → H → Type 0) (Passes : R → Type 0) (shape : H) (count site : ℕ) where
  -- an operation was answered at a site, and the site was settled
  pub record AnswersHere (level : Level) (old new : SitePass) (known known' : List (KnownRule R A)) : Type 0 where
    pub word : ℕ
    pub answers : Answers Tests Passes shape (target_of old site) (ring_of old site) known known' word level
    pub settles : Settles count site word level (target_of old) (target_of new) (ring_of old) (ring_of new)

  -- no known rule passed, and a rule was bound
  abbrev pub IsBound : Level → List (KnownRule R A) → Type 0
  IsBound level known = (level ≡ Bind) × All (λ k. ¬ Passes k.rule) known

  -- how an operation ended: it was answered, or the rule that was bound was dropped
  abbrev pub EndsHere : Level → SitePass → SitePass → CachePass R A → CachePass R A → Kept → Type 0
  EndsHere level old new known known' Settled = AnswersHere level old new (known_of known) (known_of known')
  EndsHere level old new known known' Past = IsBound level (known_of known) × (published_of known ≡ 64)
  EndsHere level old new known known' Dropped = IsBound level (known_of known)

-- An operation was answered at this level: after operations that were remembered it is that of the definition, and what
-- is kept remembers this operation too, unless a binder meets its 65th shape.
abbrev pub KeepsLevels : {R A H : Type 0} → (R → H → Type 0) → List ℕ → ℕ → H → Level → Kept → Memory R A → Memory R A
    → Type 0
KeepsLevels {R} {A} {H} Tests binders site shape level kept old new =
    (same : H → H → Bool) → TellsEqual same → (asked : List (Asked H)) →
    Remembers (λ _. Tests) same (number_at binders) (length binders) asked old →
    let next : Asked H = record { site = site; shape = shape } in
    (level_after same (number_at binders) asked next ≡ level)
    × (IsKept kept → MeetsFew same (number_at binders) (next ∷ asked) →
    Remembers (λ _. Tests) same (number_at binders) (length binders) (next ∷ asked) new)
