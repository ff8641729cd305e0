-- What a user sees of a pass, and what each call does to it.
use Rattle.std.specs.Prelude.{◌≡◌, ℕ, ◌+◌, ◌<◌, ◌≤◌, List, ◌++◌, All, AllPairs, length, ⊤}
use Rattle.binder_cache.specs.declared.cache.Cache.{Cache}
use Rattle.binder_cache.specs.declared.cache.Published.{Published}
use Rattle.binder_cache.specs.declared.cache.Published.TheVariants.{At, Past}
use Rattle.binder_cache.specs.declared.pass.CachePass.{CachePass}
use Rattle.binder_cache.specs.Known.{KnownRule, AddsFirst}
use Rattle.binder_cache.specs.Row.{AreOf}
use Rattle.binder_cache.specs.Rows.{rules_in}

module _ {R A : Type 0} where
  -- the rules that a pass knows, most recent first
  abbrev pub known_of : CachePass R A → List (KnownRule R A)
  known_of pass = rules_in pass.rules

  -- how many rules it has published
  abbrev pub published_of : CachePass R A → ℕ
  published_of pass = pass.published

  -- how many rules of other passes it knows
  abbrev pub foreign_of : CachePass R A → ℕ
  foreign_of pass = pass.foreign

  -- the indexes below this one it has looked at
  abbrev pub looked_of : CachePass R A → ℕ
  looked_of pass = pass.next_look

  -- the pass is one of this cache
  abbrev pub IsPassOf : Cache R → CachePass R A → Type 0
  IsPassOf cache pass = AreOf cache.cells pass.rules.rows.items

  -- the counts stay
  pub record SameCounts (old new : CachePass R A) : Type 0 where
    pub published : published_of new ≡ published_of old
    pub foreign : foreign_of new ≡ foreign_of old
    pub looked : looked_of new ≡ looked_of old

  -- a fact of the index, if the rule was published
  abbrev pub IfAt : Published R A → (ℕ → Type 0) → Type 0
  IfAt (At index) P = P index
  IfAt (Past rule note) P = ⊤

  -- a fact of the rule and the note, if they came back
  abbrev pub IfPast : Published R A → (R → A → Type 0) → Type 0
  IfPast (At index) P = ⊤
  IfPast (Past rule note) P = P rule note

  -- the rule and the note came back, and the pass is as before
  pub record ComesBack (old new : CachePass R A) (rule : R) (note : A) (back_rule : R) (back_note : A) : Type 0 where
    pub rule_is : back_rule ≡ rule
    pub note_is : back_note ≡ note
    pub pass_is : new ≡ old

  -- the pass knows one more rule of its own, before all others
  pub record Publishes (old new : CachePass R A) (rule : R) (note : A) (index : ℕ) : Type 0 where
    pub adds : AddsFirst (known_of old) (known_of new) index rule note
    pub published : published_of new ≡ published_of old + 1
    pub foreign : foreign_of new ≡ foreign_of old
    pub looked : looked_of new ≡ looked_of old

  -- the pass knows more rules of others, each admitted with its note, the newest before all others
  pub record Learns (Admits : R → A → Type 0) (old new : CachePass R A) : Type 0 where
    pub added : List (KnownRule R A)
    pub new_is : known_of new ≡ added ++ known_of old
    pub admitted : All (λ known. Admits known.rule known.note) added
    pub newest_first : AllPairs (λ one other. other.index < one.index) added
    pub looked : All (λ known. (looked_of old ≤ known.index) × (known.index < looked_of new)) added
    pub onward : looked_of old ≤ looked_of new
    pub foreign : foreign_of new ≡ foreign_of old + length added
    pub few : foreign_of new ≤ 64
    pub published : published_of new ≡ published_of old
