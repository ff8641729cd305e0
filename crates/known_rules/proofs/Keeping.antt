-- That rules stay adopted, whatever is done to them, and what is chosen of them.
use Rattle.std.proofs.Common.{◌≡◌, ℕ, List, ◌++◌, Option, None, Some, Result, Ok, Err, IfOk, IfSome, IfNone, All, Contains, sym, subst}
use Rattle.std.specs.Prelude.{IfErr}
use Rattle.std.specs.declared.alloc.AllocError.{AllocError}
use Rattle.std.proofs.lemmas.List.Elements.{All-append, All-contains}
use Rattle.dyn_value.specs.declared.value.Value.{Value}
use Rattle.binder_cache.specs.declared.cache.Published.{Published}
use Rattle.binder_cache.specs.declared.cache.Published.TheVariants as published
use Rattle.binder_cache.specs.declared.pass.CachePass.{CachePass}
use Rattle.binder_cache.specs.Known.{BringsFirst, KnownRule, Knows}
use Rattle.binder_cache.specs.Pass.{ComesBack, IfAt, IfPast, Publishes, known_of, published_of}
use Rattle.rule.specs.declared.claimed.Adopted.{Adopted}
use Rattle.rule.specs.declared.rule.Rule.{Rule}
use Rattle.known_rules.specs.Adoptions.{AreAdopted, KnowsAdopted, Setting}
use Rattle.known_rules.specs.Guarding.{IsAdoptedIn, Passes}
use Rattle.known_rules.specs.Knowledge.{IsChosen}
use Rattle.known_rules.proofs.Listing.{adds_all, brings_all, brings_found, known_has}

-- a known rule is adopted where rules are known
abbrev pub IsKnownIn : Setting → KnownRule Rule Adopted → Type 0
IsKnownIn s k = IsAdoptedIn s.binder s.functions s.table k.rule k.note

pub none_adopted : (s : Setting) (rules none : List (KnownRule Rule Adopted)) → rules ≡ none → AreAdopted s none → AreAdopted s rules
none_adopted s rules none is all = subst (AreAdopted s) (sym is) all

pub found_adopted : (s : Setting) (Q : Rule → Type 0) (old new : List (KnownRule Rule Adopted)) (r : Option ℕ) → IfNone r (new ≡ old)
    → IfSome r (BringsFirst Q old new) → AreAdopted s old → AreAdopted s new
found_adopted s Q old new None same found all = subst (AreAdopted s) (sym same) all
found_adopted s Q old new (Some index) same found all = brings_all (IsKnownIn s) Q old new index found all

pub chosen_of : (old new : List (KnownRule Rule Adopted)) (operands : List Value) (class : ℕ) (r : Option ℕ)
    → IfNone r (All (λ k. ¬ Passes operands class k.rule) old) → IfNone r (new ≡ old) → IfSome r (BringsFirst (Passes operands class) old new)
    → IfSome r (Knows new) → IsChosen new operands class r
chosen_of old new operands class None none same found known =
    subst (All (λ (k : KnownRule Rule Adopted). ¬ Passes operands class k.rule)) (sym same) none
chosen_of old new operands class (Some index) none same found known = (known, brings_found (Passes operands class) old new index found)

pub learned_adopted : (s t : Setting) (old new added : List (KnownRule Rule Adopted)) → s ≡ t → new ≡ added ++ old → AreAdopted t added
    → AreAdopted s old → AreAdopted s new
learned_adopted s t old new added same is more all =
    subst (AreAdopted s) (sym is) (All-append (IsKnownIn s) added old (subst (λ (x : Setting). AreAdopted x added) (sym same) more) all)

pub published_adopted : (s : Setting) (old new : CachePass Rule Adopted) (rule : Rule) (note : Adopted)
    (r : Result (Published Rule Adopted) (Rule × Adopted × AllocError)) → IfOk r (λ p. IfAt p (Publishes old new rule note))
    → IfOk r (λ p. IfPast p (λ a n. ComesBack old new rule note a n × (published_of old ≡ 64)))
    → IfErr r (λ refused. ComesBack old new rule note refused.0 refused.1) → IsAdoptedIn s.binder s.functions s.table rule note
    → KnowsAdopted s old → KnowsAdopted s new
published_adopted s old new rule note (Ok (published.At index)) at past err adopted all =
    adds_all (IsKnownIn s) (known_of old) (known_of new) index rule note at.adds (λ word. adopted) all
published_adopted s old new rule note (Ok (published.Past a n)) at past err adopted all = subst (KnowsAdopted s) (sym past.0.pass_is) all
published_adopted s old new rule note (Err refused) at past err adopted all = subst (KnowsAdopted s) (sym err.pass_is) all

-- the note of a known rule is what it is adopted with
pub note_adopted : (s : Setting) (rules : List (KnownRule Rule Adopted)) (k : KnownRule Rule Adopted) (note : Adopted) → AreAdopted s rules
    → Contains rules k → note ≡ k.note → IsAdoptedIn s.binder s.functions s.table k.rule note
note_adopted s rules k note all there is =
    subst (IsAdoptedIn s.binder s.functions s.table k.rule) (sym is) (All-contains (IsKnownIn s) rules k all there)

pub known_binder : (s : Setting) (rules : List (KnownRule Rule Adopted)) (index : ℕ) → Knows rules index → AreAdopted s rules
    → (k : KnownRule Rule Adopted) × (Contains rules k × ((k.index ≡ index) × IsKnownIn s k))
known_binder s rules index known all = known_has (IsKnownIn s) rules index known all
