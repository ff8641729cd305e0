-- What a site chose among known rules.
use Rattle.std.proofs.Common.{◌≡◌, ◌≢◌, ℕ, List, Option, None, Some, Any, Contains, sym, subst}
use Rattle.dyn_value.specs.declared.value.Value.{Value}
use Rattle.binder_cache.specs.Known.{BringsFirst, KnownRule, Knows}
use Rattle.call_site.specs.declared.choice.Level.{Level}
use Rattle.call_site.specs.declared.choice.Level.TheVariants.{Target, Site, Binder, Bind}
use Rattle.call_site.specs.Chosen.{Chooses, IsPassing}
use Rattle.rule.specs.declared.claimed.Adopted.{Adopted}
use Rattle.rule.specs.declared.rule.Rule.{Rule}
use Rattle.known_rules.specs.Adoptions.{AreAdopted, Setting}
use Rattle.known_rules.specs.Guarding.{Passes}
use Rattle.known_rules.specs.Knowledge.{HasPassing, IsChosen, chosen_at}
use Rattle.known_rules.proofs.Keeping.{IsKnownIn}
use Rattle.known_rules.proofs.Listing.{brings_all, brings_found}

pub selected_adopted : (s : Setting) (Q : Rule → Type 0) (old new : List (KnownRule Rule Adopted)) (level : Option Level) (index : ℕ)
    → Chooses Q old new level index → AreAdopted s old → AreAdopted s new
selected_adopted s Q old new None index is all = subst (AreAdopted s) (sym is.2) all
selected_adopted s Q old new (Some Target) index is all = subst (AreAdopted s) (sym is.1) all
selected_adopted s Q old new (Some Site) index is all = subst (AreAdopted s) (sym is.1) all
selected_adopted s Q old new (Some Binder) index is all = brings_all (IsKnownIn s) Q old new index is all
selected_adopted s Q old new (Some Bind) index is all = absurd is

has_passing : (rules : List (KnownRule Rule Adopted)) (operands : List Value) (class index : ℕ) → IsPassing (Passes operands class) rules index
    → HasPassing rules operands class index
has_passing rules operands class index is = (is.1, ((is.0, is.2, is.3), is.4))

some_level : (level : Level) → Some level ≢ None
some_level level is = cc

pub chosen_of_select : (old new : List (KnownRule Rule Adopted)) (operands : List Value) (class : ℕ) (level : Option Level) (index : ℕ)
    → Chooses (Passes operands class) old new level index → (level ≢ None → Knows new index) → IsChosen new operands class (chosen_at level index)
chosen_of_select old new operands class None index is known =
    subst (λ (rules : List (KnownRule Rule Adopted)). IsChosen rules operands class None) (sym is.2) is.0
chosen_of_select old new operands class (Some Target) index is known = (
  known (some_level Target),
  subst (λ (rules : List (KnownRule Rule Adopted)). HasPassing rules operands class index) (sym is.1) (has_passing old operands class index is.0),
)
chosen_of_select old new operands class (Some Site) index is known = (
  known (some_level Site),
  subst (λ (rules : List (KnownRule Rule Adopted)). HasPassing rules operands class index) (sym is.1) (has_passing old operands class index is.0),
)
chosen_of_select old new operands class (Some Binder) index is known =
    (known (some_level Binder), brings_found (Passes operands class) old new index is)
chosen_of_select old new operands class (Some Bind) index is known = absurd is
