-- The tokens of bytes begin at one list of places.
use Rattle.std.proofs.Common.{◌≡◌, ℕ, List, subst}
use Rattle.std.specs.Prelude.{Option, None, Some, MatchOption}
use Rattle.std.specs.Str.{chars}
use Rattle.script_tokens.specs.declared.token.Token.{Token}
use Rattle.script_tokens.specs.Lexemes.{AreTokensAt}
use Rattle.script_places.specs.Points.{HasTokensAt, IsNumbered}

abbrev pub HaveOneList : Type 0
HaveOneList = (cs : List ℕ) (ts us : List Token) (places begin : List ℕ) → AreTokensAt cs ts places → AreTokensAt cs us begin → (ts ≡ us) × (places ≡ begin)

-- what is found among these places is found among those of the bytes, whatever is added to them
pub found : (more : List ℕ → List ℕ) → HaveOneList → (bytes places : List ℕ) → HasTokensAt bytes places → (number : ℕ) (o : Option ℕ) →
    MatchOption o ((place : ℕ) → IsNumbered (more places) number place → ⊥) (λ place. IsNumbered (more places) number place) →
    MatchOption o ((place : ℕ) → (ps : List ℕ) × (HasTokensAt bytes ps × IsNumbered (more ps) number place) → ⊥)
    (λ place. (ps : List ℕ) × (HasTokensAt bytes ps × IsNumbered (more ps) number place))
found more one bytes places has number None none =
    λ place t. none place (subst (λ ps. IsNumbered (more ps) number place) (one (chars bytes) t.1.0.tokens has.tokens t.0 places t.1.0.begin has.begin).1 t.1.1)
found more one bytes places has number (Some place) is = (places, (has, is))
