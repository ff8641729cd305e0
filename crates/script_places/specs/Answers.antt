-- What is answered of a refusal's words and a script.
use Rattle.std.specs.Prelude.{◌≡◌, ◌≢◌, ℕ, ◌^◌, ◌<◌, List}
use Rattle.script_places.specs.declared.refusal.Refusal.{Refusal}
use Rattle.script_places.specs.declared.position.Position.{Position}
use Rattle.script_places.specs.Lines.{IsPositionOf}
use Rattle.script_places.specs.Points.{PointsAt}
use Rattle.script_places.specs.RefusalWords.{number_of, words_of}
use Rattle.script_places.specs.Shown.{shown_text}

-- the text shows the position of the place at which the refusal with these words points
pub record Explains (words : List (List ℕ)) (bytes text : List ℕ) : Type 0 where
  pub refusal : Refusal
  pub written : words ≡ words_of refusal
  pub place : ℕ
  pub points : PointsAt bytes refusal place
  pub position : Position
  pub found : IsPositionOf bytes place position
  pub shows : text ≡ shown_text position

-- no refusal with these words points at a place of the script
abbrev pub PointsNowhere : List (List ℕ) → List ℕ → Type 0
PointsNowhere words bytes =
    (refusal : Refusal) (place : ℕ) → number_of refusal < 2 ^ 32 → words ≡ words_of refusal → PointsAt bytes refusal place → ⊥
