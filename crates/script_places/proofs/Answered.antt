-- Words are those of one refusal.
use Rattle.std.proofs.Common.{◌≡◌, ℕ, ◌+◌, ◌^◌, ◌<◌, List, [], ◌∷◌, get_or, sym, ◌∙◌, ap, subst, arith}
use Rattle.std.proofs.lemmas.Fmt.{decimal_injective}
use Rattle.script_places.specs.declared.refusal.Refusal.{Refusal}
use Rattle.script_places.specs.declared.refusal.Refusal.TheVariants.{NotText, BadToken, TooDeep, Syntax, BadName}
use Rattle.script_places.specs.RefusalWords.{number_of, words_of}
use Rattle.script_places.specs.Points.{PointsAt}
use Rattle.script_places.specs.Answers.{PointsNowhere}

-- two characters of the first word, which tell the causes apart
key : List (List ℕ) → ℕ
key words = get_or (get_or words 0 []) 0 0 + get_or (get_or words 0 []) 3 0

same_number : (r s : Refusal) → number_of r < 2 ^ 32 → number_of s < 2 ^ 32 → words_of r ≡ words_of s → number_of r ≡ number_of s
same_number r s small also same = decimal_injective (number_of r) (number_of s) (omega arith) (omega arith) (ap (λ ws. get_or ws 1 []) same)

one_refusal : (r s : Refusal) → number_of r < 2 ^ 32 → number_of s < 2 ^ 32 → words_of r ≡ words_of s → r ≡ s
unfolding key
one_refusal (NotText m) (NotText n) small also same = ap NotText (same_number (NotText m) (NotText n) small also same)
one_refusal (BadToken m) (BadToken n) small also same = ap BadToken (same_number (BadToken m) (BadToken n) small also same)
one_refusal (TooDeep m) (TooDeep n) small also same = ap TooDeep (same_number (TooDeep m) (TooDeep n) small also same)
one_refusal (Syntax m) (Syntax n) small also same = ap Syntax (same_number (Syntax m) (Syntax n) small also same)
one_refusal (BadName m) (BadName n) small also same = ap BadName (same_number (BadName m) (BadName n) small also same)
one_refusal r s small also same = absurd (omega (arith, ap key same))

-- where the refusal with these words points nowhere, no refusal with them points anywhere
pub nowhere : (words : List (List ℕ)) (bytes : List ℕ) (r : Refusal) → number_of r < 2 ^ 32 → words ≡ words_of r →
    ((place : ℕ) → PointsAt bytes r place → ⊥) → PointsNowhere words bytes
nowhere words bytes r small written none =
    λ s place also same points. none place (subst (λ t. PointsAt bytes t place) (one_refusal s r also small (sym same ∙ written)) points)
