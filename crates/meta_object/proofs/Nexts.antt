-- The class to which an object moves.
use Rattle.std.proofs.Common.{◌≡◌, ℕ, false, List, ◌∷◌, [], ◌++◌, length, Option, None, Some, refl, sym, ◌∙◌, ap, subst, cond, ◌≢◌, IfSome, IfNone, slice_get, unwrap_or, ◌==◌, eq-eqb, option_map}
use Rattle.std.specs.List.{All}
use Rattle.expando_class.specs.declared.class.ClassRef.{ClassRef}
use Rattle.expando_class.specs.declared.pass.ClassPass.{ClassPass}
use Rattle.expando_class.specs.Class.{number_of, names_of}
use Rattle.expando_class.specs.Pass.{Learns, class_map}
use Rattle.rule_model.specs.declared.reach.Reach.TheVariants.{Writes}
use Rattle.rule_model.specs.Claims.{IsPlaced}
use Rattle.rule_model.specs.MemberAnswers.{member_after}
use Rattle.meta_object.specs.Reaching.{IsNext, number_in}

learned : (old new : ClassPass) (class : ClassRef) → Learns old new class → class_map new (number_of class) ≡ Some (names_of class)
learned old new class l = l (number_of class) ∙ ap (λ b. cond b (Some (names_of class)) (class_map old (number_of class))) (eq-eqb (number_of class) (number_of class) refl)

pub added_next : (old new : ClassPass) (class added : ClassRef) (name : List ℕ) (operand : ℕ) → Learns old new added → names_of added ≡ names_of class ++ name ∷ [] → (length (names_of class) == 64) ≡ false
    → IsNext new class (Writes operand) name None (Some added)
added_next old new class added name operand l names room = record {
  after = ap (λ b. member_after (Writes operand) None b (number_of added)) (sym room);
  known = (names, learned old new added l ∙ ap Some names);
}

-- the place of a text's characters
pub placed_by : (names : List (List ℕ)) (text name : List ℕ) (place : Option ℕ) → text ≡ name → IfSome place (λ p. slice_get names p ≡ Some text) → IfNone place (All (λ other. other ≢ text) names) → IsPlaced names name place
placed_by names text name (Some p) e some none = some ∙ ap Some e
placed_by names text name None e some none = subst (λ (k : List ℕ). All (λ other. other ≢ k) names) e none

pub number_there : (next : Option ClassRef) → unwrap_or (option_map number_of next) 0 ≡ number_in next
number_there None = refl
number_there (Some class) = refl
