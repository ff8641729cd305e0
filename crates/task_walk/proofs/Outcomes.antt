-- An operation that a world answered, and what its outcome goes on with.
use Rattle.std.proofs.Common.{◌≡◌, ℕ, ◌+◌, List, [], ◌∷◌, Option, Some, None, refl, ap, sym, ◌∙◌, ◌≤◌, subst, arith, append-nil}
use Rattle.dyn_value.specs.declared.outcome.Outcome.{Outcome}
use Rattle.dyn_value.specs.declared.value.Value.{Value}
use Rattle.task_code.specs.declared.code.FunctionCode.{FunctionCode}
use Rattle.task_code.specs.declared.frame.Frame.{Frame}
use Rattle.task_code.specs.Acts.{Ending, Gives, Act, Asks, gives}
use Rattle.task_code.specs.Codes.{Around, binder_at}
use Rattle.task_walk.specs.Comings.{Told, told, Answer}
use Rattle.task_walk.specs.Tales.{Teller, Tale, Asked, asked, Answers, Onto, Stays, AreProper, IsProperAnswer}
use Rattle.task_walk.specs.Walks.{Walked}
use Rattle.task_walk.proofs.Walkings.{walked_then}

-- an operation that was answered, after which the walk goes on by its outcome
pub walked_outcome : {H : Type 0} (functions : List FunctionCode) (levels site : ℕ) (operands : List Value) (o : Outcome) (s : Frame)
    (old new : Tale) (lines : List (List ℕ)) (before now : H → List Asked → Type 0)
    → Answers site operands o old new → Onto before now (asked site operands ∷ []) → IsProperAnswer old.by o → AreProper old.by s.locals
    → Walked old.by functions levels (λ a. Asks site (binder_at a.plan site) operands (λ w. gives w s)) IsProperAnswer 1 (Some (Gives o)) s s (told old lines)
    (told new lines) before now
walked_outcome functions levels site operands o s old new lines before now answers had proper locals =
    let counted : new.count ≡ old.count + 1 = ap (λ (t : Tale). t.count) answers.tale in
    record {
      same = ap (λ (t : Tale). t.by) answers.tale;
      fewer = omega arith;
      count = omega arith;
      proper = proper;
      locals = locals;
      comes = λ more less. record {
        events = Answer site (binder_at old.by.plan site) operands o ∷ [];
        is = ap (λ (t : Tale). told t lines) answers.tale;
        does = (refl, refl, refl, answers.suits, (refl, refl));
        asked = had;
      };
    }

pub walked_by_outcome : {H : Type 0} (functions : List FunctionCode) (levels site : ℕ) (operands : List Value) (o : Outcome)
    (go : Around → Outcome → Act Frame Value) (P : Teller → Value → Type 0) (rest_cost cost : ℕ)
    (ending : Option (Ending Value)) (s last : Frame) (old middle : Tale) (lines : List (List ℕ)) (new : Told) (before during now : H → List Asked → Type 0)
    → Answers site operands o old middle → Onto before during (asked site operands ∷ []) → IsProperAnswer old.by o → AreProper old.by s.locals
    → Walked middle.by functions levels (λ a. go a o) P rest_cost ending s last (told middle lines) new during now → 1 + rest_cost ≤ cost
    → Walked old.by functions levels (λ a. Asks site (binder_at a.plan site) operands (go a)) P cost ending s last (told old lines) new before now
walked_by_outcome functions levels site operands o go P rest_cost cost ending s last old middle lines new before during now answers had proper locals rest
    cheap =
    walked_then old.by functions levels (λ a. Asks site (binder_at a.plan site) operands (λ w. gives w s)) (λ a w after. go a w) IsProperAnswer P 1 rest_cost
    cost o ending s s last
    (told old lines) (told middle lines) new before during now
    (walked_outcome functions levels site operands o s old middle lines before during answers had proper locals) rest cheap

-- memory was refused before an answer
pub walked_refused : {A H : Type 0} (by : Teller) (functions : List FunctionCode) (levels : ℕ) (act : Around → Act Frame A) (P : Teller → A → Type 0)
    (cost : ℕ) (s : Frame)
    (old new : Told) (before now : H → List Asked → Type 0)
    → new ≡ old → Stays before now → old.world.by ≡ by → AreProper by s.locals
    → Walked by functions levels act P cost None s s old new before now
walked_refused by functions levels act P cost s old new before now is stays same locals =
    let counted : new.world.count ≡ old.world.count = ap (λ (m : Told). m.world.count) is in
    let told_by : new.world.by ≡ by = ap (λ (m : Told). m.world.by) is ∙ same in
    record {
      same = told_by;
      fewer = omega arith;
      count = omega arith;
      proper = tt;
      locals = locals;
      comes = λ more enough. record { events = []; is = is; does = tt; asked = λ home ops had. subst (now home) (sym (append-nil ops)) (stays home ops had) };
    }
