-- What came of an operation that a world answered, and of a draw.
use Rattle.std.proofs.Common.{◌≡◌, ℕ, ◌+◌, ◌<◌, ◌≤◌, List, [], ◌∷◌, Option, Some, None, refl, ap, sym, ◌∙◌, subst, arith, add-one, append-nil}
use Rattle.std.proofs.lemmas.Bool.{lt-ltb, le-ltb}
use Rattle.std.specs.Prelude.{nat_lt, if◌then◌else◌, MatchOption}
use Rattle.dyn_value.specs.declared.fault.Fault.TheVariants.{HeapFull}
use Rattle.dyn_value.specs.declared.outcome.Outcome.{Outcome}
use Rattle.dyn_value.specs.declared.value.Value.{Value}
use Rattle.standard_binders.specs.declared.binder.Binder.{Binder}
use Rattle.object_model.specs.Steps.{OnObject, on_object}
use Rattle.task_code.specs.declared.code.FunctionCode.{FunctionCode}
use Rattle.task_code.specs.declared.frame.Frame.{Frame}
use Rattle.task_code.specs.Acts.{Ending, Gives, Fails, Act, Ends, Asks, answered, gives, fails}
use Rattle.task_code.specs.Codes.{Plan, asks, asks_on, binder_at, counts}
use Rattle.task_walk.specs.Comings.{told, Answer, Drawn, Does}
use Rattle.task_walk.specs.Parts.{turn_cost, draws, IsProperNumber}
use Rattle.task_walk.specs.Tales.{Tale, Asked, asked, Suits, Answers, tale_drawn, Onto, Stays, IsProperValue, AreProper}
use Rattle.task_walk.specs.Walks.{IsProperEnding, Walked}

-- an outcome that ends what asked for it
abbrev pub EndsIn : Outcome → Ending Value → Type 0
EndsIn o e = (s : Frame) → answered s o ≡ Ends e s

does_answer : (plan : Plan) (site : ℕ) (b : Binder) (operands : List Value) (o : Outcome) (e : Ending Value) (s last : Frame)
    → Suits plan b operands o → EndsIn o e → last ≡ s
    → Does plan (Asks site b operands (answered s)) (Answer site b operands o ∷ []) e last
does_answer plan site b operands o e s last suits ends is =
    let P : Act Frame Value → Type 0 = λ act. Does plan act [] e last in
    (refl, refl, refl, suits, subst P (sym (ends s)) (refl, is))

does_ask : (plan : Plan) (x : Option OnObject) (site : ℕ) (b : Binder) (operands : List Value) (o : Outcome) (e : Ending Value) (turns left : ℕ)
    (locals : List Value)
    → turns ≡ left + turn_cost x → Suits plan b operands o → EndsIn o e
    → Does plan (asks_on x site b operands (record { turns = turns; locals = locals })) (Answer site b operands o ∷ []) e
    (record { turns = left; locals = locals })
does_ask plan None site b operands o e turns left locals is suits ends =
    let same : left ≡ turns = omega arith in
    does_answer plan site b operands o e (record { turns = turns; locals = locals }) (record { turns = left; locals = locals }) suits ends
    (ap (λ n. record { turns = n; locals = locals }) same)
does_ask plan (Some x) site b operands o e turns left locals is suits ends =
    let P : ℕ → Type 0 = λ n. Does plan (counts (record { turns = n; locals = locals }) (λ after. Asks site b operands (answered after)))
    (Answer site b operands o ∷ []) e (record { turns = left; locals = locals }) in
    subst P (sym (is ∙ add-one left))
    (does_answer plan site b operands o e (record { turns = left; locals = locals }) (record { turns = left; locals = locals }) suits ends refl)

-- an operation that a world answered, after the turn that it counts
pub walked_asked : {H : Type 0} (functions : List FunctionCode) (levels site : ℕ) (operands : List Value) (o : Outcome) (e : Ending Value) (s : Frame)
    (left : ℕ)
    (old new : Tale) (lines : List (List ℕ)) (before now : H → List Asked → Type 0)
    → s.turns ≡ left + turn_cost (on_object (binder_at old.by.plan site) operands)
    → Answers site operands o old new → Onto before now (asked site operands ∷ []) → EndsIn o e → IsProperEnding (IsProperValue old.by) e
    → AreProper old.by s.locals
    → Walked old.by functions levels (λ a. asks a.plan site operands s) IsProperValue 1 (Some e) s (record { turns = left; locals = s.locals })
    (told old lines) (told new lines) before now
walked_asked functions levels site operands o e s left old new lines before now is answers had ends proper locals =
    let counted : new.count ≡ old.count + 1 = ap (λ (t : Tale). t.count) answers.tale in
    record {
      same = ap (λ (t : Tale). t.by) answers.tale;
      fewer = omega arith;
      count = omega arith;
      proper = proper;
      locals = locals;
      comes = λ more less. record {
        events = Answer site (binder_at old.by.plan site) operands o ∷ [];
        is = ap (λ (t : Tale). told t lines) answers.tale;
        does = does_ask old.by.plan (on_object (binder_at old.by.plan site) operands) site (binder_at old.by.plan site) operands o e s.turns left s.locals is
            answers.suits ends;
        asked = had;
      };
    }

stays_onto : {H : Type 0} (before now : H → List Asked → Type 0) → Stays before now → Onto before now []
stays_onto before now stays home ops had = subst (now home) (sym (append-nil ops)) (stays home ops had)

-- a number that a world drew
pub walked_drawn : {H : Type 0} (functions : List FunctionCode) (levels n : ℕ) (e : Ending ℕ) (s : Frame) (old new : Tale) (lines : List (List ℕ))
    (before now : H → List Asked → Type 0)
    → new ≡ tale_drawn n old → Stays before now
    → Does old.by.plan (if nat_lt n old.by.limit then gives n s else fails HeapFull s) [] e s
    → IsProperEnding (IsProperNumber old.by) e → AreProper old.by s.locals
    → Walked old.by functions levels (λ a. draws a.limit s) IsProperNumber 1 (Some e) s s (told old lines) (told new lines) before now
walked_drawn functions levels n e s old new lines before now is stays ends proper locals =
    let counted : new.count ≡ old.count + 1 = ap (λ (t : Tale). t.count) is in
    record {
      same = ap (λ (t : Tale). t.by) is;
      fewer = omega arith;
      count = omega arith;
      proper = proper;
      locals = locals;
      comes = λ more less. record {
        events = Drawn n ∷ [];
        is = ap (λ (t : Tale). told t lines) is;
        does = ends;
        asked = stays_onto before now stays;
      };
    }

abbrev pub Drew : Option ℕ → ℕ → ℕ → Type 0
Drew o n limit = MatchOption o (limit ≤ n) (λ m. (m ≡ n) × (n < limit))

draw_some : (n limit : ℕ) (s : Frame) → n < limit → (if nat_lt n limit then gives n s else fails HeapFull s) ≡ Ends (Gives n) s
draw_some n limit s less = ap (λ b. if b then gives n s else fails HeapFull s) (lt-ltb n limit less)

draw_none : (n limit : ℕ) (s : Frame) → limit ≤ n → (if nat_lt n limit then gives n s else fails HeapFull s) ≡ Ends (Fails HeapFull) s
draw_none n limit s above = ap (λ b. if b then gives n s else fails HeapFull s) (le-ltb n limit above)

pub walked_drawn_some : {H : Type 0} (functions : List FunctionCode) (levels n m : ℕ) (s : Frame) (old new : Tale) (lines : List (List ℕ))
    (before now : H → List Asked → Type 0)
    → new ≡ tale_drawn n old → Stays before now → m ≡ n → n < old.by.limit → old.by.limit ≤ 4096 → AreProper old.by s.locals
    → Walked old.by functions levels (λ a. draws a.limit s) IsProperNumber 1 (Some (Gives m)) s s (told old lines) (told new lines) before now
walked_drawn_some functions levels n m s old new lines before now is stays same less few locals =
    let P : Act Frame ℕ → Type 0 = λ act. Does old.by.plan act [] (Gives m) s in
    walked_drawn functions levels n (Gives m) s old new lines before now is stays
    (subst P (sym (draw_some n old.by.limit s less)) (ap Gives same, refl)) (omega arith, omega arith) locals

pub walked_drawn_none : {H : Type 0} (functions : List FunctionCode) (levels n : ℕ) (s : Frame) (old new : Tale) (lines : List (List ℕ))
    (before now : H → List Asked → Type 0)
    → new ≡ tale_drawn n old → Stays before now → old.by.limit ≤ n → AreProper old.by s.locals
    → Walked old.by functions levels (λ a. draws a.limit s) IsProperNumber 1 (Some (Fails HeapFull)) s s (told old lines) (told new lines) before now
walked_drawn_none functions levels n s old new lines before now is stays above locals =
    let P : Act Frame ℕ → Type 0 = λ act. Does old.by.plan act [] (Fails HeapFull) s in
    walked_drawn functions levels n (Fails HeapFull) s old new lines before now is stays
    (subst P (sym (draw_none n old.by.limit s above)) (refl, refl)) tt locals
