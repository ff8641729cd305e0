-- How what came of a whole follows from what came of its parts.
use Rattle.std.proofs.Common.{◌≡◌, List, [], ◌∷◌, ◌++◌, Option, Some, None, refl, ap, sym, ◌∙◌, subst, append_assoc, append-nil}
use Rattle.std.specs.Prelude.{IfSome}
use Rattle.task_code.specs.Acts.{Ending, Act, Ends, Prints, Asks, Draws, bind}
use Rattle.task_code.specs.Codes.{Plan}
use Rattle.task_walk.specs.Tales.{Asked, asked}
use Rattle.task_walk.specs.Comings.{Event, Line, Answer, Drawn, Told, after_one, after, asked_in, Does, Came}

pub after_both : (xs ys : List Event) (m : Told) → after (xs ++ ys) m ≡ after ys (after xs m)
after_both [] ys m = refl
after_both (x ∷ xs) ys m = after_both xs ys (after_one x m)

pub asked_both : (xs ys : List Event) → asked_in (xs ++ ys) ≡ asked_in xs ++ asked_in ys
asked_both [] ys = refl
asked_both (Line l ∷ xs) ys = asked_both xs ys
asked_both (Answer site b operands o ∷ xs) ys = ap (λ more. asked site operands ∷ more) (asked_both xs ys)
asked_both (Drawn n ∷ xs) ys = asked_both xs ys

pub does_bind : {S T A B : Type 0} (plan : Plan) (act : Act S A) (next : Ending A → S → Act T B) (xs ys : List Event) (e : Ending A) (s : S) (d : Ending B)
    (t : T)
    → Does plan act xs e s → Does plan (next e s) ys d t → Does plan (bind act next) (xs ++ ys) d t
does_bind plan (Ends e' s') next [] ys e s d t one two = subst (λ f. Does plan (next f s') ys d t) one.0 (subst (λ x. Does plan (next e x) ys d t) one.1 two)
does_bind plan (Ends e' s') next (x ∷ xs) ys e s d t one two = absurd one
does_bind plan (Prints line act) next [] ys e s d t one two = absurd one
does_bind plan (Prints line act) next (Line l ∷ xs) ys e s d t one two = (one.0, does_bind plan act next xs ys e s d t one.1 two)
does_bind plan (Prints line act) next (Answer a b c o ∷ xs) ys e s d t one two = absurd one
does_bind plan (Prints line act) next (Drawn n ∷ xs) ys e s d t one two = absurd one
does_bind plan (Asks site b operands act) next [] ys e s d t one two = absurd one
does_bind plan (Asks site b operands act) next (Line l ∷ xs) ys e s d t one two = absurd one
does_bind plan (Asks site b operands act) next (Answer u c vs o ∷ xs) ys e s d t one two =
    (one.0, one.1, one.2, one.3, does_bind plan (act o) next xs ys e s d t one.4 two)
does_bind plan (Asks site b operands act) next (Drawn n ∷ xs) ys e s d t one two = absurd one
does_bind plan (Draws act) next [] ys e s d t one two = absurd one
does_bind plan (Draws act) next (Line l ∷ xs) ys e s d t one two = absurd one
does_bind plan (Draws act) next (Answer a b c o ∷ xs) ys e s d t one two = absurd one
does_bind plan (Draws act) next (Drawn n ∷ xs) ys e s d t one two = does_bind plan (act n) next xs ys e s d t one two

does_on : {S T A B : Type 0} (plan : Plan) (act : Act S A) (next : Ending A → S → Act T B) (xs ys : List Event) (e : Ending A) (s : S)
    (ending : Option (Ending B)) (t : T)
    → Does plan act xs e s → IfSome ending (λ d. Does plan (next e s) ys d t) → IfSome ending (λ d. Does plan (bind act next) (xs ++ ys) d t)
does_on plan act next xs ys e s (Some d) t one two = does_bind plan act next xs ys e s d t one two
does_on plan act next xs ys e s None t one two = two

-- one part, and then another by what the first came to
pub came_bind : {S T A B H : Type 0} (plan : Plan) (act : Act S A) (next : Ending A → S → Act T B) (e : Ending A) (s : S) (ending : Option (Ending B)) (t : T)
    (old middle new : Told) (before between now : H → List Asked → Type 0)
    → Came plan act (Some e) s old middle before between → Came plan (next e s) ending t middle new between now
    → Came plan (bind act next) ending t old new before now
came_bind plan act next e s ending t old middle new before between now one two = record {
  events = one.events ++ two.events;
  is = two.is ∙ ap (after two.events) one.is ∙ sym (after_both one.events two.events old);
  does = does_on plan act next one.events two.events e s ending t one.does two.does;
  asked = λ home ops had.
      subst (now home) (append_assoc ops (asked_in one.events) (asked_in two.events) ∙ ap (λ more. ops ++ more) (sym (asked_both one.events two.events)))
      (two.asked home (ops ++ asked_in one.events) (one.asked home ops had));
}

-- where memory is wanting, the whole has come as far as its part
pub came_lost : {S T A B H : Type 0} (plan : Plan) (act : Act S A) (whole : Act T B) (s : S) (t : T)
    (old new : Told) (before now : H → List Asked → Type 0)
    → Came plan act None s old new before now → Came plan whole None t old new before now
came_lost plan act whole s t old new before now one = record { events = one.events; is = one.is; does = tt; asked = one.asked }

-- nothing happens
pub came_none : {S A H : Type 0} (plan : Plan) (e : Ending A) (s : S) (m : Told) (before : H → List Asked → Type 0)
    → Came plan (Ends e s) (Some e) s m m before before
came_none plan e s m before = record { events = []; is = refl; does = (refl, refl); asked = λ home ops had. subst (before home) (sym (append-nil ops)) had }
