-- What the code of a task does is what the task does.
use Rattle.std.proofs.Common.{◌≡◌, refl, sym, ap, ◌∙◌}
use Rattle.task_code.specs.Acts.{Act, Ends, Prints, Asks, Draws, ends_in}
use Rattle.task_walk.specs.Deeds.{deeds_of}

-- acts whose last value and state are let go do the same, whatever is made of the state
deeds_in : {S T A : Type 0} (f : S → T) (act : Act S A) → deeds_of (ends_in f act) ≡ deeds_of act
deeds_in f (Ends e s) = refl
deeds_in f (Prints line act) = ap (Prints line) (deeds_in f act)
deeds_in f (Asks site b operands act) = λ i. Asks site b operands (λ o. deeds_in f (act o) i)
deeds_in f (Draws act) = λ i. Draws (λ n. deeds_in f (act n) i)

-- the same acts but for the state
pub deeds_alike : {S T U A : Type 0} (f : S → U) (g : T → U) (one : Act S A) (two : Act T A) → ends_in f one ≡ ends_in g two → deeds_of one ≡ deeds_of two
deeds_alike f g one two same = sym (deeds_in f one) ∙ ap deeds_of same ∙ deeds_in g two
