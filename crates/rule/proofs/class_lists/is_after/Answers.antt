-- They agree at each place before the end of the class after, and at its end.
use Rattle.std.proofs.Common.{List, ℕ, ap, slice_get}
use Rattle.expando_class.specs.Class.{names_of}
use Rattle.rule_model.specs.Claims.{changed}
use Rattle.rule.proofs.ClassLists.{same_up_to}
use Rattle.rule.proofs.class_lists.is_after.Goals as goal

pub returns : goal.returns
returns c =
    let after = names_of c.args.after.now in
    let wanted = changed (names_of c.args.class.now) c.args.claimed.now.name c.args.claimed.now.place in (
      λ last. same_up_to after wanted c.loop-place.place c.size-size.result c.loop-place.invariant c.loop-place-test.false c.size-size.ensures.size (c.agrees_at-2.ensures.0 last),
      λ same. c.agrees_at-2.ensures.1 (ap (λ (names : List (List ℕ)). slice_get names c.size-size.result) same),
    )
