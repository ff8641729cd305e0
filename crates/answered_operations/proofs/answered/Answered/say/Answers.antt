use Rattle.std.proofs.Common.{refl, ap, ◌∙◌, arith}
use mathlib.Core.Option.{some-injective}
use Rattle.atomic_table.specs.Table.{keeps}
use Rattle.answered_operations.specs.Additions.{after_said}
use Rattle.answered_operations.proofs.answered.Answered.say.Goals as goal

pub compare_exchange_with-requires : goal.compare_exchange_with-requires
compare_exchange_with-requires c =
    let answered = c.args.self.now in
    let part = c.args.part.now in
    let me = answered.seat.me in (
      answered.own,
      omega (arith, answered.sized),
      λ _ _ _ _ _. (
        after_said me.0 part,
        keeps,
        tt,
        tt,
        λ said is_said i. (after_said me.0 (some-injective part said is_said i), me.1),
      ),
    )

pub invariant_of-self : goal.invariant_of-self
invariant_of-self c =
    let answered = c.args.self.now in
    let seat = c.compare_exchange_with.ensures in
    record {
      own = seat.0 ∙ answered.own;
      sized = answered.sized;
      rests = ap (λ me. me.1) (seat.2 c.args.part.now refl) ∙ answered.rests;
    }
