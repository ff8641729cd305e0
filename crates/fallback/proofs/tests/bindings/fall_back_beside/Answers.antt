-- What could be bound still can be.
use Rattle.fallback.proofs.TestMetas.{can_still}
use Rattle.fallback.proofs.tests.bindings.fall_back_beside.Goals as goal

pub fall_back-requires-2-clause-can : goal.fall_back-requires-2-clause-can
fall_back-requires-2-clause-can g c =
    can_still c.args.language.now.functions.params c.args.cx.now c.fall_back.new.cx c.args.binder.now c.args.metas.now c.in_ok-own.ensures.context c.requires
