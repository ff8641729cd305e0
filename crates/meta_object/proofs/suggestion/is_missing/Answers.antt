-- The name has no place where it is missing.
use Rattle.expando_class.specs.Class.{names_of}
use Rattle.meta_object.proofs.Targets.{missing_of}
use Rattle.meta_object.proofs.suggestion.is_missing.Goals as goal

pub returns-then-must_be_there : goal.returns-then-must_be_there
returns-then-must_be_there c =
    missing_of c.args.binder.now c.args.name.now (names_of c.args.class.now) c.place_in.result c.of.result c.must_be_there.result c.is_none.result
    c.requires.named c.place_in.ensures c.of.ensures c.must_be_there.ensures c.if-must_be_there.true c.is_none.ensures
