-- The tests by metaobjects are those of the operands.
use Rattle.std.proofs.Common.{map}
use Rattle.expando_class.specs.Pass.{class_map}
use Rattle.rule_model.specs.Tests.{form_of, tests_by}
use Rattle.meta_object.specs.Metas.{known_in}
use Rattle.cache_levels.specs.RuleShapes.{binder_in}
use Rattle.cache_levels.proofs.RunLaws.{for_shape}
use Rattle.cache_levels.proofs.laws.bound_rules_are_for_their_shapes.Goals as goal

pub returns : goal.returns
returns c functions pass binders number operands lent metas class names r suit metas_are is_lent shown bound = let b = binder_in binders number in
    for_shape (class_map pass) binders number operands class names r (tests_by (form_of b) (map known_in metas)) suit shown
    (c.tests_are_those_of_the_operands.ensures b operands lent metas class metas_are is_lent) bound.tests
