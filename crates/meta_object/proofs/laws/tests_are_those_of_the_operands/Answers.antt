-- The lemma is the law.
use Rattle.meta_object.proofs.OperandTests.{tests_of_operands}
use Rattle.meta_object.proofs.laws.tests_are_those_of_the_operands.Goals as goal

pub returns : goal.returns
returns c = tests_of_operands
