use Rattle.std.proofs.Common.{take}
use Rattle.std.specs.Option.{option_copied}
use Rattle.meta_object.specs.Operands.{AreMetasOf}
use Rattle.dlr_engine.proofs.binding.metas_of.Given as goal

abbrev pub invariant-loop-number : goal.invariant-loop-number
invariant-loop-number l = AreMetasOf (take l.number l.operands) (option_copied l.class) l.metas.items
