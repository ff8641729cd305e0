use Rattle.std.proofs.Common.{sym, subst}
use Rattle.object_model.specs.Members.{AreMembers}
use Rattle.object_model.proofs.MembersKept.{no_members}
use Rattle.object_model.proofs.members.ObjectMembers.new.Goals as goal

pub invariant_of-result : goal.invariant_of-result
invariant_of-result c = subst AreMembers (sym c.new.ensures) no_members
