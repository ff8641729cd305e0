-- What is answered on the member of a name, by the place of the name in the object's class.
use Rattle.std.specs.Prelude.{◌≡◌, ℕ, Bool, true, false, List, [], ◌∷◌, Option, None, Some}
use Rattle.dyn_value.specs.declared.fault.Fault.TheVariants.{NoMember, MembersFull}
use Rattle.expr_tree.specs.declared.node.Node.{Node}
use Rattle.expr_tree.specs.declared.node.Node.TheVariants.{Read, Write, Append, Remove, Throw}
use Rattle.standard_binders.specs.declared.binder.Binder.{Binder}
use Rattle.standard_binders.specs.declared.binder.Binder.TheVariants as binder
use Rattle.rule_model.specs.declared.claim.Claim.{Claim}
use Rattle.rule_model.specs.declared.claim.ClassClaim.{ClassClaim}
use Rattle.rule_model.specs.declared.reach.Reach.{Reach}
use Rattle.rule_model.specs.declared.reach.Reach.TheVariants.{Reads, Writes, Deletes}

-- how the operation of a binder on members reaches one
abbrev pub reach_of : Binder → Reach
reach_of (binder.SetMember name ignore_case) = Writes 1
reach_of (binder.DeleteMember name ignore_case) = Deletes
reach_of binder.SetIndex = Writes 2
reach_of binder.DeleteIndex = Deletes
reach_of _ = Reads

-- the name of the member that a binder is of
abbrev pub name_of : Binder → Option (List ℕ)
name_of (binder.GetMember name ignore_case) = Some name
name_of (binder.SetMember name ignore_case) = Some name
name_of (binder.DeleteMember name ignore_case) = Some name
name_of (binder.InvokeMember name ignore_case info) = Some name
name_of _ = None

-- whether the binder's operation is by a key
abbrev pub is_by_key : Binder → Bool
is_by_key binder.GetIndex = true
is_by_key binder.SetIndex = true
is_by_key binder.DeleteIndex = true
is_by_key _ = false

-- The node that reaches the member of a name, which stands at this place of its class, or nowhere. The class may be
-- full; the last number is that of the class to which an object moves that loses or gets the member.
abbrev pub member_node : Reach → List ℕ → Option ℕ → Bool → ℕ → Node
member_node Reads name (Some place) full after = Read place
member_node Reads name None full after = Throw (NoMember name)
member_node (Writes operand) name (Some place) full after = Write place operand
member_node (Writes operand) name None true after = Throw MembersFull
member_node (Writes operand) name None false after = Append after operand
member_node Deletes name (Some place) full after = Remove place after
member_node Deletes name None full after = Throw (NoMember name)

-- the class after, where the object moves
abbrev pub member_after : Reach → Option ℕ → Bool → ℕ → Option ℕ
member_after (Writes operand) None false after = Some after
member_after Deletes (Some place) full after = Some after
member_after _ _ _ _ = None

-- this body and this claim are those of an operation on a member of an object of the class of this number
pub record IsMemberAnswer (reach : Reach) (class : ℕ) (name : List ℕ) (body : List Node) (claim : Claim) : Type 0 where
  pub claimed : ClassClaim
  pub is_claimed : claim.class ≡ Some claimed
  pub number : claimed.class ≡ class
  pub named : claimed.name ≡ name
  pub moved : ℕ
  pub after : claimed.after ≡ member_after reach claimed.place claimed.full moved
  pub node : body ≡ member_node reach name claimed.place claimed.full moved ∷ []
