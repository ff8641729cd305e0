-- What a body does and answers is a proposition, so it comes out of the truncation in which a rule keeps its soundness.
use Rattle.std.proofs.Common.{◌≡◌, ℕ, List, [], IsTrue}
use Rattle.std.specs.List.{AllByRecursion, AllByRecursion-prop, list_all}
use Rattle.std.proofs.Props.{props}
use Rattle.dyn_value.specs.declared.value.Value.{Value}
use Rattle.dyn_value.specs.declared.outcome.Outcome.{Outcome}
use Rattle.expr_tree.specs.declared.node.Node.{Node}
use Rattle.expr_tree.specs.declared.node.Node.TheVariants.{Append, Remove}
use Rattle.expr_tree.specs.Meanings.{State, IsThere, is_plain, state_after}
use Rattle.expr_tree.specs.Trees.{root}
use Rattle.object_model.specs.Members.{Members}
use Rattle.object_model.specs.Steps.{Step}
use Rattle.rule_model.specs.Soundness.{Answers, Does, IsEven}
use Rattle.rule_model.specs.States.{HasMembers}

there_prop : (operands values : List Value) (n : Node) → IsProp (IsThere operands values n)
there_prop operands values n = hlevel props

all_there_prop : (operands values : List Value) (body : List Node) → IsProp (AllByRecursion (IsThere operands values) body)
all_there_prop operands values = AllByRecursion-prop (IsThere operands values) (there_prop operands values)

even_prop : (names more : List (List ℕ)) (n : Node) → IsProp (IsEven names more n)
even_prop names more (Append c a) = hlevel props
even_prop names more (Remove p c) = hlevel props
even_prop names more _ = hlevel props

state_prop : (s : State) (ms : Members) → IsProp (HasMembers s ms)
state_prop s ms = hlevel props

outcome_prop : (one other : Outcome) → IsProp (one ≡ other)
outcome_prop one other = hlevel props

plain_prop : (body : List Node) → IsProp (IsTrue (list_all is_plain body))
plain_prop body = hlevel props

pub does_prop : (body : List Node) (operands : List Value) (more : List (List ℕ)) (s : State) (to : Step) → IsProp (Does body operands more s to)
does_prop body operands more s to = λ one other i. record {
  there = all_there_prop operands s.values body one.there other.there i;
  even = even_prop s.names more (root body) one.even other.even i;
  state = state_prop (state_after operands more s (root body)) to.members one.state other.state i;
  outcome = outcome_prop _ to.outcome one.outcome other.outcome i;
}

pub answers_prop : (body : List Node) (operands : List Value) (s : State) (to : Outcome) → IsProp (Answers body operands s to)
answers_prop body operands s to = λ one other i. record {
  there = all_there_prop operands [] body one.there other.there i;
  plain = plain_prop body one.plain other.plain i;
  outcome = outcome_prop _ to one.outcome other.outcome i;
}
