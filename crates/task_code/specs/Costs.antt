-- How often code asks at most without a turn, and what it uses.
use Rattle.std.specs.Prelude.{ℕ, suc, ◌+◌, List, [], ◌∷◌, ◌++◌, length, sum, Option, None, Some}
use Rattle.std.specs.List.{flat_map}
use Rattle.dyn_value.specs.declared.value.Value.{Value}
use Rattle.task_code.specs.declared.code.Node.{Node}
use Rattle.task_code.specs.declared.code.NodeHead.{NodeHead}
use Rattle.task_code.specs.declared.code.NodeHead.TheFolds.{fold-Node, fold-NodeHead}
use Rattle.task_code.specs.declared.code.NodeHead.TheOpen.{Node-F, NodeHead-F, NodeSuffix-F}
use Rattle.task_code.specs.declared.code.Step.{Step}
use Rattle.task_code.specs.declared.code.Steps.{Steps}
use Rattle.task_code.specs.declared.code.Step.TheFolds.{fold-Step, fold-Steps}
use Rattle.task_code.specs.declared.code.Step.TheOpen.{Step-F, Steps-F}

-- the operations and draws that it stands for
abbrev pub head_costs : NodeHead-F ℕ ℕ ℕ → ℕ
head_costs (NodeHead-F.Literal v) = 0
head_costs (NodeHead-F.Local k) = 0
head_costs (NodeHead-F.Unary site e) = e + 1
head_costs (NodeHead-F.Binary site l r) = l + r + 1
head_costs NodeHead-F.New = 1
head_costs (NodeHead-F.NewOf site target args) = target + sum args + 2

abbrev pub suffix_costs : NodeSuffix-F ℕ ℕ ℕ → ℕ
suffix_costs (NodeSuffix-F.Member site) = 1
suffix_costs (NodeSuffix-F.MemberCall site args) = sum args + 2
suffix_costs (NodeSuffix-F.Index site key) = key + 1
suffix_costs (NodeSuffix-F.Call site args) = sum args + 1

abbrev pub node_costs : Node-F ℕ ℕ ℕ → ℕ
node_costs e = e.head + sum e.suffixes

abbrev pub node_cost : Node → ℕ
node_cost e = fold-Node ℕ ℕ ℕ head_costs suffix_costs node_costs e

abbrev pub head_cost : NodeHead → ℕ
head_cost h = fold-NodeHead ℕ ℕ ℕ head_costs suffix_costs node_costs h

abbrev pub other_cost : Option ℕ → ℕ
other_cost None = 0
other_cost (Some n) = n

abbrev pub step_costs : Step-F ℕ ℕ → ℕ
step_costs (Step-F.Set k e) = node_cost e
step_costs (Step-F.SetMember site target e) = node_cost target + node_cost e + 1
step_costs (Step-F.SetIndex site target key e) = node_cost target + node_cost key + node_cost e + 1
step_costs (Step-F.DeleteMember site target) = node_cost target + 1
step_costs (Step-F.DeleteIndex site target key) = node_cost target + node_cost key + 1
step_costs (Step-F.If site test body other) = node_cost test + 1 + body + other_cost other
step_costs (Step-F.While site test body) = node_cost test + 1 + body
step_costs (Step-F.Return e) = node_cost e
step_costs (Step-F.Print e) = node_cost e
step_costs (Step-F.Try body k caught) = body + caught
step_costs (Step-F.Plain e) = node_cost e

abbrev pub steps_costs : Steps-F ℕ ℕ → ℕ
steps_costs b = sum b.0

abbrev pub step_cost : Step → ℕ
step_cost x = fold-Step ℕ ℕ step_costs steps_costs x

abbrev pub steps_cost : Steps → ℕ
steps_cost b = fold-Steps ℕ ℕ step_costs steps_costs b

-- what code uses: a site with so many operands, a value
pub data Use : Type 0 where
  AtSite : ℕ → ℕ → Use
  OfValue : Value → Use

abbrev pub Uses : Type 0
Uses = List Use

abbrev pub all_uses : List Uses → Uses
all_uses us = flat_map (λ u. u) us

abbrev pub head_used : NodeHead-F Uses Uses Uses → Uses
head_used (NodeHead-F.Literal v) = OfValue v ∷ []
head_used (NodeHead-F.Local k) = []
head_used (NodeHead-F.Unary site e) = AtSite site 1 ∷ e
head_used (NodeHead-F.Binary site l r) = AtSite site 2 ∷ (l ++ r)
head_used NodeHead-F.New = []
head_used (NodeHead-F.NewOf site target args) = AtSite site (suc (length args)) ∷ (target ++ all_uses args)

abbrev pub suffix_used : NodeSuffix-F Uses Uses Uses → Uses
suffix_used (NodeSuffix-F.Member site) = AtSite site 1 ∷ []
suffix_used (NodeSuffix-F.MemberCall site args) = AtSite site (suc (length args)) ∷ AtSite (suc site) (suc (length args)) ∷ all_uses args
suffix_used (NodeSuffix-F.Index site key) = AtSite site 2 ∷ key
suffix_used (NodeSuffix-F.Call site args) = AtSite site (suc (length args)) ∷ all_uses args

abbrev pub node_used : Node-F Uses Uses Uses → Uses
node_used e = e.head ++ all_uses e.suffixes

abbrev pub node_uses : Node → Uses
node_uses e = fold-Node Uses Uses Uses head_used suffix_used node_used e

abbrev pub head_uses : NodeHead → Uses
head_uses h = fold-NodeHead Uses Uses Uses head_used suffix_used node_used h

abbrev pub other_uses : Option Uses → Uses
other_uses None = []
other_uses (Some u) = u

abbrev pub step_used : Step-F Uses Uses → Uses
step_used (Step-F.Set k e) = node_uses e
step_used (Step-F.SetMember site target e) = AtSite site 2 ∷ (node_uses target ++ node_uses e)
step_used (Step-F.SetIndex site target key e) = AtSite site 3 ∷ (node_uses target ++ (node_uses key ++ node_uses e))
step_used (Step-F.DeleteMember site target) = AtSite site 1 ∷ node_uses target
step_used (Step-F.DeleteIndex site target key) = AtSite site 2 ∷ (node_uses target ++ node_uses key)
step_used (Step-F.If site test body other) = AtSite site 1 ∷ (node_uses test ++ (body ++ other_uses other))
step_used (Step-F.While site test body) = AtSite site 1 ∷ (node_uses test ++ body)
step_used (Step-F.Return e) = node_uses e
step_used (Step-F.Print e) = node_uses e
step_used (Step-F.Try body k caught) = body ++ caught
step_used (Step-F.Plain e) = node_uses e

abbrev pub steps_used : Steps-F Uses Uses → Uses
steps_used b = all_uses b.0

abbrev pub step_uses : Step → Uses
step_uses x = fold-Step Uses Uses step_used steps_used x

abbrev pub steps_uses : Steps → Uses
steps_uses b = fold-Steps Uses Uses step_used steps_used b
