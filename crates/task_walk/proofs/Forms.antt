-- What code does, asks at most and uses, form by form.
use Rattle.std.proofs.Common.{◌≡◌, ℕ, ◌+◌, List, map, sum, Option, Some, None, ap, sym, ◌∙◌}
use Rattle.std.specs.Option.{option_map}
use Rattle.dyn_value.specs.declared.value.Value.{Value}
use Rattle.task_code.specs.declared.code.Node.{Node}
use Rattle.task_code.specs.declared.code.NodeHead.TheFolds.{fold-roll-Node, fold-roll-NodeHead, fold-roll-NodeSuffix}
use Rattle.task_code.specs.declared.code.NodeHead.TheOpen.{NodeHead-F, NodeSuffix-F}
use Rattle.task_code.specs.declared.code.NodeHead.TheVariants as head
use Rattle.task_code.specs.declared.code.NodeSuffix.TheVariants as suffix
use Rattle.task_code.specs.declared.code.Step.TheFolds.{fold-roll-Step, fold-roll-Steps}
use Rattle.task_code.specs.declared.code.Step.TheOpen.{Step-F}
use Rattle.task_code.specs.declared.code.Step.TheVariants as step
use Rattle.task_code.specs.declared.code.Steps.{Steps}
use Rattle.task_code.specs.Codes.{Around, Evaluates, Reads, Executes, node_act, head_act, head_step, suffix_step, node_step, step_act, body_act, step_step}
use Rattle.task_code.specs.Codes.{steps_step, steps_act}
use Rattle.task_code.specs.Costs.{Uses, node_cost, node_uses, head_cost, head_uses, head_costs, suffix_costs, node_costs, head_used, suffix_used, node_used}
use Rattle.task_code.specs.Costs.{step_cost, step_uses, steps_cost, steps_uses, step_costs, steps_costs, step_used, steps_used}
use Rattle.task_walk.specs.Parts.{suffix_act, suffix_cost, suffix_uses}

pub act-head-Literal : (a : Around) (v : Value) → head_act a (head.Literal v) ≡ head_step a (NodeHead-F.Literal v)
act-head-Literal a v = ap (head_act a) (sym (head.rolls-Literal v)) ∙ fold-roll-NodeHead Evaluates Reads Evaluates (head_step a) (suffix_step a) (node_step a)
    (NodeHead-F.Literal v)

pub cost-head-Literal : (v : Value) → head_cost (head.Literal v) ≡ head_costs (NodeHead-F.Literal v)
cost-head-Literal v = ap head_cost (sym (head.rolls-Literal v)) ∙ fold-roll-NodeHead ℕ ℕ ℕ head_costs suffix_costs node_costs (NodeHead-F.Literal v)

pub uses-head-Literal : (v : Value) → head_uses (head.Literal v) ≡ head_used (NodeHead-F.Literal v)
uses-head-Literal v = ap head_uses (sym (head.rolls-Literal v)) ∙ fold-roll-NodeHead Uses Uses Uses head_used suffix_used node_used (NodeHead-F.Literal v)

pub act-head-Local : (a : Around) (k : ℕ) → head_act a (head.Local k) ≡ head_step a (NodeHead-F.Local k)
act-head-Local a k = ap (head_act a) (sym (head.rolls-Local k)) ∙ fold-roll-NodeHead Evaluates Reads Evaluates (head_step a) (suffix_step a) (node_step a)
    (NodeHead-F.Local k)

pub cost-head-Local : (k : ℕ) → head_cost (head.Local k) ≡ head_costs (NodeHead-F.Local k)
cost-head-Local k = ap head_cost (sym (head.rolls-Local k)) ∙ fold-roll-NodeHead ℕ ℕ ℕ head_costs suffix_costs node_costs (NodeHead-F.Local k)

pub uses-head-Local : (k : ℕ) → head_uses (head.Local k) ≡ head_used (NodeHead-F.Local k)
uses-head-Local k = ap head_uses (sym (head.rolls-Local k)) ∙ fold-roll-NodeHead Uses Uses Uses head_used suffix_used node_used (NodeHead-F.Local k)

pub act-head-Unary : (a : Around) (site : ℕ) (e : Node) → head_act a (head.Unary site e) ≡ head_step a (NodeHead-F.Unary site (node_act a e))
act-head-Unary a site e = ap (head_act a) (sym (head.rolls-Unary site e)) ∙ fold-roll-NodeHead Evaluates Reads Evaluates (head_step a) (suffix_step a)
    (node_step a) (NodeHead-F.Unary site e)

pub cost-head-Unary : (site : ℕ) (e : Node) → head_cost (head.Unary site e) ≡ head_costs (NodeHead-F.Unary site (node_cost e))
cost-head-Unary site e = ap head_cost (sym (head.rolls-Unary site e)) ∙ fold-roll-NodeHead ℕ ℕ ℕ head_costs suffix_costs node_costs (NodeHead-F.Unary site e)

pub uses-head-Unary : (site : ℕ) (e : Node) → head_uses (head.Unary site e) ≡ head_used (NodeHead-F.Unary site (node_uses e))
uses-head-Unary site e = ap head_uses (sym (head.rolls-Unary site e)) ∙ fold-roll-NodeHead Uses Uses Uses head_used suffix_used node_used
    (NodeHead-F.Unary site e)

pub act-head-Binary : (a : Around) (site : ℕ) (l : Node) (r : Node)
    → head_act a (head.Binary site l r) ≡ head_step a (NodeHead-F.Binary site (node_act a l) (node_act a r))
act-head-Binary a site l r = ap (head_act a) (sym (head.rolls-Binary site l r)) ∙ fold-roll-NodeHead Evaluates Reads Evaluates (head_step a) (suffix_step a)
    (node_step a) (NodeHead-F.Binary site l r)

pub cost-head-Binary : (site : ℕ) (l : Node) (r : Node) → head_cost (head.Binary site l r) ≡ head_costs (NodeHead-F.Binary site (node_cost l) (node_cost r))
cost-head-Binary site l r = ap head_cost (sym (head.rolls-Binary site l r)) ∙ fold-roll-NodeHead ℕ ℕ ℕ head_costs suffix_costs node_costs
    (NodeHead-F.Binary site l r)

pub uses-head-Binary : (site : ℕ) (l : Node) (r : Node) → head_uses (head.Binary site l r) ≡ head_used (NodeHead-F.Binary site (node_uses l) (node_uses r))
uses-head-Binary site l r = ap head_uses (sym (head.rolls-Binary site l r)) ∙ fold-roll-NodeHead Uses Uses Uses head_used suffix_used node_used
    (NodeHead-F.Binary site l r)

pub act-head-New : (a : Around) → head_act a head.New ≡ head_step a NodeHead-F.New
act-head-New a = ap (head_act a) (sym head.rolls-New) ∙ fold-roll-NodeHead Evaluates Reads Evaluates (head_step a) (suffix_step a) (node_step a)
    NodeHead-F.New

pub cost-head-New : head_cost head.New ≡ head_costs NodeHead-F.New
cost-head-New = ap head_cost (sym head.rolls-New) ∙ fold-roll-NodeHead ℕ ℕ ℕ head_costs suffix_costs node_costs NodeHead-F.New

pub uses-head-New : head_uses head.New ≡ head_used NodeHead-F.New
uses-head-New = ap head_uses (sym head.rolls-New) ∙ fold-roll-NodeHead Uses Uses Uses head_used suffix_used node_used NodeHead-F.New

pub act-head-NewOf : (a : Around) (site : ℕ) (target : Node) (args : List Node)
    → head_act a (head.NewOf site target args) ≡ head_step a (NodeHead-F.NewOf site (node_act a target) (map (node_act a) args))
act-head-NewOf a site target args = ap (head_act a) (sym (head.rolls-NewOf site target args)) ∙ fold-roll-NodeHead Evaluates Reads Evaluates (head_step a)
    (suffix_step a) (node_step a) (NodeHead-F.NewOf site target args)

pub cost-head-NewOf : (site : ℕ) (target : Node) (args : List Node)
    → head_cost (head.NewOf site target args) ≡ head_costs (NodeHead-F.NewOf site (node_cost target) (map node_cost args))
cost-head-NewOf site target args = ap head_cost (sym (head.rolls-NewOf site target args)) ∙ fold-roll-NodeHead ℕ ℕ ℕ head_costs suffix_costs node_costs
    (NodeHead-F.NewOf site target args)

pub uses-head-NewOf : (site : ℕ) (target : Node) (args : List Node)
    → head_uses (head.NewOf site target args) ≡ head_used (NodeHead-F.NewOf site (node_uses target) (map node_uses args))
uses-head-NewOf site target args = ap head_uses (sym (head.rolls-NewOf site target args)) ∙ fold-roll-NodeHead Uses Uses Uses head_used suffix_used node_used
    (NodeHead-F.NewOf site target args)

pub act-suffix-Member : (a : Around) (site : ℕ) → suffix_act a (suffix.Member site) ≡ suffix_step a (NodeSuffix-F.Member site)
act-suffix-Member a site = ap (suffix_act a) (sym (suffix.rolls-Member site)) ∙ fold-roll-NodeSuffix Evaluates Reads Evaluates (head_step a) (suffix_step a)
    (node_step a) (NodeSuffix-F.Member site)

pub cost-suffix-Member : (site : ℕ) → suffix_cost (suffix.Member site) ≡ suffix_costs (NodeSuffix-F.Member site)
cost-suffix-Member site = ap suffix_cost (sym (suffix.rolls-Member site)) ∙ fold-roll-NodeSuffix ℕ ℕ ℕ head_costs suffix_costs node_costs
    (NodeSuffix-F.Member site)

pub uses-suffix-Member : (site : ℕ) → suffix_uses (suffix.Member site) ≡ suffix_used (NodeSuffix-F.Member site)
uses-suffix-Member site = ap suffix_uses (sym (suffix.rolls-Member site)) ∙ fold-roll-NodeSuffix Uses Uses Uses head_used suffix_used node_used
    (NodeSuffix-F.Member site)

pub act-suffix-MemberCall : (a : Around) (site : ℕ) (args : List Node)
    → suffix_act a (suffix.MemberCall site args) ≡ suffix_step a (NodeSuffix-F.MemberCall site (map (node_act a) args))
act-suffix-MemberCall a site args = ap (suffix_act a) (sym (suffix.rolls-MemberCall site args)) ∙ fold-roll-NodeSuffix Evaluates Reads Evaluates (head_step a)
    (suffix_step a) (node_step a) (NodeSuffix-F.MemberCall site args)

pub cost-suffix-MemberCall : (site : ℕ) (args : List Node) → suffix_cost (suffix.MemberCall site args) ≡ suffix_costs
    (NodeSuffix-F.MemberCall site (map node_cost args))
cost-suffix-MemberCall site args = ap suffix_cost (sym (suffix.rolls-MemberCall site args)) ∙ fold-roll-NodeSuffix ℕ ℕ ℕ head_costs suffix_costs node_costs
    (NodeSuffix-F.MemberCall site args)

pub uses-suffix-MemberCall : (site : ℕ) (args : List Node) → suffix_uses (suffix.MemberCall site args) ≡ suffix_used
    (NodeSuffix-F.MemberCall site (map node_uses args))
uses-suffix-MemberCall site args = ap suffix_uses (sym (suffix.rolls-MemberCall site args)) ∙ fold-roll-NodeSuffix Uses Uses Uses head_used suffix_used
    node_used (NodeSuffix-F.MemberCall site args)

pub act-suffix-Index : (a : Around) (site : ℕ) (key : Node) → suffix_act a (suffix.Index site key) ≡ suffix_step a (NodeSuffix-F.Index site (node_act a key))
act-suffix-Index a site key = ap (suffix_act a) (sym (suffix.rolls-Index site key)) ∙ fold-roll-NodeSuffix Evaluates Reads Evaluates (head_step a)
    (suffix_step a) (node_step a) (NodeSuffix-F.Index site key)

pub cost-suffix-Index : (site : ℕ) (key : Node) → suffix_cost (suffix.Index site key) ≡ suffix_costs (NodeSuffix-F.Index site (node_cost key))
cost-suffix-Index site key = ap suffix_cost (sym (suffix.rolls-Index site key)) ∙ fold-roll-NodeSuffix ℕ ℕ ℕ head_costs suffix_costs node_costs
    (NodeSuffix-F.Index site key)

pub uses-suffix-Index : (site : ℕ) (key : Node) → suffix_uses (suffix.Index site key) ≡ suffix_used (NodeSuffix-F.Index site (node_uses key))
uses-suffix-Index site key = ap suffix_uses (sym (suffix.rolls-Index site key)) ∙ fold-roll-NodeSuffix Uses Uses Uses head_used suffix_used node_used
    (NodeSuffix-F.Index site key)

pub act-suffix-Call : (a : Around) (site : ℕ) (args : List Node)
    → suffix_act a (suffix.Call site args) ≡ suffix_step a (NodeSuffix-F.Call site (map (node_act a) args))
act-suffix-Call a site args = ap (suffix_act a) (sym (suffix.rolls-Call site args)) ∙ fold-roll-NodeSuffix Evaluates Reads Evaluates (head_step a)
    (suffix_step a) (node_step a) (NodeSuffix-F.Call site args)

pub cost-suffix-Call : (site : ℕ) (args : List Node) → suffix_cost (suffix.Call site args) ≡ suffix_costs (NodeSuffix-F.Call site (map node_cost args))
cost-suffix-Call site args = ap suffix_cost (sym (suffix.rolls-Call site args)) ∙ fold-roll-NodeSuffix ℕ ℕ ℕ head_costs suffix_costs node_costs
    (NodeSuffix-F.Call site args)

pub uses-suffix-Call : (site : ℕ) (args : List Node) → suffix_uses (suffix.Call site args) ≡ suffix_used (NodeSuffix-F.Call site (map node_uses args))
uses-suffix-Call site args = ap suffix_uses (sym (suffix.rolls-Call site args)) ∙ fold-roll-NodeSuffix Uses Uses Uses head_used suffix_used node_used
    (NodeSuffix-F.Call site args)

pub act-step-Set : (a : Around) (k : ℕ) (e : Node) → step_act a (step.Set k e) ≡ step_step a (Step-F.Set k e)
act-step-Set a k e = ap (step_act a) (sym (step.rolls-Set k e)) ∙ fold-roll-Step Executes Executes (step_step a) steps_step (Step-F.Set k e)

pub cost-step-Set : (k : ℕ) (e : Node) → step_cost (step.Set k e) ≡ step_costs (Step-F.Set k e)
cost-step-Set k e = ap step_cost (sym (step.rolls-Set k e)) ∙ fold-roll-Step ℕ ℕ step_costs steps_costs (Step-F.Set k e)

pub uses-step-Set : (k : ℕ) (e : Node) → step_uses (step.Set k e) ≡ step_used (Step-F.Set k e)
uses-step-Set k e = ap step_uses (sym (step.rolls-Set k e)) ∙ fold-roll-Step Uses Uses step_used steps_used (Step-F.Set k e)

pub act-step-SetMember : (a : Around) (site : ℕ) (target : Node) (e : Node)
    → step_act a (step.SetMember site target e) ≡ step_step a (Step-F.SetMember site target e)
act-step-SetMember a site target e = ap (step_act a) (sym (step.rolls-SetMember site target e)) ∙ fold-roll-Step Executes Executes (step_step a) steps_step
    (Step-F.SetMember site target e)

pub cost-step-SetMember : (site : ℕ) (target : Node) (e : Node) → step_cost (step.SetMember site target e) ≡ step_costs (Step-F.SetMember site target e)
cost-step-SetMember site target e = ap step_cost (sym (step.rolls-SetMember site target e)) ∙ fold-roll-Step ℕ ℕ step_costs steps_costs
    (Step-F.SetMember site target e)

pub uses-step-SetMember : (site : ℕ) (target : Node) (e : Node) → step_uses (step.SetMember site target e) ≡ step_used (Step-F.SetMember site target e)
uses-step-SetMember site target e = ap step_uses (sym (step.rolls-SetMember site target e)) ∙ fold-roll-Step Uses Uses step_used steps_used
    (Step-F.SetMember site target e)

pub act-step-SetIndex : (a : Around) (site : ℕ) (target : Node) (key : Node) (e : Node)
    → step_act a (step.SetIndex site target key e) ≡ step_step a (Step-F.SetIndex site target key e)
act-step-SetIndex a site target key e = ap (step_act a) (sym (step.rolls-SetIndex site target key e)) ∙ fold-roll-Step Executes Executes (step_step a)
    steps_step (Step-F.SetIndex site target key e)

pub cost-step-SetIndex : (site : ℕ) (target : Node) (key : Node) (e : Node)
    → step_cost (step.SetIndex site target key e) ≡ step_costs (Step-F.SetIndex site target key e)
cost-step-SetIndex site target key e = ap step_cost (sym (step.rolls-SetIndex site target key e)) ∙ fold-roll-Step ℕ ℕ step_costs steps_costs
    (Step-F.SetIndex site target key e)

pub uses-step-SetIndex : (site : ℕ) (target : Node) (key : Node) (e : Node)
    → step_uses (step.SetIndex site target key e) ≡ step_used (Step-F.SetIndex site target key e)
uses-step-SetIndex site target key e = ap step_uses (sym (step.rolls-SetIndex site target key e)) ∙ fold-roll-Step Uses Uses step_used steps_used
    (Step-F.SetIndex site target key e)

pub act-step-DeleteMember : (a : Around) (site : ℕ) (target : Node)
    → step_act a (step.DeleteMember site target) ≡ step_step a (Step-F.DeleteMember site target)
act-step-DeleteMember a site target = ap (step_act a) (sym (step.rolls-DeleteMember site target)) ∙ fold-roll-Step Executes Executes (step_step a) steps_step
    (Step-F.DeleteMember site target)

pub cost-step-DeleteMember : (site : ℕ) (target : Node) → step_cost (step.DeleteMember site target) ≡ step_costs (Step-F.DeleteMember site target)
cost-step-DeleteMember site target = ap step_cost (sym (step.rolls-DeleteMember site target)) ∙ fold-roll-Step ℕ ℕ step_costs steps_costs
    (Step-F.DeleteMember site target)

pub uses-step-DeleteMember : (site : ℕ) (target : Node) → step_uses (step.DeleteMember site target) ≡ step_used (Step-F.DeleteMember site target)
uses-step-DeleteMember site target = ap step_uses (sym (step.rolls-DeleteMember site target)) ∙ fold-roll-Step Uses Uses step_used steps_used
    (Step-F.DeleteMember site target)

pub act-step-DeleteIndex : (a : Around) (site : ℕ) (target : Node) (key : Node)
    → step_act a (step.DeleteIndex site target key) ≡ step_step a (Step-F.DeleteIndex site target key)
act-step-DeleteIndex a site target key = ap (step_act a) (sym (step.rolls-DeleteIndex site target key)) ∙ fold-roll-Step Executes Executes (step_step a)
    steps_step (Step-F.DeleteIndex site target key)

pub cost-step-DeleteIndex : (site : ℕ) (target : Node) (key : Node)
    → step_cost (step.DeleteIndex site target key) ≡ step_costs (Step-F.DeleteIndex site target key)
cost-step-DeleteIndex site target key = ap step_cost (sym (step.rolls-DeleteIndex site target key)) ∙ fold-roll-Step ℕ ℕ step_costs steps_costs
    (Step-F.DeleteIndex site target key)

pub uses-step-DeleteIndex : (site : ℕ) (target : Node) (key : Node)
    → step_uses (step.DeleteIndex site target key) ≡ step_used (Step-F.DeleteIndex site target key)
uses-step-DeleteIndex site target key = ap step_uses (sym (step.rolls-DeleteIndex site target key)) ∙ fold-roll-Step Uses Uses step_used steps_used
    (Step-F.DeleteIndex site target key)

pub act-step-If : (a : Around) (site : ℕ) (test : Node) (yes_body : Steps) (no_body : Option Steps)
    → step_act a (step.If site test yes_body no_body) ≡ step_step a (Step-F.If site test (body_act a yes_body) (option_map (body_act a) no_body))
act-step-If a site test yes_body None = ap (step_act a) (sym (step.rolls-If site test yes_body None)) ∙ fold-roll-Step Executes Executes (step_step a)
    steps_step (Step-F.If site test yes_body None)
act-step-If a site test yes_body (Some b) = ap (step_act a) (sym (step.rolls-If site test yes_body (Some b))) ∙ fold-roll-Step Executes Executes (step_step a)
    steps_step (Step-F.If site test yes_body (Some b))

pub cost-step-If : (site : ℕ) (test : Node) (yes_body : Steps) (no_body : Option Steps)
    → step_cost (step.If site test yes_body no_body) ≡ step_costs (Step-F.If site test (steps_cost yes_body) (option_map steps_cost no_body))
cost-step-If site test yes_body None = ap step_cost (sym (step.rolls-If site test yes_body None)) ∙ fold-roll-Step ℕ ℕ step_costs steps_costs
    (Step-F.If site test yes_body None)
cost-step-If site test yes_body (Some b) = ap step_cost (sym (step.rolls-If site test yes_body (Some b))) ∙ fold-roll-Step ℕ ℕ step_costs steps_costs
    (Step-F.If site test yes_body (Some b))

pub uses-step-If : (site : ℕ) (test : Node) (yes_body : Steps) (no_body : Option Steps)
    → step_uses (step.If site test yes_body no_body) ≡ step_used (Step-F.If site test (steps_uses yes_body) (option_map steps_uses no_body))
uses-step-If site test yes_body None = ap step_uses (sym (step.rolls-If site test yes_body None)) ∙ fold-roll-Step Uses Uses step_used steps_used
    (Step-F.If site test yes_body None)
uses-step-If site test yes_body (Some b) = ap step_uses (sym (step.rolls-If site test yes_body (Some b))) ∙ fold-roll-Step Uses Uses step_used steps_used
    (Step-F.If site test yes_body (Some b))

pub act-step-While : (a : Around) (site : ℕ) (test : Node) (body : Steps)
    → step_act a (step.While site test body) ≡ step_step a (Step-F.While site test (body_act a body))
act-step-While a site test body = ap (step_act a) (sym (step.rolls-While site test body)) ∙ fold-roll-Step Executes Executes (step_step a) steps_step
    (Step-F.While site test body)

pub cost-step-While : (site : ℕ) (test : Node) (body : Steps) → step_cost (step.While site test body) ≡ step_costs (Step-F.While site test (steps_cost body))
cost-step-While site test body = ap step_cost (sym (step.rolls-While site test body)) ∙ fold-roll-Step ℕ ℕ step_costs steps_costs
    (Step-F.While site test body)

pub uses-step-While : (site : ℕ) (test : Node) (body : Steps) → step_uses (step.While site test body) ≡ step_used (Step-F.While site test (steps_uses body))
uses-step-While site test body = ap step_uses (sym (step.rolls-While site test body)) ∙ fold-roll-Step Uses Uses step_used steps_used
    (Step-F.While site test body)

pub act-step-Return : (a : Around) (e : Node) → step_act a (step.Return e) ≡ step_step a (Step-F.Return e)
act-step-Return a e = ap (step_act a) (sym (step.rolls-Return e)) ∙ fold-roll-Step Executes Executes (step_step a) steps_step (Step-F.Return e)

pub cost-step-Return : (e : Node) → step_cost (step.Return e) ≡ step_costs (Step-F.Return e)
cost-step-Return e = ap step_cost (sym (step.rolls-Return e)) ∙ fold-roll-Step ℕ ℕ step_costs steps_costs (Step-F.Return e)

pub uses-step-Return : (e : Node) → step_uses (step.Return e) ≡ step_used (Step-F.Return e)
uses-step-Return e = ap step_uses (sym (step.rolls-Return e)) ∙ fold-roll-Step Uses Uses step_used steps_used (Step-F.Return e)

pub act-step-Print : (a : Around) (e : Node) → step_act a (step.Print e) ≡ step_step a (Step-F.Print e)
act-step-Print a e = ap (step_act a) (sym (step.rolls-Print e)) ∙ fold-roll-Step Executes Executes (step_step a) steps_step (Step-F.Print e)

pub cost-step-Print : (e : Node) → step_cost (step.Print e) ≡ step_costs (Step-F.Print e)
cost-step-Print e = ap step_cost (sym (step.rolls-Print e)) ∙ fold-roll-Step ℕ ℕ step_costs steps_costs (Step-F.Print e)

pub uses-step-Print : (e : Node) → step_uses (step.Print e) ≡ step_used (Step-F.Print e)
uses-step-Print e = ap step_uses (sym (step.rolls-Print e)) ∙ fold-roll-Step Uses Uses step_used steps_used (Step-F.Print e)

pub act-step-Try : (a : Around) (body : Steps) (k : ℕ) (caught : Steps)
    → step_act a (step.Try body k caught) ≡ step_step a (Step-F.Try (body_act a body) k (body_act a caught))
act-step-Try a body k caught = ap (step_act a) (sym (step.rolls-Try body k caught)) ∙ fold-roll-Step Executes Executes (step_step a) steps_step
    (Step-F.Try body k caught)

pub cost-step-Try : (body : Steps) (k : ℕ) (caught : Steps) → step_cost (step.Try body k caught) ≡ step_costs
    (Step-F.Try (steps_cost body) k (steps_cost caught))
cost-step-Try body k caught = ap step_cost (sym (step.rolls-Try body k caught)) ∙ fold-roll-Step ℕ ℕ step_costs steps_costs (Step-F.Try body k caught)

pub uses-step-Try : (body : Steps) (k : ℕ) (caught : Steps) → step_uses (step.Try body k caught) ≡ step_used
    (Step-F.Try (steps_uses body) k (steps_uses caught))
uses-step-Try body k caught = ap step_uses (sym (step.rolls-Try body k caught)) ∙ fold-roll-Step Uses Uses step_used steps_used (Step-F.Try body k caught)

pub act-step-Plain : (a : Around) (e : Node) → step_act a (step.Plain e) ≡ step_step a (Step-F.Plain e)
act-step-Plain a e = ap (step_act a) (sym (step.rolls-Plain e)) ∙ fold-roll-Step Executes Executes (step_step a) steps_step (Step-F.Plain e)

pub cost-step-Plain : (e : Node) → step_cost (step.Plain e) ≡ step_costs (Step-F.Plain e)
cost-step-Plain e = ap step_cost (sym (step.rolls-Plain e)) ∙ fold-roll-Step ℕ ℕ step_costs steps_costs (Step-F.Plain e)

pub uses-step-Plain : (e : Node) → step_uses (step.Plain e) ≡ step_used (Step-F.Plain e)
uses-step-Plain e = ap step_uses (sym (step.rolls-Plain e)) ∙ fold-roll-Step Uses Uses step_used steps_used (Step-F.Plain e)

pub act-node : (a : Around) (e : Node) → node_act a e ≡ node_step a (record { head = head_act a e.head; suffixes = map (suffix_act a) e.suffixes })
act-node a e = fold-roll-Node Evaluates Reads Evaluates (head_step a) (suffix_step a) (node_step a) (record { head = e.head; suffixes = e.suffixes })

pub cost-node : (e : Node) → node_cost e ≡ head_cost e.head + sum (map suffix_cost e.suffixes)
cost-node e = fold-roll-Node ℕ ℕ ℕ head_costs suffix_costs node_costs (record { head = e.head; suffixes = e.suffixes })

pub uses-node : (e : Node) → node_uses e ≡ node_used (record { head = head_uses e.head; suffixes = map suffix_uses e.suffixes })
uses-node e = fold-roll-Node Uses Uses Uses head_used suffix_used node_used (record { head = e.head; suffixes = e.suffixes })

pub act-steps : (a : Around) (b : Steps) → body_act a b ≡ steps_act (map (step_act a) b.0)
act-steps a b = fold-roll-Steps Executes Executes (step_step a) steps_step (record { 0 = b.0 })

pub cost-steps : (b : Steps) → steps_cost b ≡ sum (map step_cost b.0)
cost-steps b = fold-roll-Steps ℕ ℕ step_costs steps_costs (record { 0 = b.0 })

pub uses-steps : (b : Steps) → steps_uses b ≡ steps_used (record { 0 = map step_uses b.0 })
uses-steps b = fold-roll-Steps Uses Uses step_used steps_used (record { 0 = b.0 })
