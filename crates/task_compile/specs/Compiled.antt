-- When code is the code of a part of a script.
use Rattle.std.specs.Prelude.{◌≡◌, ℕ, ◌+◌, ◌<◌, ◌≤◌, List, [], ◌∷◌, ◌++◌, length, get_or, None}
use Rattle.std.specs.List.{position}
use Rattle.std.specs.Str.{bytes_eq}
use Rattle.dyn_value.specs.declared.operator.UnOp.{UnOp}
use Rattle.dyn_value.specs.declared.value.Kind.{Kind}
use Rattle.dyn_value.specs.declared.value.Value.{Value}
use Rattle.standard_binders.specs.declared.binder.Binder.{Binder}
use Rattle.script_tokens.specs.declared.token.Token.{Token}
use Rattle.script_grammar.specs.declared.tree.Arg.{Arg}
use Rattle.script_grammar.specs.declared.tree.Expr.{Expr}
use Rattle.script_grammar.specs.declared.tree.Head.{Head}
use Rattle.script_grammar.specs.declared.tree.Head.TheVariants as head
use Rattle.script_grammar.specs.declared.tree.Suffix.{Suffix}
use Rattle.script_grammar.specs.Spelling.{spell_expr, spell_head, spell_suffix}
use Rattle.script_sites.specs.Sites.{expr_sites, sites_of_head, sites_of_suffix}
use Rattle.task_code.specs.declared.code.Node.{Node}
use Rattle.task_code.specs.declared.code.NodeHead.{NodeHead}
use Rattle.task_code.specs.declared.code.NodeSuffix.{NodeSuffix}
use Rattle.task_code.specs.declared.code.NodeHead.TheFolds.{fold-NodeSuffix}
use Rattle.task_code.specs.declared.frame.Frame.{Frame}
use Rattle.task_code.specs.Acts.{Act}
use Rattle.task_code.specs.Codes as code
use Rattle.task_code.specs.Codes.{Plan, Around, binder_at, node_act, head_act, head_step, suffix_step, node_step}
use Rattle.task_code.specs.Costs.{Uses, node_cost, node_uses, head_cost, head_uses, head_costs, suffix_costs, node_costs, head_used, suffix_used, node_used}
use Rattle.task_code.specs.Fits.{Fits}
use Rattle.task_compile.specs.declared.names.ItemNames.{ItemNames}
use Rattle.task_compile.specs.States.{Names, State, Given}
use Rattle.task_compile.specs.Evaluations.{Part, expr_part, part_of_head, part_of_suffix}
use Rattle.task_compile.specs.Agreements.{Agrees}

-- what a part of the script is given where its code is run with this
abbrev pub given_in : ItemNames → Around → Given
given_in items around =
    record { shared = items.shared; functions = items.functions; limit = around.limit; calls = around.calls }

-- a site of the plan has this binder
pub record HasBinder (plan : Plan) (site : ℕ) (b : Binder) : Type 0 where
  pub inside : site < length plan.sites
  pub known : get_or plan.sites site 0 < length plan.binders
  pub same : binder_at plan site ≡ b

-- the sites from this one on have these binders
abbrev pub HasBinders : Plan → ℕ → List Binder → Type 0
HasBinders plan site [] = Unit {0}
HasBinders plan site (b ∷ bs) = HasBinder plan site b × HasBinders plan (site + 1) bs

-- the functions and the shared objects are among those of a run
pub record HasItems (items : ItemNames) (plan : Plan) (limit : ℕ) : Type 0 where
  pub functions : length items.functions ≤ length plan.functions
  pub few_functions : length items.functions ≤ 256
  pub shared : length items.shared ≤ limit
  pub few_shared : length items.shared ≤ 4096

-- a part of a script: what it does, the binders of its sites, and its tokens
pub record Tree (X : Type 0) : Type 0 where
  pub part : Given → Part X
  pub binders : List Binder
  pub tokens : List Token

-- a part of the code: what it does, how often it asks at most without a turn, and what it uses
pub record Code (Y : Type 0) : Type 0 where
  pub act : Around → Y
  pub cost : ℕ
  pub uses : Uses

-- The part takes as many sites as it has binders. What the code uses is there, where the sites have those binders. It asks
-- at most once for each token.
pub record IsSized {X Y : Type 0} (items : ItemNames) (site : ℕ) (t : Tree X) (c : Code Y) : Type 0 where
  pub sites : (given : Given) → (t.part given).sites ≡ length t.binders
  pub fits : (plan : Plan) (limit : ℕ) → HasBinders plan site t.binders → HasItems items plan limit → Fits plan limit c.uses
  pub cost : c.cost ≤ length t.tokens

abbrev pub Evaluation : Type 0
Evaluation = Tree (ℕ → State → Act State Value)

abbrev pub Reading : Type 0
Reading = Tree (ℕ → Value → State → Act State Value)

-- The code does what an expression does, or its head, where these names are in scope and the first of its sites has this
-- number: for all levels that are left, and whatever the functions do.
pub record IsEvaluation (items : ItemNames) (scope : Names) (site : ℕ) (t : Evaluation) (c : Code code.Evaluates) : Type 0 where
  pub sized : IsSized items site t c
  pub same : (around : Around) → HasBinders around.plan site t.binders → (levels : ℕ)
      → Agrees scope ((t.part (given_in items around)).from site levels) (c.act around levels)

-- the same of suffixes, of each value
pub record IsReading (items : ItemNames) (scope : Names) (site : ℕ) (t : Reading) (c : Code code.Reads) : Type 0 where
  pub sized : IsSized items site t c
  pub same : (around : Around) → HasBinders around.plan site t.binders → (levels : ℕ) (v : Value)
      → Agrees scope ((t.part (given_in items around)).from site levels v) (c.act around levels v)

abbrev pub tree_of_expr : Expr → Evaluation
tree_of_expr e = record { part = λ given. expr_part given e; binders = expr_sites e; tokens = spell_expr e }

abbrev pub tree_of_head : Head → Evaluation
tree_of_head h = record { part = λ given. part_of_head given h; binders = sites_of_head h; tokens = spell_head h }

abbrev pub tree_of_suffix : Suffix → Reading
tree_of_suffix x = record { part = λ given. part_of_suffix given x; binders = sites_of_suffix x; tokens = spell_suffix x }

abbrev pub code_of_node : Node → Code code.Evaluates
code_of_node n = record { act = λ around. node_act around n; cost = node_cost n; uses = node_uses n }

abbrev pub code_of_head : NodeHead → Code code.Evaluates
code_of_head h = record { act = λ around. head_act around h; cost = head_cost h; uses = head_uses h }

abbrev pub suffix_act : Around → NodeSuffix → code.Reads
suffix_act around x = fold-NodeSuffix code.Evaluates code.Reads code.Evaluates (head_step around) (suffix_step around) (node_step around) x

abbrev pub suffix_cost : NodeSuffix → ℕ
suffix_cost x = fold-NodeSuffix ℕ ℕ ℕ head_costs suffix_costs node_costs x

abbrev pub suffix_uses : NodeSuffix → Uses
suffix_uses x = fold-NodeSuffix Uses Uses Uses head_used suffix_used node_used x

abbrev pub code_of_suffix : NodeSuffix → Code code.Reads
code_of_suffix x = record { act = λ around. suffix_act around x; cost = suffix_cost x; uses = suffix_uses x }

-- the node is the code of the expression
abbrev pub IsNode : ItemNames → Names → ℕ → Expr → Node → Type 0
IsNode items scope site e n = IsEvaluation items scope site (tree_of_expr e) (code_of_node n)

abbrev pub IsHead : ItemNames → Names → ℕ → Head → NodeHead → Type 0
IsHead items scope site h n = IsEvaluation items scope site (tree_of_head h) (code_of_head n)

-- the code of a name that is no local's
abbrev pub IsItemName : ItemNames → List ℕ → NodeHead → Type 0
IsItemName items name n =
    (scope : Names) (site : ℕ) → position (bytes_eq name) scope ≡ None → IsHead items scope site (head.Name name) n

-- the code of an operator before an operand, or of a conversion of it
abbrev pub IsUnary : ItemNames → Names → ℕ → Expr → NodeHead → Type 0
IsUnary items scope site e n =
    ((op : UnOp) → IsHead items scope site (head.Unary op e) n) × ((to : Kind) → IsHead items scope site (head.Convert to e) n)

abbrev pub IsSuffix : ItemNames → Names → ℕ → Suffix → NodeSuffix → Type 0
IsSuffix items scope site x n = IsReading items scope site (tree_of_suffix x) (code_of_suffix n)

-- The nodes are the code of the arguments' values, in order, and the site after them has this number.
abbrev pub AreArgs : ItemNames → Names → ℕ → List Arg → List Node → ℕ → Type 0
AreArgs items scope site [] [] next = next ≡ site
AreArgs items scope site (a ∷ args) (n ∷ nodes) next =
    IsNode items scope site a.value n × AreArgs items scope (site + length (expr_sites a.value)) args nodes next
AreArgs items scope site _ _ next = ⊥

-- the same of suffixes
abbrev pub AreSuffixes : ItemNames → Names → ℕ → List Suffix → List NodeSuffix → ℕ → Type 0
AreSuffixes items scope site [] [] next = next ≡ site
AreSuffixes items scope site (x ∷ xs) (n ∷ ns) next =
    IsSuffix items scope site x n × AreSuffixes items scope (site + length (sites_of_suffix x)) xs ns next
AreSuffixes items scope site _ _ next = ⊥
