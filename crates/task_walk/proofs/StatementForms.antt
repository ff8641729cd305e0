-- Statements that make an operation, form by form.
use Rattle.std.proofs.Common.{◌≡◌, ℕ, zero, suc, ◌+◌, List, [], ◌∷◌, ◌++◌, map, sum, flat_map, true, false, Some, refl, ap, sym, ◌∙◌, subst, arith}
use Rattle.std.proofs.Common.{append-nil}
use Rattle.dyn_value.specs.declared.value.Value.{Value}
use Rattle.task_code.specs.declared.code.FunctionCode.{FunctionCode}
use Rattle.task_code.specs.declared.code.Node.{Node}
use Rattle.task_code.specs.declared.code.Step.{Step}
use Rattle.task_code.specs.declared.code.Step.TheVariants as step
use Rattle.task_code.specs.declared.frame.Flow.TheVariants.{Next}
use Rattle.task_code.specs.declared.frame.Frame.{Frame}
use Rattle.task_code.specs.Acts.{Gives, Act, and_then, within}
use Rattle.task_code.specs.Codes.{Around, Evaluates, Executes, node_act, operands_act, asks, next_after, step_act}
use Rattle.task_code.specs.Costs.{Uses, AtSite, node_cost, node_uses, step_cost, step_uses}
use Rattle.task_walk.specs.declared.code.Code.{Code}
use Rattle.task_walk.specs.declared.part.Part.{Part}
use Rattle.task_walk.specs.declared.stop.Stop.{Stop}
use Rattle.task_walk.specs.Comings.{Told}
use Rattle.task_walk.specs.Parts.{in_levels, opened, operation_act, part_act, part_cost, part_uses}
use Rattle.task_walk.specs.Tales.{Teller, Tale, Asked, AreProper, IsProperValue}
use Rattle.task_walk.specs.Walks.{stopped, IsReady, IsProperFlow, Walked}
use Rattle.task_walk.proofs.Forms.{act-step-SetMember, cost-step-SetMember, uses-step-SetMember, act-step-SetIndex, cost-step-SetIndex, uses-step-SetIndex}
use Rattle.task_walk.proofs.Forms.{act-step-DeleteMember, cost-step-DeleteMember, uses-step-DeleteMember, act-step-DeleteIndex, cost-step-DeleteIndex}
use Rattle.task_walk.proofs.Forms.{uses-step-DeleteIndex}
use Rattle.task_walk.proofs.Loops.{sum_first}
use Rattle.task_walk.proofs.Nodes.{step_walked, then_then, one_operand, two_operands, three_operands}
use Rattle.task_walk.proofs.Walkings.{walked_end, walked_stopped, walked_then}

-- the walk may go on with what a statement of this form uses and costs
pub ready_form : (code : Code) (x form : Step) (uses : Uses) (cost : ℕ) (s : Frame) (t : Tale)
    → IsReady code t (step_uses x) (step_cost x) s → x ≡ form → step_uses form ≡ uses → step_cost form ≡ cost
    → IsReady code t uses cost s
ready_form code x form uses cost s t ready is used costs =
    subst (λ n. IsReady code t uses n s) (ap step_cost is ∙ costs) (subst (λ us. IsReady code t us (step_cost x) s) (ap step_uses is ∙ used) ready)

-- an expression of which the value is let go
pub walked_value : {H : Type 0} (by : Teller) (functions : List FunctionCode) (levels : ℕ) (act : Around → Act Frame Value) (cost : ℕ) (v : Value)
    (first last : Frame) (old new : Told) (before now : H → List Asked → Type 0)
    → Walked by functions levels act IsProperValue cost (Some (Gives v)) first last old new before now
    → Walked by functions levels (λ a. and_then (act a) next_after) IsProperFlow cost (Some (Gives Next)) first last old new before now
walked_value by functions levels act cost v first last old new before now one =
    walked_then by functions levels act (λ a. next_after) IsProperValue IsProperFlow cost 0 cost v (Some (Gives Next)) first last last old new new before now
    now one
    (walked_end new.world.by functions levels IsProperFlow 0 (Gives Next) last new now refl tt
    (subst (λ b. AreProper b last.locals) (sym one.same) one.locals)) (omega arith)

-- an operation on parts, of which the value is let go
abbrev pub operated : Around → ℕ → List Part → Executes
operated a site parts levels s = and_then (operation_act a site parts levels s) next_after

pub step_operated : {H : Type 0} (by : Teller) (functions : List FunctionCode) (levels : ℕ) (x form : Step) (site : ℕ) (parts : List Part) (v : Value)
    (first last : Frame) (old new : Told) (before now : H → List Asked → Type 0)
    → x ≡ form → ((a : Around) → step_act a form ≡ operated a site parts) → step_cost form ≡ sum (map part_cost parts) + 1
    → Walked by functions levels (λ a. operation_act a site parts levels first) IsProperValue (sum (map part_cost parts) + 1) (Some (Gives v)) first last old
    new before now
    → Walked by functions levels (λ a. step_act a x levels first) IsProperFlow (step_cost x) (Some (Gives Next)) first last old new before now
step_operated by functions levels x form site parts v first last old new before now is act costs one =
    step_walked by functions levels x form (λ a. operated a site parts) IsProperFlow (sum (map part_cost parts) + 1) (Some (Gives Next)) first last old new
    before now is act costs
    (walked_value by functions levels (λ a. operation_act a site parts levels first) (sum (map part_cost parts) + 1) v first last old new before now one)

pub step_unoperated : {H : Type 0} (why : Stop) (by : Teller) (functions : List FunctionCode) (levels : ℕ) (x form : Step) (site : ℕ) (parts : List Part)
    (first last : Frame) (old new : Told) (before now : H → List Asked → Type 0)
    → x ≡ form → ((a : Around) → step_act a form ≡ operated a site parts) → step_cost form ≡ sum (map part_cost parts) + 1
    → Walked by functions levels (λ a. operation_act a site parts levels first) IsProperValue (sum (map part_cost parts) + 1) (stopped why) first last old new
    before now
    → Walked by functions levels (λ a. step_act a x levels first) IsProperFlow (step_cost x) (stopped why) first last old new before now
step_unoperated why by functions levels x form site parts first last old new before now is act costs one =
    step_walked by functions levels x form (λ a. operated a site parts) IsProperFlow (sum (map part_cost parts) + 1) (stopped why) first last old new before
    now is act costs
    (walked_stopped why by functions levels (λ a. operation_act a site parts levels first) (λ a. next_after) IsProperValue IsProperFlow
    (sum (map part_cost parts) + 1) (sum (map part_cost parts) + 1)
    first last old new before now one (omega arith))

-- a key is evaluated inside one more level
abbrev pub key_act : Around → Node → Evaluates
key_act a e levels s = within levels s (λ inner. node_act a e inner s)

level_at : (a : Around) (e : Node) (levels : ℕ) (s : Frame) → in_levels (opened true levels) s (λ n. node_act a e n s) ≡ within levels s
    (λ n. node_act a e n s)
level_at a e zero s = refl
level_at a e (suc levels) s = refl

key_at : (a : Around) (p : Part) (e : Node) (levels : ℕ) (s : Frame) → p.opens ≡ true → p.node.now ≡ e → part_act a p levels s ≡ key_act a e levels s
key_at a p e levels s deeper is =
    ap (λ b. in_levels (opened b levels) s (λ n. node_act a p.node.now n s)) deeper ∙ level_at a p.node.now levels s ∙ ap (λ x. key_act a x levels s) is

part_key : (a : Around) (p : Part) (e : Node) → p.opens ≡ true → p.node.now ≡ e → part_act a p ≡ key_act a e
part_key a p e deeper is = λ i. λ levels s. key_at a p e levels s deeper is i

value_at : (a : Around) (p : Part) (e : Node) (levels : ℕ) (s : Frame) → p.opens ≡ false → p.node.now ≡ e → part_act a p levels s ≡ node_act a e levels s
value_at a p e levels s shut is =
    ap (λ b. in_levels (opened b levels) s (λ n. node_act a p.node.now n s)) shut ∙ ap (λ x. node_act a x levels s) is

part_value : (a : Around) (p : Part) (e : Node) → p.opens ≡ false → p.node.now ≡ e → part_act a p ≡ node_act a e
part_value a p e shut is = λ i. λ levels s. value_at a p e levels s shut is i

unfold_operated : (a : Around) (site : ℕ) (parts : List Part) (levels : ℕ) (s : Frame)
    → operated a site parts levels s ≡ and_then (operands_act [] (map (part_act a) parts) levels s)
    (λ operands after. and_then (asks a.plan site operands after) next_after)
unfold_operated a site parts levels s = then_then (operands_act [] (map (part_act a) parts) levels s) (λ operands after. asks a.plan site operands after)
    next_after

one_part : (a : Around) (site : ℕ) (p : Part) (x : Evaluates) (levels : ℕ) (s : Frame) → part_act a p ≡ x
    → and_then (x levels s) (λ v t. and_then (asks a.plan site (v ∷ []) t) next_after) ≡ operated a site (p ∷ []) levels s
one_part a site p x levels s is = sym (
    unfold_operated a site (p ∷ []) levels s
    ∙ ap (λ f. and_then (operands_act [] (f ∷ []) levels s) (λ vs after. and_then (asks a.plan site vs after) next_after)) is
    ∙ one_operand x levels s (λ vs after. and_then (asks a.plan site vs after) next_after))

two_parts : (a : Around) (site : ℕ) (p q : Part) (x y : Evaluates) (levels : ℕ) (s : Frame) → part_act a p ≡ x → part_act a q ≡ y
    → and_then (x levels s) (λ v t. and_then (y levels t) (λ w u. and_then (asks a.plan site (v ∷ w ∷ []) u) next_after)) ≡ operated a site (p ∷ q ∷ [])
    levels s
two_parts a site p q x y levels s one two = sym (
    unfold_operated a site (p ∷ q ∷ []) levels s
    ∙ ap (λ f. and_then (operands_act [] (f ∷ part_act a q ∷ []) levels s) (λ vs after. and_then (asks a.plan site vs after) next_after)) one
    ∙ ap (λ f. and_then (operands_act [] (x ∷ f ∷ []) levels s) (λ vs after. and_then (asks a.plan site vs after) next_after)) two
    ∙ two_operands x y levels s (λ vs after. and_then (asks a.plan site vs after) next_after))

three_parts : (a : Around) (site : ℕ) (p q r : Part) (x y z : Evaluates) (levels : ℕ) (s : Frame) → part_act a p ≡ x → part_act a q ≡ y → part_act a r ≡ z
    → and_then (x levels s) (λ v t. and_then (y levels t) (λ w u. and_then (z levels u) (λ k o. and_then (asks a.plan site (v ∷ w ∷ k ∷ []) o) next_after))) ≡
    operated a site (p ∷ q ∷ r ∷ []) levels s
three_parts a site p q r x y z levels s one two three = sym (
    unfold_operated a site (p ∷ q ∷ r ∷ []) levels s
    ∙ ap (λ f. and_then (operands_act [] (f ∷ part_act a q ∷ part_act a r ∷ []) levels s) (λ vs after. and_then (asks a.plan site vs after) next_after)) one
    ∙ ap (λ f. and_then (operands_act [] (x ∷ f ∷ part_act a r ∷ []) levels s) (λ vs after. and_then (asks a.plan site vs after) next_after)) two
    ∙ ap (λ f. and_then (operands_act [] (x ∷ y ∷ f ∷ []) levels s) (λ vs after. and_then (asks a.plan site vs after) next_after)) three
    ∙ three_operands x y z levels s (λ vs after. and_then (asks a.plan site vs after) next_after))

pub act_set_member : (a : Around) (site : ℕ) (target e : Node) (p q : Part) → p.opens ≡ false → p.node.now ≡ target → q.opens ≡ false → q.node.now ≡ e
    → step_act a (step.SetMember site target e) ≡ operated a site (p ∷ q ∷ [])
act_set_member a site target e p q shut_p is_p shut_q is_q =
    act-step-SetMember a site target e
    ∙ (λ i. λ levels s. two_parts a site p q (node_act a target) (node_act a e) levels s (part_value a p target shut_p is_p) (part_value a q e shut_q is_q) i)

pub act_set_index : (a : Around) (site : ℕ) (target key e : Node) (p q r : Part) → p.opens ≡ false → p.node.now ≡ target → q.opens ≡ true → q.node.now ≡ key
    → r.opens ≡ false → r.node.now ≡ e
    → step_act a (step.SetIndex site target key e) ≡ operated a site (p ∷ q ∷ r ∷ [])
act_set_index a site target key e p q r shut_p is_p open_q is_q shut_r is_r =
    act-step-SetIndex a site target key e
    ∙ (λ i. λ levels s. three_parts a site p q r (node_act a target) (key_act a key) (node_act a e) levels s (part_value a p target shut_p is_p)
    (part_key a q key open_q is_q) (part_value a r e shut_r is_r) i)

pub act_delete_member : (a : Around) (site : ℕ) (target : Node) (p : Part) → p.opens ≡ false → p.node.now ≡ target
    → step_act a (step.DeleteMember site target) ≡ operated a site (p ∷ [])
act_delete_member a site target p shut is =
    act-step-DeleteMember a site target ∙ (λ i. λ levels s. one_part a site p (node_act a target) levels s (part_value a p target shut is) i)

pub act_delete_index : (a : Around) (site : ℕ) (target key : Node) (p q : Part) → p.opens ≡ false → p.node.now ≡ target → q.opens ≡ true → q.node.now ≡ key
    → step_act a (step.DeleteIndex site target key) ≡ operated a site (p ∷ q ∷ [])
act_delete_index a site target key p q shut_p is_p open_q is_q =
    act-step-DeleteIndex a site target key
    ∙ (λ i. λ levels s. two_parts a site p q (node_act a target) (key_act a key) levels s (part_value a p target shut_p is_p) (part_key a q key open_q is_q)
    i)

sum_one : (p : Part) (e : Node) → p.node.now ≡ e → sum (map part_cost (p ∷ [])) ≡ node_cost e
sum_one p e is = omega (arith, sum_first part_cost p [], ap node_cost is)

sum_two : (p q : Part) (l r : Node) → p.node.now ≡ l → q.node.now ≡ r → sum (map part_cost (p ∷ q ∷ [])) ≡ node_cost l + node_cost r
sum_two p q l r left right = omega (arith, sum_first part_cost p (q ∷ []), sum_first part_cost q [], ap node_cost left, ap node_cost right)

sum_three : (p q r : Part) (l m n : Node) → p.node.now ≡ l → q.node.now ≡ m → r.node.now ≡ n
    → sum (map part_cost (p ∷ q ∷ r ∷ [])) ≡ node_cost l + node_cost m + node_cost n
sum_three p q r l m n left middle right =
    omega (
      arith,
      sum_first part_cost p (q ∷ r ∷ []),
      sum_first part_cost q (r ∷ []),
      sum_first part_cost r [],
      ap node_cost left,
      ap node_cost middle,
      ap
          node_cost right,
    )

pub cost_set_member : (site : ℕ) (target e : Node) (p q : Part) → p.node.now ≡ target → q.node.now ≡ e
    → step_cost (step.SetMember site target e) ≡ sum (map part_cost (p ∷ q ∷ [])) + 1
cost_set_member site target e p q is_p is_q = omega (arith, cost-step-SetMember site target e, sum_two p q target e is_p is_q)

pub cost_set_index : (site : ℕ) (target key e : Node) (p q r : Part) → p.node.now ≡ target → q.node.now ≡ key → r.node.now ≡ e
    → step_cost (step.SetIndex site target key e) ≡ sum (map part_cost (p ∷ q ∷ r ∷ [])) + 1
cost_set_index site target key e p q r is_p is_q is_r = omega (arith, cost-step-SetIndex site target key e, sum_three p q r target key e is_p is_q is_r)

pub cost_delete_member : (site : ℕ) (target : Node) (p : Part) → p.node.now ≡ target
    → step_cost (step.DeleteMember site target) ≡ sum (map part_cost (p ∷ [])) + 1
cost_delete_member site target p is = omega (arith, cost-step-DeleteMember site target, sum_one p target is)

pub cost_delete_index : (site : ℕ) (target key : Node) (p q : Part) → p.node.now ≡ target → q.node.now ≡ key
    → step_cost (step.DeleteIndex site target key) ≡ sum (map part_cost (p ∷ q ∷ [])) + 1
cost_delete_index site target key p q is_p is_q = omega (arith, cost-step-DeleteIndex site target key, sum_two p q target key is_p is_q)

-- what the parts of an operation use
uses_one : (p : Part) (e : Node) → p.node.now ≡ e → node_uses e ≡ flat_map part_uses (p ∷ [])
uses_one p e is = ap node_uses (sym is) ∙ sym (append-nil (node_uses p.node.now))

uses_two : (p q : Part) (l r : Node) → p.node.now ≡ l → q.node.now ≡ r → node_uses l ++ node_uses r ≡ flat_map part_uses (p ∷ q ∷ [])
uses_two p q l r left right = ap (λ x. node_uses x ++ node_uses r) (sym left) ∙ ap (λ us. node_uses p.node.now ++ us) (uses_one q r right)

uses_three : (p q r : Part) (l m n : Node) → p.node.now ≡ l → q.node.now ≡ m → r.node.now ≡ n
    → node_uses l ++ (node_uses m ++ node_uses n) ≡ flat_map part_uses (p ∷ q ∷ r ∷ [])
uses_three p q r l m n left middle right = ap (λ x. node_uses x ++ (node_uses m ++ node_uses n)) (sym left) ∙ ap (λ us. node_uses p.node.now ++ us)
    (uses_two q r m n middle right)

pub uses_set_member : (site : ℕ) (target e : Node) (p q : Part) → p.node.now ≡ target → q.node.now ≡ e
    → step_uses (step.SetMember site target e) ≡ AtSite site 2 ∷ flat_map part_uses (p ∷ q ∷ [])
uses_set_member site target e p q is_p is_q = uses-step-SetMember site target e ∙ ap (λ us. AtSite site 2 ∷ us) (uses_two p q target e is_p is_q)

pub uses_set_index : (site : ℕ) (target key e : Node) (p q r : Part) → p.node.now ≡ target → q.node.now ≡ key → r.node.now ≡ e
    → step_uses (step.SetIndex site target key e) ≡ AtSite site 3 ∷ flat_map part_uses (p ∷ q ∷ r ∷ [])
uses_set_index site target key e p q r is_p is_q is_r = uses-step-SetIndex site target key e ∙ ap (λ us. AtSite site 3 ∷ us)
    (uses_three p q r target key e is_p is_q is_r)

pub uses_delete_member : (site : ℕ) (target : Node) (p : Part) → p.node.now ≡ target
    → step_uses (step.DeleteMember site target) ≡ AtSite site 1 ∷ flat_map part_uses (p ∷ [])
uses_delete_member site target p is = uses-step-DeleteMember site target ∙ ap (λ us. AtSite site 1 ∷ us) (uses_one p target is)

pub uses_delete_index : (site : ℕ) (target key : Node) (p q : Part) → p.node.now ≡ target → q.node.now ≡ key
    → step_uses (step.DeleteIndex site target key) ≡ AtSite site 2 ∷ flat_map part_uses (p ∷ q ∷ [])
uses_delete_index site target key p q is_p is_q = uses-step-DeleteIndex site target key ∙ ap (λ us. AtSite site 2 ∷ us) (uses_two p q target key is_p is_q)
