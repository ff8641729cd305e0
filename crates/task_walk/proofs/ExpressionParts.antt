-- Operands that may each open a level.
use Rattle.std.proofs.Common.{◌≡◌, ℕ, zero, suc, ◌≤◌, List, Bool, true, false, Option, Some, None, ap, sym, ◌∙◌, arith}
use Rattle.std.specs.Prelude.{unwrap_or}
use Rattle.dyn_value.specs.declared.fault.Fault.TheVariants.{Depth}
use Rattle.dyn_value.specs.declared.value.Value.{Value}
use Rattle.task_code.specs.declared.code.FunctionCode.{FunctionCode}
use Rattle.task_code.specs.declared.code.Node.{Node}
use Rattle.task_code.specs.declared.frame.Frame.{Frame}
use Rattle.task_code.specs.Acts.{Ending, Fails, Ends}
use Rattle.task_code.specs.Codes.{Around, node_act}
use Rattle.task_code.specs.Costs.{node_cost}
use Rattle.task_walk.specs.declared.part.Part.{Part}
use Rattle.task_walk.specs.Comings.{Told}
use Rattle.task_walk.specs.Parts.{opened, in_levels, part_act, part_cost}
use Rattle.task_walk.specs.Tales.{Teller, Asked, AreProper, IsProperValue}
use Rattle.task_walk.specs.Walks.{Walked}
use Rattle.task_walk.proofs.Walkings.{walked_as, walked_end}
use Rattle.task_walk.proofs.Underway.{walked_deeper}

pub opened_within : (opens : Bool) (levels inner : ℕ) → opened opens levels ≡ Some inner → inner ≤ levels
opened_within true zero inner is = absurd (cc)
opened_within true (suc levels) inner is = omega (arith, ap (λ o. unwrap_or o 0) is)
opened_within false levels inner is = omega (arith, ap (λ o. unwrap_or o 0) is)

-- a part, by its expression with the levels that are left for it
pub walked_part : {H : Type 0} (by : Teller) (functions : List FunctionCode) (p : Part) (levels inner : ℕ) (ending : Option (Ending Value))
    (first last : Frame) (old new : Told) (before now : H → List Asked → Type 0)
    → opened p.opens levels ≡ Some inner
    → Walked by functions inner (λ a. node_act a p.node.now inner first) IsProperValue (node_cost p.node.now) ending first last old new before now
    → Walked by functions levels (λ a. part_act a p levels first) IsProperValue (part_cost p) ending first last old new before now
walked_part by functions p levels inner ending first last old new before now is one =
    walked_as by functions levels (λ a. part_act a p levels first) (λ a. node_act a p.node.now inner first) IsProperValue (part_cost p) (part_cost p) ending
    first last old new before now
    (λ a. ap (λ o. in_levels o first (λ n. node_act a p.node.now n first)) (sym is)) (omega arith)
    (walked_deeper by functions inner levels (λ a. node_act a p.node.now inner first) IsProperValue (part_cost p) ending first last old new before now
    (opened_within p.opens levels inner is) one)

-- a part for which no level is left
pub walked_shut : {H : Type 0} (by : Teller) (functions : List FunctionCode) (p : Part) (levels : ℕ) (s : Frame) (m : Told) (before : H → List Asked → Type 0)
    → opened p.opens levels ≡ None → m.world.by ≡ by → AreProper by s.locals
    → Walked by functions levels (λ a. part_act a p levels s) IsProperValue (part_cost p) (Some (Fails Depth)) s s m m before before
walked_shut by functions p levels s m before is same locals =
    walked_as by functions levels (λ a. part_act a p levels s) (λ a. Ends (Fails Depth) s) IsProperValue (part_cost p) (part_cost p) (Some (Fails Depth)) s s
    m m before before
    (λ a. ap (λ o. in_levels o s (λ n. node_act a p.node.now n s)) (sym is)) (omega arith)
    (walked_end by functions levels IsProperValue (part_cost p) (Fails Depth) s m before same tt locals)

plain_at : (a : Around) (p : Part) (e : Node) (levels : ℕ) (s : Frame) → p.opens ≡ false → p.node.now ≡ e → part_act a p levels s ≡ node_act a e levels s
plain_at a p e levels s shut is =
    ap (λ b. in_levels (opened b levels) s (λ n. node_act a p.node.now n s)) shut ∙ ap (λ x. node_act a x levels s) is

-- a part that opens no level is its expression
pub part_plain : (a : Around) (p : Part) (e : Node) → p.opens ≡ false → p.node.now ≡ e → part_act a p ≡ node_act a e
part_plain a p e shut is = λ i. λ levels s. plain_at a p e levels s shut is i
