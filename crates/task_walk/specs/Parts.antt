-- What parts of code do as the walk goes through them.
use Rattle.std.specs.Prelude.{◌≡◌, ℕ, ◌∷◌, length, take, drop, slice_get, zero, suc, ◌+◌, ◌<◌, nat_lt, Bool, true}
use Rattle.std.specs.Prelude.{false, if◌then◌else◌, List, [], map, Option, None, Some}
use Rattle.std.specs.List.{position}
use Rattle.std.specs.Str.{bytes_eq}
use Rattle.dyn_value.specs.declared.fault.Fault.TheVariants.{HeapFull, Depth}
use Rattle.dyn_value.specs.declared.value.Value.{Value}
use Rattle.dyn_value.specs.declared.value.Value.TheVariants as value
use Rattle.object_model.specs.Steps.{OnObject}
use Rattle.dyn_value.specs.declared.fault.Fault.{Fault}
use Rattle.dyn_value.specs.Texts.{fault_text}
use Rattle.task_code.specs.declared.code.Node.{Node}
use Rattle.task_code.specs.declared.code.NodeSuffix.{NodeSuffix}
use Rattle.task_code.specs.declared.code.NodeHead.TheFolds.{fold-NodeSuffix}
use Rattle.task_code.specs.declared.frame.Flow.{Flow}
use Rattle.task_code.specs.declared.frame.Flow.TheVariants.{Next}
use Rattle.task_code.specs.declared.code.Steps.{Steps}
use Rattle.task_code.specs.declared.frame.Frame.{Frame}
use Rattle.task_code.specs.Acts.{Act, at_name, Asks, Draws, gives, fails, and_then, within}
use Rattle.task_code.specs.Codes.{Around, Evaluates, Reads, node_act, head_step, suffix_step, node_step, operands_act}
use Rattle.task_code.specs.Codes.{asks, binder_at, info_at, invoked, created, body_act, block_act, with_put}
use Rattle.task_code.specs.Costs.{Uses, node_cost, node_uses, head_costs, suffix_costs, node_costs, head_used}
use Rattle.task_code.specs.Costs.{suffix_used, node_used, steps_cost, steps_uses}
use Rattle.task_walk.specs.declared.part.Part.{Part}
use Rattle.task_walk.specs.Tales.{Teller, AreProper}

-- an object's number is drawn, below the limit
abbrev pub draws : ℕ → Frame → Act Frame ℕ
draws limit s = Draws (λ n. if nat_lt n limit then gives n s else fails HeapFull s)

abbrev pub IsProperNumber : Teller → ℕ → Type 0
IsProperNumber by n = (n < by.limit) × (n < 4096)

-- the levels left for a part, which may open one
abbrev pub opened : Bool → ℕ → Option ℕ
opened true zero = None
opened true (suc levels) = Some levels
opened false levels = Some levels

abbrev pub in_levels : Option ℕ → Frame → (ℕ → Act Frame Value) → Act Frame Value
in_levels None s go = fails Depth s
in_levels (Some levels) s go = go levels

-- what a part does
abbrev pub part_act : Around → Part → Evaluates
part_act a p levels s = in_levels (opened p.opens levels) s (λ inner. node_act a p.node.now inner s)

abbrev pub part_cost : Part → ℕ
part_cost p = node_cost p.node.now

abbrev pub part_uses : Part → Uses
part_uses p = node_uses p.node.now

-- an operation on what parts come to
abbrev pub operation_act : Around → ℕ → List Part → ℕ → Frame → Act Frame Value
operation_act a site parts levels s =
    and_then (operands_act [] (map (part_act a) parts) levels s) (λ operands after. asks a.plan site operands after)

-- the turns that an operation counts: one where it is on an object
abbrev pub turn_cost : Option OnObject → ℕ
turn_cost None = 0
turn_cost (Some x) = 1

-- whether a value is the truth value true
abbrev pub is_truth : Value → Bool
is_truth (value.Bool true) = true
is_truth _ = false

-- so many proper values
abbrev pub AreValues : ℕ → Teller → List Value → Type 0
AreValues count by vs = (length vs ≡ count) × AreProper by vs

-- so many proper values after these
abbrev pub AreAfter : List Value → ℕ → Teller → List Value → Type 0
AreAfter done count by vs = AreValues (length done + count) by vs × (take (length done) vs ≡ done)

-- what a suffix does, uses and costs
abbrev pub suffix_act : Around → NodeSuffix → Reads
suffix_act a x = fold-NodeSuffix Evaluates Reads Evaluates (head_step a) (suffix_step a) (node_step a) x

abbrev pub suffix_cost : NodeSuffix → ℕ
suffix_cost x = fold-NodeSuffix ℕ ℕ ℕ head_costs suffix_costs node_costs x

abbrev pub suffix_uses : NodeSuffix → Uses
suffix_uses x = fold-NodeSuffix Uses Uses Uses head_used suffix_used node_used x

-- the first of these operands is invoked with the others
abbrev pub invokes_act : Around → ℕ → List Value → ℕ → Frame → Act Frame Value
invokes_act a site operands levels s =
    Asks site (binder_at a.plan site) operands (invoked a (info_at a.plan site) (drop 1 operands) levels s)

-- an object is made by the first of these operands with the others
abbrev pub creates_act : Around → ℕ → List Value → ℕ → Frame → Act Frame Value
creates_act a site operands levels s =
    Asks site (binder_at a.plan site) operands (created a (info_at a.plan site) (drop 1 operands) levels s)

-- an object is made by a function, whose arguments stand in one level with it
abbrev pub new_of_act : Around → ℕ → Node → List Node → ℕ → Frame → Act Frame Value
new_of_act a site target args levels s =
    and_then (within levels s (λ inner. operands_act [] (node_act a target ∷ map (node_act a) args) inner s))
    (λ operands after. creates_act a site operands levels after)

-- what may be done instead
abbrev pub optional_act : Around → Option Steps → ℕ → Frame → Act Frame Flow
optional_act a None levels s = gives Next s
optional_act a (Some b) levels s = block_act (body_act a b) levels s

abbrev pub optional_cost : Option Steps → ℕ
optional_cost None = 0
optional_cost (Some b) = steps_cost b

abbrev pub optional_uses : Option Steps → Uses
optional_uses None = []
optional_uses (Some b) = steps_uses b

-- a block with the text of a fault
abbrev pub caught_act : Around → ℕ → Steps → ℕ → Fault → Frame → Act Frame Flow
caught_act a local b levels f s = block_act (body_act a b) levels (with_put local (value.Text (fault_text f)) s)

abbrev pub by_place_or_name : Option Value → Option ℕ → List Value → Value
by_place_or_name (Some v) place named = v
by_place_or_name None place named = at_name place named

-- the value for a parameter: the argument of its place, else the one of its name
abbrev pub argument_of : List ℕ → ℕ → List Value → List (List ℕ) → List Value → Value
argument_of param place by_place names named =
    by_place_or_name (slice_get by_place place) (position (bytes_eq param) names) named
