-- An expression, by its head and its suffixes.
use Rattle.std.proofs.Common.{◌≡◌, ℕ, ◌+◌, List, map, sum, flat_map, Option, Some, ap, sym, subst, arith}
use Rattle.dyn_value.specs.declared.value.Value.{Value}
use Rattle.task_code.specs.declared.code.FunctionCode.{FunctionCode}
use Rattle.task_code.specs.declared.code.Node.{Node}
use Rattle.task_code.specs.declared.code.NodeSuffix.{NodeSuffix}
use Rattle.task_code.specs.declared.frame.Frame.{Frame}
use Rattle.task_code.specs.Acts.{Ending, Gives}
use Rattle.task_code.specs.Codes.{node_act, head_act, suffixes_act}
use Rattle.task_code.specs.Costs.{node_cost, node_uses, head_cost, head_uses}
use Rattle.task_code.specs.Fits.{Fits}
use Rattle.task_walk.specs.declared.code.Code.{Code}
use Rattle.task_walk.specs.declared.stop.Stop.{Stop}
use Rattle.task_walk.specs.Comings.{Told}
use Rattle.task_walk.specs.Parts.{suffix_act, suffix_cost, suffix_uses}
use Rattle.task_walk.specs.Tales.{Teller, Tale, Asked, IsProperValue}
use Rattle.task_walk.specs.Walks.{stopped, IsReady, Walked}
use Rattle.task_walk.proofs.Forms.{cost-node}
use Rattle.task_walk.proofs.Nodes.{node_walked, fits_head, fits_suffixes}
use Rattle.task_walk.proofs.Walkings.{walked_stopped, walked_then, ready_part, ready_after}

pub ready_head : (code : Code) (e : Node) (s : Frame) (t : Tale) → IsReady code t (node_uses e) (node_cost e) s
    → IsReady code t (head_uses e.head) (head_cost e.head) s
ready_head code e s t ready =
    ready_part code (node_uses e) (head_uses e.head) (node_cost e) (head_cost e.head) s t ready (fits_head t.by.plan t.by.limit e ready.fits)
    (omega (arith, cost-node e))

pub head_stopped : {H : Type 0} (why : Stop) (by : Teller) (functions : List FunctionCode) (levels : ℕ) (e : Node) (first last : Frame) (old new : Told)
    (before now : H → List Asked → Type 0)
    → Walked by functions levels (λ a. head_act a e.head levels first) IsProperValue (head_cost e.head) (stopped why) first last old new before now
    → Walked by functions levels (λ a. node_act a e levels first) IsProperValue (node_cost e) (stopped why) first last old new before now
head_stopped why by functions levels e first last old new before now one =
    node_walked by functions levels e IsProperValue (stopped why) first last old new before now
    (walked_stopped why by functions levels (λ a. head_act a e.head levels first) (λ a v after. suffixes_act (map (suffix_act a) e.suffixes) levels v after)
    IsProperValue IsProperValue
    (head_cost e.head) (head_cost e.head + sum (map suffix_cost e.suffixes)) first last old new before now one (omega arith))

pub ready_suffixes : {H : Type 0} (code : Code) (functions : List FunctionCode) (levels : ℕ) (e : Node) (xs : List NodeSuffix) (v : Value)
    (first last : Frame) (old new : Told) (before now : H → List Asked → Type 0)
    → IsReady code old.world (node_uses e) (node_cost e) first → xs ≡ e.suffixes
    → Walked old.world.by functions levels (λ a. head_act a e.head levels first) IsProperValue (head_cost e.head) (Some (Gives v)) first last old new before
    now
    → IsReady code new.world (flat_map suffix_uses xs) (sum (map suffix_cost xs)) last
ready_suffixes code functions levels e xs v first last old new before now ready is one =
    let fits : Fits old.world.by.plan old.world.by.limit (flat_map suffix_uses xs) =
    subst (λ ys. Fits old.world.by.plan old.world.by.limit (flat_map suffix_uses ys)) (sym is)
    (fits_suffixes old.world.by.plan old.world.by.limit e ready.fits) in
    ready_after code (node_uses e) (flat_map suffix_uses xs) (node_cost e) (head_cost e.head) (sum (map suffix_cost xs)) functions levels
    (λ a. head_act a e.head levels first) IsProperValue
    (Some (Gives v)) first last old new before now ready one fits (omega (arith, cost-node e, ap (λ ys. sum (map suffix_cost ys)) is))

pub value_whole : {H : Type 0} (by : Teller) (functions : List FunctionCode) (levels : ℕ) (e : Node) (xs : List NodeSuffix) (v : Value)
    (ending : Option (Ending Value))
    (first between last : Frame) (old middle new : Told) (before during now : H → List Asked → Type 0)
    → xs ≡ e.suffixes
    → Walked by functions levels (λ a. head_act a e.head levels first) IsProperValue (head_cost e.head) (Some (Gives v)) first between old middle before
    during
    → Walked middle.world.by functions levels (λ a. suffixes_act (map (suffix_act a) xs) levels v between) IsProperValue (sum (map suffix_cost xs)) ending
    between last middle new during now
    → Walked by functions levels (λ a. node_act a e levels first) IsProperValue (node_cost e) ending first last old new before now
value_whole by functions levels e xs v ending first between last old middle new before during now is one two =
    let rest : Walked middle.world.by functions levels (λ a. suffixes_act (map (suffix_act a) e.suffixes) levels v between) IsProperValue
    (sum (map suffix_cost e.suffixes)) ending between last middle new during now =
    subst (λ ys. Walked middle.world.by functions levels (λ a. suffixes_act (map (suffix_act a) ys) levels v between) IsProperValue (sum (map suffix_cost ys))
    ending between last middle new during now) is two in
    node_walked by functions levels e IsProperValue ending first last old new before now
    (walked_then by functions levels (λ a. head_act a e.head levels first) (λ a w after. suffixes_act (map (suffix_act a) e.suffixes) levels w after)
    IsProperValue IsProperValue
    (head_cost e.head) (sum (map suffix_cost e.suffixes)) (head_cost e.head + sum (map suffix_cost e.suffixes)) v ending first between last old middle new
    before during now one rest (omega arith))
