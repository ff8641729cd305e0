-- The suffixes of an expression, one of the other.
use Rattle.std.proofs.Common.{◌≡◌, ℕ, ◌+◌, ◌<◌, ◌≤◌, List, length, drop, get_or, map, sum, Some, arith}
use Rattle.dyn_value.specs.declared.value.Value.{Value}
use Rattle.task_code.specs.declared.code.FunctionCode.{FunctionCode}
use Rattle.task_code.specs.declared.code.NodeSuffix.{NodeSuffix}
use Rattle.task_code.specs.declared.frame.Frame.{Frame}
use Rattle.task_code.specs.Acts.{Gives, Act, and_then}
use Rattle.task_code.specs.Codes.{Around, suffixes_act}
use Rattle.task_walk.specs.declared.stop.Stop.{Stop}
use Rattle.task_walk.specs.Comings.{Told}
use Rattle.task_walk.specs.Goings.{Going}
use Rattle.task_walk.specs.Parts.{suffix_act, suffix_cost}
use Rattle.task_walk.specs.Tales.{Teller, Asked, IsProperValue}
use Rattle.task_walk.specs.Walks.{stopped, Walked}
use Rattle.task_walk.proofs.Goings.{going_then}
use Rattle.task_walk.proofs.Loops.{going_item, going_past}
use Rattle.task_walk.proofs.Underway.{going_stopped, going_done}

suffix_next : {H : Type 0} (by : Teller) (functions : List FunctionCode) (levels : ℕ) (whole : Around → Act Frame Value) (cost : ℕ) (first : Frame)
    (old : Told) (before : H → List Asked → Type 0)
    (xs : List NodeSuffix) (i : ℕ) (x : NodeSuffix) (v : Value) (s : Frame) (now : Told) (during : H → List Asked → Type 0)
    → i < length xs → x ≡ get_or xs i x
    → Going by functions levels whole cost first old before (λ a. suffixes_act (map (suffix_act a) (drop i xs)) levels v s)
    (sum (map suffix_cost (drop i xs))) s now during
    → Going by functions levels whole cost first old before (λ a. and_then (suffix_act a x levels v s)
    (λ w after. suffixes_act (map (suffix_act a) (drop (i + 1) xs)) levels w after))
    (suffix_cost x + sum (map suffix_cost (drop (i + 1) xs))) s now during
suffix_next by functions levels whole cost first old before xs i x v s now during less is going =
    going_item by functions levels whole cost first old before (λ a ys. suffixes_act (map (suffix_act a) ys) levels v s) suffix_cost xs i x s now during less
    is going

-- a suffix was evaluated
pub suffix_kept : {H : Type 0} (by : Teller) (functions : List FunctionCode) (levels : ℕ) (whole : Around → Act Frame Value) (cost : ℕ) (first : Frame)
    (old : Told) (before : H → List Asked → Type 0)
    (xs : List NodeSuffix) (i : ℕ) (x : NodeSuffix) (v w : Value) (s last : Frame) (now new : Told) (during after : H → List Asked → Type 0)
    → i < length xs → x ≡ get_or xs i x
    → Going by functions levels whole cost first old before (λ a. suffixes_act (map (suffix_act a) (drop i xs)) levels v s)
    (sum (map suffix_cost (drop i xs))) s now during
    → Walked now.world.by functions levels (λ a. suffix_act a x levels v s) IsProperValue (suffix_cost x) (Some (Gives w)) s last now new during after
    → Going by functions levels whole cost first old before (λ a. suffixes_act (map (suffix_act a) (drop (i + 1) xs)) levels w last)
    (sum (map suffix_cost (drop (i + 1) xs))) last new after
suffix_kept by functions levels whole cost first old before xs i x v w s last now new during after less is going one =
    going_then by functions levels whole cost first old before (λ a. suffix_act a x levels v s)
    (λ a u t. suffixes_act (map (suffix_act a) (drop (i + 1) xs)) levels u t) IsProperValue
    (suffix_cost x + sum (map suffix_cost (drop (i + 1) xs))) (suffix_cost x) (sum (map suffix_cost (drop (i + 1) xs))) w s last now new during after
    (suffix_next by functions levels whole cost first old before xs i x v s now during less is going) one (omega arith)

-- a suffix stopped
pub suffix_stopped : {H : Type 0} (why : Stop) (by : Teller) (functions : List FunctionCode) (levels : ℕ) (whole : Around → Act Frame Value) (cost : ℕ)
    (first : Frame) (old : Told) (before : H → List Asked → Type 0)
    (xs : List NodeSuffix) (i : ℕ) (x : NodeSuffix) (v : Value) (s last : Frame) (now new : Told) (during after : H → List Asked → Type 0)
    → i < length xs → x ≡ get_or xs i x
    → Going by functions levels whole cost first old before (λ a. suffixes_act (map (suffix_act a) (drop i xs)) levels v s)
    (sum (map suffix_cost (drop i xs))) s now during
    → Walked now.world.by functions levels (λ a. suffix_act a x levels v s) IsProperValue (suffix_cost x) (stopped why) s last now new during after
    → Walked by functions levels whole IsProperValue cost (stopped why) first last old new before after
suffix_stopped why by functions levels whole cost first old before xs i x v s last now new during after less is going one =
    going_stopped why by functions levels whole cost first old before (λ a. suffix_act a x levels v s)
    (λ a u t. suffixes_act (map (suffix_act a) (drop (i + 1) xs)) levels u t) IsProperValue IsProperValue
    (suffix_cost x + sum (map suffix_cost (drop (i + 1) xs))) (suffix_cost x) s last now new during after
    (suffix_next by functions levels whole cost first old before xs i x v s now during less is going) one (omega arith)

-- no suffix is left
pub suffixes_done : {H : Type 0} (by : Teller) (functions : List FunctionCode) (levels : ℕ) (whole : Around → Act Frame Value) (cost : ℕ) (first : Frame)
    (old : Told) (before : H → List Asked → Type 0)
    (xs : List NodeSuffix) (i : ℕ) (v : Value) (s : Frame) (now : Told) (during : H → List Asked → Type 0)
    → length xs ≤ i
    → Going by functions levels whole cost first old before (λ a. suffixes_act (map (suffix_act a) (drop i xs)) levels v s)
    (sum (map suffix_cost (drop i xs))) s now during
    → IsProperValue now.world.by v
    → Walked by functions levels whole IsProperValue cost (Some (Gives v)) first s old now before during
suffixes_done by functions levels whole cost first old before xs i v s now during past going proper =
    going_done by functions levels whole cost first old before (Gives v) IsProperValue 0 s now during
    (going_past by functions levels whole cost first old before (λ a ys. suffixes_act (map (suffix_act a) ys) levels v s) xs i
    (sum (map suffix_cost (drop i xs))) s now during past going) proper
