-- Operands that are evaluated one after the other.
use Rattle.std.proofs.Common.{◌≡◌, ℕ, ◌+◌, ◌<◌, ◌≤◌, List, [], ◌∷◌, ◌++◌, length, drop, get_or, map, sum, Some, None, refl, ap, sym, subst, arith}
use Rattle.std.proofs.lemmas.List.{length_push}
use Rattle.dyn_value.specs.declared.value.Value.{Value}
use Rattle.task_code.specs.declared.code.FunctionCode.{FunctionCode}
use Rattle.task_code.specs.declared.frame.Frame.{Frame}
use Rattle.task_code.specs.Acts.{Gives, Act, and_then}
use Rattle.task_code.specs.Codes.{Around, Evaluates, operands_act}
use Rattle.task_walk.specs.declared.stop.Stop.{Stop}
use Rattle.task_walk.specs.Comings.{Told}
use Rattle.task_walk.specs.Goings.{Going}
use Rattle.task_walk.specs.Parts.{AreValues}
use Rattle.task_walk.specs.Tales.{Teller, Asked, AreProper, IsProperValue}
use Rattle.task_walk.specs.Walks.{stopped, Walked}
use Rattle.task_walk.proofs.Goings.{going_then}
use Rattle.task_walk.proofs.Loops.{going_item, going_past}
use Rattle.task_walk.proofs.Puts.{all_push}
use Rattle.task_walk.proofs.Underway.{going_stopped, going_done, going_lost}

-- one proper value more
pub one_more : (count : ℕ) (by now : Teller) (vs new : List Value) (v : Value) → AreValues count by vs → now ≡ by → IsProperValue now v → new ≡ vs ++ v ∷ []
    → AreValues (count + 1) now new
one_more count by now vs new v had same here is =
    let lengths : length (vs ++ v ∷ []) ≡ length vs + 1 = length_push vs v in
    let all : AreProper now vs = subst (λ b. AreProper b vs) (sym same) had.1 in
    (omega (arith, had.0, ap length is), subst (AreProper now) (sym is) (all_push (IsProperValue now) vs v all here))

operand_next : {H X : Type 0} (by : Teller) (functions : List FunctionCode) (levels : ℕ) (whole : Around → Act Frame (List Value)) (cost : ℕ) (first : Frame)
    (old : Told) (before : H → List Asked → Type 0)
    (acts : Around → X → Evaluates) (costs : X → ℕ) (xs : List X) (i : ℕ) (x : X) (vs : List Value) (s : Frame) (now : Told)
    (during : H → List Asked → Type 0)
    → i < length xs → x ≡ get_or xs i x
    → Going by functions levels whole cost first old before (λ a. operands_act vs (map (acts a) (drop i xs)) levels s) (sum (map costs (drop i xs))) s now
    during
    → Going by functions levels whole cost first old before (λ a. and_then (acts a x levels s)
    (λ v after. operands_act (vs ++ v ∷ []) (map (acts a) (drop (i + 1) xs)) levels after))
    (costs x + sum (map costs (drop (i + 1) xs))) s now during
operand_next by functions levels whole cost first old before acts costs xs i x vs s now during less is going =
    going_item by functions levels whole cost first old before (λ a ys. operands_act vs (map (acts a) ys) levels s) costs xs i x s now during less is going

-- an operand was evaluated
pub operand_kept : {H X : Type 0} (by : Teller) (functions : List FunctionCode) (levels : ℕ) (whole : Around → Act Frame (List Value)) (cost : ℕ)
    (first : Frame) (old : Told) (before : H → List Asked → Type 0)
    (acts : Around → X → Evaluates) (costs : X → ℕ) (xs : List X) (i : ℕ) (x : X) (vs new_vs : List Value) (v : Value) (s last : Frame) (now new : Told)
    (during after : H → List Asked → Type 0)
    → i < length xs → x ≡ get_or xs i x → new_vs ≡ vs ++ v ∷ []
    → Going by functions levels whole cost first old before (λ a. operands_act vs (map (acts a) (drop i xs)) levels s) (sum (map costs (drop i xs))) s now
    during
    → Walked now.world.by functions levels (λ a. acts a x levels s) IsProperValue (costs x) (Some (Gives v)) s last now new during after
    → Going by functions levels whole cost first old before (λ a. operands_act new_vs (map (acts a) (drop (i + 1) xs)) levels last)
    (sum (map costs (drop (i + 1) xs))) last new after
operand_kept by functions levels whole cost first old before acts costs xs i x vs new_vs v s last now new during after less is added going one =
    subst (λ us. Going by functions levels whole cost first old before (λ a. operands_act us (map (acts a) (drop (i + 1) xs)) levels last)
    (sum (map costs (drop (i + 1) xs))) last new after) (sym added)
    (going_then by functions levels whole cost first old before (λ a. acts a x levels s)
    (λ a u t. operands_act (vs ++ u ∷ []) (map (acts a) (drop (i + 1) xs)) levels t) IsProperValue
    (costs x + sum (map costs (drop (i + 1) xs))) (costs x) (sum (map costs (drop (i + 1) xs))) v s last now new during after
    (operand_next by functions levels whole cost first old before acts costs xs i x vs s now during less is going) one (omega arith))

-- an operand stopped
pub operand_stopped : {H X : Type 0} (why : Stop) (by : Teller) (functions : List FunctionCode) (levels : ℕ) (whole : Around → Act Frame (List Value))
    (cost : ℕ) (first : Frame) (old : Told) (before : H → List Asked → Type 0)
    (acts : Around → X → Evaluates) (costs : X → ℕ) (P : Teller → List Value → Type 0) (xs : List X) (i : ℕ) (x : X) (vs : List Value) (s last : Frame)
    (now new : Told) (during after : H → List Asked → Type 0)
    → i < length xs → x ≡ get_or xs i x
    → Going by functions levels whole cost first old before (λ a. operands_act vs (map (acts a) (drop i xs)) levels s) (sum (map costs (drop i xs))) s now
    during
    → Walked now.world.by functions levels (λ a. acts a x levels s) IsProperValue (costs x) (stopped why) s last now new during after
    → Walked by functions levels whole P cost (stopped why) first last old new before after
operand_stopped why by functions levels whole cost first old before acts costs P xs i x vs s last now new during after less is going one =
    going_stopped why by functions levels whole cost first old before (λ a. acts a x levels s)
    (λ a u t. operands_act (vs ++ u ∷ []) (map (acts a) (drop (i + 1) xs)) levels t) IsProperValue P
    (costs x + sum (map costs (drop (i + 1) xs))) (costs x) s last now new during after
    (operand_next by functions levels whole cost first old before acts costs xs i x vs s now during less is going) one (omega arith)

-- an operand was evaluated, and memory is wanting to keep it
pub operand_lost : {H X : Type 0} (by : Teller) (functions : List FunctionCode) (levels : ℕ) (whole : Around → Act Frame (List Value)) (cost : ℕ)
    (first : Frame) (old : Told) (before : H → List Asked → Type 0)
    (acts : Around → X → Evaluates) (costs : X → ℕ) (P : Teller → List Value → Type 0) (xs : List X) (i : ℕ) (x : X) (vs : List Value) (v : Value)
    (s last : Frame) (now new : Told) (during after : H → List Asked → Type 0)
    → i < length xs → x ≡ get_or xs i x
    → Going by functions levels whole cost first old before (λ a. operands_act vs (map (acts a) (drop i xs)) levels s) (sum (map costs (drop i xs))) s now
    during
    → Walked now.world.by functions levels (λ a. acts a x levels s) IsProperValue (costs x) (Some (Gives v)) s last now new during after
    → Walked by functions levels whole P cost None first last old new before after
operand_lost by functions levels whole cost first old before acts costs P xs i x vs v s last now new during after less is going one =
    going_lost by functions levels whole cost first old before (λ a. operands_act (vs ++ v ∷ []) (map (acts a) (drop (i + 1) xs)) levels last) P
    (sum (map costs (drop (i + 1) xs))) last new after
    (operand_kept by functions levels whole cost first old before acts costs xs i x vs (vs ++ v ∷ []) v s last now new during after less is refl going one)

-- no operand is left
pub operands_done : {H X : Type 0} (by : Teller) (functions : List FunctionCode) (levels : ℕ) (whole : Around → Act Frame (List Value)) (cost : ℕ)
    (first : Frame) (old : Told) (before : H → List Asked → Type 0)
    (acts : Around → X → Evaluates) (costs : X → ℕ) (P : Teller → List Value → Type 0) (xs : List X) (i : ℕ) (vs : List Value) (s : Frame) (now : Told)
    (during : H → List Asked → Type 0)
    → length xs ≤ i
    → Going by functions levels whole cost first old before (λ a. operands_act vs (map (acts a) (drop i xs)) levels s) (sum (map costs (drop i xs))) s now
    during
    → P now.world.by vs
    → Walked by functions levels whole P cost (Some (Gives vs)) first s old now before during
operands_done by functions levels whole cost first old before acts costs P xs i vs s now during past going proper =
    going_done by functions levels whole cost first old before (Gives vs) P 0 s now during
    (going_past by functions levels whole cost first old before (λ a ys. operands_act vs (map (acts a) ys) levels s) xs i (sum (map costs (drop i xs))) s now
    during past going) proper
