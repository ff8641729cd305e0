-- The operands of a call: what is called, and its arguments, for which a level is opened where there are some.
use Rattle.std.proofs.Common.{◌≡◌, ℕ, suc, ◌+◌, ◌<◌, ◌≤◌, List, [], ◌∷◌, ◌++◌, length, map, sum, Option, Some, ap, sym, ◌∙◌, subst, arith}
use Rattle.std.proofs.lemmas.List.{take_all, take-append-le}
use Rattle.std.specs.Prelude.{take}
use Rattle.dyn_value.specs.declared.fault.Fault.TheVariants.{Depth}
use Rattle.dyn_value.specs.declared.value.Value.{Value}
use Rattle.task_code.specs.declared.code.FunctionCode.{FunctionCode}
use Rattle.task_code.specs.declared.code.Node.{Node}
use Rattle.task_code.specs.declared.frame.Frame.{Frame}
use Rattle.task_code.specs.Acts.{Ending, Gives, Fails}
use Rattle.task_code.specs.Codes.{node_act, list_act, operands_act}
use Rattle.task_code.specs.Costs.{node_cost}
use Rattle.task_walk.specs.Comings.{Told}
use Rattle.task_walk.specs.Parts.{AreValues, AreAfter}
use Rattle.task_walk.specs.Tales.{Teller, Asked, AreProper, IsProperValue}
use Rattle.task_walk.specs.Walks.{Walked}
use Rattle.task_walk.proofs.Operands.{one_more}
use Rattle.task_walk.proofs.Walkings.{walked_end, walked_within, walked_depth}

-- none yet
pub after_none : (by : Teller) (done : List Value) → AreProper by done → AreAfter done 0 by done
after_none by done proper = ((omega arith, proper), take_all (length done) done (omega arith))

-- one more
pub after_more : (done : List Value) (count : ℕ) (by now : Teller) (vs new : List Value) (v : Value) → AreAfter done count by vs → now ≡ by
    → IsProperValue now v → new ≡ vs ++ v ∷ []
    → AreAfter done (count + 1) now new
after_more done count by now vs new v had same here is =
    let more : AreValues (length done + count + 1) now new = one_more (length done + count) by now vs new v had.0 same here is in
    let long : length done ≤ length vs = omega (arith, had.0.0) in
    ((omega (arith, more.0), more.1), ap (take (length done)) is ∙ take-append-le (length done) vs (v ∷ []) long ∙ had.1)

pub args_none : {H : Type 0} (by : Teller) (functions : List FunctionCode) (levels : ℕ) (args : List Node) (v : Value) (vs : List Value) (s : Frame)
    (m : Told) (before : H → List Asked → Type 0)
    → length args ≡ 0 → vs ≡ v ∷ [] → IsProperValue by v → m.world.by ≡ by → AreProper by s.locals
    → Walked by functions levels (λ a. list_act (v ∷ []) (map (node_act a) args) levels s) (AreAfter (v ∷ []) (length args)) (sum (map node_cost args))
    (Some (Gives vs)) s s m m before before
args_none by functions levels [] v vs s m before none kept here same locals =
    subst (λ us. Walked by functions levels (λ a. list_act (v ∷ []) [] levels s) (AreAfter (v ∷ []) 0) (sum (map node_cost [])) (Some (Gives us)) s s m m
    before before) (sym kept)
    (walked_end by functions levels (AreAfter (v ∷ []) 0) (sum (map node_cost [])) (Gives (v ∷ [])) s m before same (after_none by (v ∷ []) (here, tt))
    locals)
args_none by functions levels (x ∷ xs) v vs s m before none kept here same locals = absurd (omega arith)

pub args_deep : {H : Type 0} (by : Teller) (functions : List FunctionCode) (levels : ℕ) (args : List Node) (v : Value) (s : Frame) (m : Told)
    (before : H → List Asked → Type 0)
    → 0 < length args → levels ≡ 0 → m.world.by ≡ by → AreProper by s.locals
    → Walked by functions levels (λ a. list_act (v ∷ []) (map (node_act a) args) levels s) (AreAfter (v ∷ []) (length args)) (sum (map node_cost args))
    (Some (Fails Depth)) s s m m before before
args_deep by functions levels [] v s m before some deep same locals = absurd (omega arith)
args_deep by functions levels (x ∷ xs) v s m before some deep same locals =
    walked_depth by functions levels (λ a n. operands_act (v ∷ []) (map (node_act a) (x ∷ xs)) n s) (AreAfter (v ∷ []) (length (x ∷ xs)))
    (sum (map node_cost (x ∷ xs))) s m before deep same locals

args_inside : {H : Type 0} (by : Teller) (functions : List FunctionCode) (levels inner : ℕ) (args : List Node) (v : Value)
    (ending : Option (Ending (List Value))) (first last : Frame) (old new : Told) (before now : H → List Asked → Type 0)
    → 0 < length args → levels ≡ suc inner
    → Walked by functions inner (λ a. operands_act (v ∷ []) (map (node_act a) args) inner first) (AreAfter (v ∷ []) (length args)) (sum (map node_cost args))
    ending first last old new before now
    → Walked by functions levels (λ a. list_act (v ∷ []) (map (node_act a) args) levels first) (AreAfter (v ∷ []) (length args)) (sum (map node_cost args))
    ending first last old new before now
args_inside by functions levels inner [] v ending first last old new before now some deep one = absurd (omega arith)
args_inside by functions levels inner (x ∷ xs) v ending first last old new before now some deep one =
    walked_within by functions levels inner (λ a n. operands_act (v ∷ []) (map (node_act a) (x ∷ xs)) n first) (AreAfter (v ∷ []) (length (x ∷ xs)))
    (sum (map node_cost (x ∷ xs))) ending first first last old new before now deep one

pub args_whole : {H : Type 0} (by : Teller) (functions : List FunctionCode) (levels inner : ℕ) (args : List Node) (v : Value) (vs : List Value)
    (ending : Option (Ending (List Value)))
    (first last : Frame) (old new : Told) (before now : H → List Asked → Type 0)
    → 0 < length args → levels ≡ suc inner → vs ≡ v ∷ []
    → Walked by functions inner (λ a. operands_act vs (map (node_act a) args) inner first) (AreAfter vs (length args)) (sum (map node_cost args)) ending first
    last old new before now
    → Walked by functions levels (λ a. list_act (v ∷ []) (map (node_act a) args) levels first) (AreAfter (v ∷ []) (length args)) (sum (map node_cost args))
    ending first last old new before now
args_whole by functions levels inner args v vs ending first last old new before now some deep kept one =
    args_inside by functions levels inner args v ending first last old new before now some deep
    (subst (λ us. Walked by functions inner (λ a. operands_act us (map (node_act a) args) inner first) (AreAfter us (length args)) (sum (map node_cost args))
    ending first last old new before now) kept one)
