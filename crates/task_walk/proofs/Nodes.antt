-- What the walk did of a form of code, by what it did of its parts; and that it may go on with those.
use Rattle.std.proofs.Common.{◌≡◌, ℕ, ◌+◌, List, [], ◌∷◌, ◌++◌, map, sum, flat_map, Option, refl, ap, sym, ◌∙◌, subst, arith}
use Rattle.dyn_value.specs.declared.value.Value.{Value}
use Rattle.task_code.specs.declared.code.FunctionCode.{FunctionCode}
use Rattle.task_code.specs.declared.code.Node.{Node}
use Rattle.task_code.specs.declared.code.NodeHead.{NodeHead}
use Rattle.task_code.specs.declared.code.NodeSuffix.{NodeSuffix}
use Rattle.task_code.specs.declared.code.Step.{Step}
use Rattle.task_code.specs.declared.code.Steps.{Steps}
use Rattle.task_code.specs.declared.frame.Flow.{Flow}
use Rattle.task_code.specs.declared.frame.Frame.{Frame}
use Rattle.task_code.specs.Acts.{Ending, Gives, Fails, Act, Ends, Prints, Asks, Draws, gives, and_then}
use Rattle.task_code.specs.Codes.{Plan, Around, Evaluates, Reads, Executes, node_act, head_act, step_act, body_act, operands_act, suffixes_act, steps_act}
use Rattle.task_code.specs.Costs.{Uses, all_uses, node_cost, node_uses, head_cost, head_uses, step_cost, step_uses, steps_cost, steps_uses}
use Rattle.task_code.specs.Fits.{Fits, IsAllowed}
use Rattle.task_walk.specs.Comings.{Told}
use Rattle.task_walk.specs.Parts.{suffix_act, suffix_cost, suffix_uses}
use Rattle.task_walk.specs.Tales.{Teller, Asked}
use Rattle.task_walk.specs.Walks.{Walked}
use Rattle.task_walk.proofs.Forms.{act-node, cost-node, uses-node, act-steps, cost-steps, uses-steps}
use Rattle.task_walk.proofs.Walkings.{walked_as, all_first, all_second}

-- parts one after another, however they are grouped
pub then_then : {S A B C : Type 0} (act : Act S A) (f : A → S → Act S B) (g : B → S → Act S C)
    → and_then (and_then act f) g ≡ and_then act (λ v s. and_then (f v s) g)
then_then (Ends (Gives v) s) f g = refl
then_then (Ends (Fails w) s) f g = refl
then_then (Prints line act) f g = ap (Prints line) (then_then act f g)
then_then (Asks site b operands act) f g = λ i. Asks site b operands (λ o. then_then (act o) f g i)
then_then (Draws act) f g = λ i. Draws (λ n. then_then (act n) f g i)

pub one_operand : {C : Type 0} (x : Evaluates) (levels : ℕ) (s : Frame) (go : List Value → Frame → Act Frame C)
    → and_then (operands_act [] (x ∷ []) levels s) go ≡ and_then (x levels s) (λ v t. go (v ∷ []) t)
one_operand x levels s go = then_then (x levels s) (λ v t. gives (v ∷ []) t) go

pub two_operands : {C : Type 0} (x y : Evaluates) (levels : ℕ) (s : Frame) (go : List Value → Frame → Act Frame C)
    → and_then (operands_act [] (x ∷ y ∷ []) levels s) go ≡ and_then (x levels s) (λ v t. and_then (y levels t) (λ w u. go (v ∷ w ∷ []) u))
two_operands x y levels s go =
    then_then (x levels s) (λ v t. and_then (y levels t) (λ w u. gives (v ∷ w ∷ []) u)) go
    ∙ (λ i. and_then (x levels s) (λ v t. then_then (y levels t) (λ w u. gives (v ∷ w ∷ []) u) go i))

pub three_operands : {C : Type 0} (x y z : Evaluates) (levels : ℕ) (s : Frame) (go : List Value → Frame → Act Frame C)
    → and_then (operands_act [] (x ∷ y ∷ z ∷ []) levels s) go
    ≡ and_then (x levels s) (λ v t. and_then (y levels t) (λ w u. and_then (z levels u) (λ q r. go (v ∷ w ∷ q ∷ []) r)))
three_operands x y z levels s go =
    then_then (x levels s) (λ v t. and_then (y levels t) (λ w u. and_then (z levels u) (λ q r. gives (v ∷ w ∷ q ∷ []) r))) go
    ∙ (λ i. and_then (x levels s) (λ v t. then_then (y levels t) (λ w u. and_then (z levels u) (λ q r. gives (v ∷ w ∷ q ∷ []) r)) go i))
    ∙ (λ i. and_then (x levels s) (λ v t. and_then (y levels t) (λ w u. then_then (z levels u) (λ q r. gives (v ∷ w ∷ q ∷ []) r) go i)))

pub head_walked : {H : Type 0} (by : Teller) (functions : List FunctionCode) (levels : ℕ) (h form : NodeHead) (other : Around → Evaluates)
    (P : Teller → Value → Type 0) (cost : ℕ)
    (ending : Option (Ending Value)) (first last : Frame) (old new : Told) (before now : H → List Asked → Type 0)
    → h ≡ form → ((a : Around) → head_act a form ≡ other a) → head_cost form ≡ cost
    → Walked by functions levels (λ a. other a levels first) P cost ending first last old new before now
    → Walked by functions levels (λ a. head_act a h levels first) P (head_cost h) ending first last old new before now
head_walked by functions levels h form other P cost ending first last old new before now is act costs one =
    walked_as by functions levels (λ a. head_act a h levels first) (λ a. other a levels first) P cost (head_cost h) ending first last old new before now
    (λ a. ap (λ (f : Evaluates). f levels first) (sym (ap (head_act a) is ∙ act a))) (omega (arith, ap head_cost is, costs)) one

pub suffix_walked : {H : Type 0} (by : Teller) (functions : List FunctionCode) (levels : ℕ) (x form : NodeSuffix) (v : Value) (other : Around → Reads)
    (P : Teller → Value → Type 0) (cost : ℕ)
    (ending : Option (Ending Value)) (first last : Frame) (old new : Told) (before now : H → List Asked → Type 0)
    → x ≡ form → ((a : Around) → suffix_act a form ≡ other a) → suffix_cost form ≡ cost
    → Walked by functions levels (λ a. other a levels v first) P cost ending first last old new before now
    → Walked by functions levels (λ a. suffix_act a x levels v first) P (suffix_cost x) ending first last old new before now
suffix_walked by functions levels x form v other P cost ending first last old new before now is act costs one =
    walked_as by functions levels (λ a. suffix_act a x levels v first) (λ a. other a levels v first) P cost (suffix_cost x) ending first last old new before
    now
    (λ a. ap (λ (f : Reads). f levels v first) (sym (ap (suffix_act a) is ∙ act a))) (omega (arith, ap suffix_cost is, costs)) one

pub step_walked : {H : Type 0} (by : Teller) (functions : List FunctionCode) (levels : ℕ) (x form : Step) (other : Around → Executes)
    (P : Teller → Flow → Type 0) (cost : ℕ)
    (ending : Option (Ending Flow)) (first last : Frame) (old new : Told) (before now : H → List Asked → Type 0)
    → x ≡ form → ((a : Around) → step_act a form ≡ other a) → step_cost form ≡ cost
    → Walked by functions levels (λ a. other a levels first) P cost ending first last old new before now
    → Walked by functions levels (λ a. step_act a x levels first) P (step_cost x) ending first last old new before now
step_walked by functions levels x form other P cost ending first last old new before now is act costs one =
    walked_as by functions levels (λ a. step_act a x levels first) (λ a. other a levels first) P cost (step_cost x) ending first last old new before now
    (λ a. ap (λ (f : Executes). f levels first) (sym (ap (step_act a) is ∙ act a))) (omega (arith, ap step_cost is, costs)) one

-- an expression, by its head and suffixes
pub node_walked : {H : Type 0} (by : Teller) (functions : List FunctionCode) (levels : ℕ) (e : Node) (P : Teller → Value → Type 0)
    (ending : Option (Ending Value)) (first last : Frame) (old new : Told) (before now : H → List Asked → Type 0)
    → Walked by functions levels (λ a. and_then (head_act a e.head levels first) (λ v after. suffixes_act (map (suffix_act a) e.suffixes) levels v after)) P
    (head_cost e.head + sum (map suffix_cost e.suffixes)) ending first last old new before now
    → Walked by functions levels (λ a. node_act a e levels first) P (node_cost e) ending first last old new before now
node_walked by functions levels e P ending first last old new before now one =
    walked_as by functions levels (λ a. node_act a e levels first) (λ a. and_then (head_act a e.head levels first)
    (λ v after. suffixes_act (map (suffix_act a) e.suffixes) levels v after)) P
    (head_cost e.head + sum (map suffix_cost e.suffixes)) (node_cost e) ending first last old new before now
    (λ a. ap (λ (f : Evaluates). f levels first) (sym (act-node a e))) (omega (arith, cost-node e)) one

-- a block's statements, inside one more level
pub body_walked : {H : Type 0} (by : Teller) (functions : List FunctionCode) (levels : ℕ) (b : Steps) (P : Teller → Flow → Type 0)
    (ending : Option (Ending Flow)) (first last : Frame) (old new : Told) (before now : H → List Asked → Type 0)
    → Walked by functions levels (λ a. steps_act (map (step_act a) b.0) levels first) P (sum (map step_cost b.0)) ending first last old new before now
    → Walked by functions levels (λ a. body_act a b levels first) P (steps_cost b) ending first last old new before now
body_walked by functions levels b P ending first last old new before now one =
    walked_as by functions levels (λ a. body_act a b levels first) (λ a. steps_act (map (step_act a) b.0) levels first) P
    (sum (map step_cost b.0)) (steps_cost b) ending first last old new before now
    (λ a. ap (λ (f : Executes). f levels first) (sym (act-steps a b))) (omega (arith, cost-steps b)) one

-- the uses of a list are the uses of each
pub uses_map : {A : Type 0} (f : A → Uses) (xs : List A) → all_uses (map f xs) ≡ flat_map f xs
uses_map f [] = refl
uses_map f (x ∷ xs) = ap (λ us. f x ++ us) (uses_map f xs)

pub fits_head : (plan : Plan) (limit : ℕ) (e : Node) → Fits plan limit (node_uses e) → Fits plan limit (head_uses e.head)
fits_head plan limit e fits = all_first (IsAllowed plan limit) (head_uses e.head) (all_uses (map suffix_uses e.suffixes))
    (subst (Fits plan limit) (uses-node e) fits)

pub fits_suffixes : (plan : Plan) (limit : ℕ) (e : Node) → Fits plan limit (node_uses e) → Fits plan limit (flat_map suffix_uses e.suffixes)
fits_suffixes plan limit e fits =
    subst (Fits plan limit) (uses_map suffix_uses e.suffixes)
    (all_second (IsAllowed plan limit) (head_uses e.head) (all_uses (map suffix_uses e.suffixes)) (subst (Fits plan limit) (uses-node e) fits))

pub fits_steps : (plan : Plan) (limit : ℕ) (b : Steps) → Fits plan limit (steps_uses b) → Fits plan limit (flat_map step_uses b.0)
fits_steps plan limit b fits = subst (Fits plan limit) (uses-steps b ∙ uses_map step_uses b.0) fits
