-- What an expression begins with, form by form.
use Rattle.std.proofs.Common.{◌≡◌, ℕ, suc, ◌+◌, List, [], ◌∷◌, map, sum, get_or, false, Option, Some, refl, ap, sym, ◌∙◌, subst, arith}
use Rattle.dyn_value.specs.declared.fault.Fault.TheVariants.{Depth}
use Rattle.dyn_value.specs.declared.value.Value.{Value}
use Rattle.dyn_value.specs.declared.value.Value.TheVariants as value
use Rattle.task_code.specs.declared.code.FunctionCode.{FunctionCode}
use Rattle.task_code.specs.declared.code.Node.{Node}
use Rattle.task_code.specs.declared.code.NodeHead.{NodeHead}
use Rattle.task_code.specs.declared.code.NodeHead.TheOpen.{NodeHead-F}
use Rattle.task_code.specs.declared.code.NodeHead.TheVariants as head
use Rattle.task_code.specs.declared.frame.Frame.{Frame}
use Rattle.task_code.specs.Acts.{Ending, Gives, Fails, Ends, gives, and_then, draws_object}
use Rattle.task_code.specs.Codes.{Around, node_act, head_act, head_step, operands_act, asks}
use Rattle.task_code.specs.Costs.{node_cost, head_cost}
use Rattle.task_walk.specs.declared.part.Part.{Part}
use Rattle.task_walk.specs.declared.stop.Stop.{Stop}
use Rattle.task_walk.specs.Comings.{Told}
use Rattle.task_walk.specs.Parts.{part_act, part_cost, operation_act, new_of_act, draws, IsProperNumber}
use Rattle.task_walk.specs.Tales.{Teller, Asked, AreProper, IsProperValue}
use Rattle.task_walk.specs.Walks.{stopped, Walked}
use Rattle.task_walk.proofs.Drawings.{draws_alike}
use Rattle.task_walk.proofs.ExpressionParts.{part_plain}
use Rattle.task_walk.proofs.Forms.{act-head-Literal, cost-head-Literal, act-head-Local, cost-head-Local, act-head-Unary, cost-head-Unary, act-head-Binary}
use Rattle.task_walk.proofs.Forms.{cost-head-Binary, act-head-New, cost-head-New, act-head-NewOf, cost-head-NewOf}
use Rattle.task_walk.proofs.Loops.{sum_first}
use Rattle.task_walk.proofs.Nodes.{head_walked, one_operand, two_operands}
use Rattle.task_walk.proofs.Walkings.{walked_as, walked_end, walked_then, walked_stopped, walked_within, walked_depth}

pub literal_whole : {H : Type 0} (by : Teller) (functions : List FunctionCode) (levels : ℕ) (h : NodeHead) (v w : Value) (s : Frame) (m : Told)
    (before : H → List Asked → Type 0)
    → h ≡ head.Literal v → w ≡ v → IsProperValue by v → m.world.by ≡ by → AreProper by s.locals
    → Walked by functions levels (λ a. head_act a h levels s) IsProperValue (head_cost h) (Some (Gives w)) s s m m before before
literal_whole by functions levels h v w s m before is copied proper same locals =
    head_walked by functions levels h (head.Literal v) (λ a. head_step a (NodeHead-F.Literal v)) IsProperValue 0 (Some (Gives w)) s s m m before before is
    (λ a. act-head-Literal a v) (cost-head-Literal v)
    (subst (λ u. Walked by functions levels (λ a. Ends (Gives v) s) IsProperValue 0 (Some (Gives u)) s s m m before before) (sym copied)
    (walked_end by functions levels IsProperValue 0 (Gives v) s m before same proper locals))

pub local_whole : {H : Type 0} (by : Teller) (functions : List FunctionCode) (levels : ℕ) (h : NodeHead) (k : ℕ) (w : Value) (s : Frame) (m : Told)
    (before : H → List Asked → Type 0)
    → h ≡ head.Local k → w ≡ get_or s.locals k value.Nil → IsProperValue by w → m.world.by ≡ by → AreProper by s.locals
    → Walked by functions levels (λ a. head_act a h levels s) IsProperValue (head_cost h) (Some (Gives w)) s s m m before before
local_whole by functions levels h k w s m before is read proper same locals =
    head_walked by functions levels h (head.Local k) (λ a. head_step a (NodeHead-F.Local k)) IsProperValue 0 (Some (Gives w)) s s m m before before is
    (λ a. act-head-Local a k) (cost-head-Local k)
    (subst (λ u. Walked by functions levels (λ a. Ends (Gives u) s) IsProperValue 0 (Some (Gives w)) s s m m before before) read
    (walked_end by functions levels IsProperValue 0 (Gives w) s m before same proper locals))

pub unary_deep : {H : Type 0} (by : Teller) (functions : List FunctionCode) (levels : ℕ) (h : NodeHead) (site : ℕ) (e : Node) (s : Frame) (m : Told)
    (before : H → List Asked → Type 0)
    → h ≡ head.Unary site e → levels ≡ 0 → m.world.by ≡ by → AreProper by s.locals
    → Walked by functions levels (λ a. head_act a h levels s) IsProperValue (head_cost h) (Some (Fails Depth)) s s m m before before
unary_deep by functions levels h site e s m before is deep same locals =
    head_walked by functions levels h (head.Unary site e) (λ a. head_step a (NodeHead-F.Unary site (node_act a e))) IsProperValue (node_cost e + 1)
    (Some (Fails Depth)) s s m m before before is
    (λ a. act-head-Unary a site e) (cost-head-Unary site e)
    (walked_depth by functions levels (λ a n. and_then (node_act a e n s) (λ v after. asks a.plan site (v ∷ []) after)) IsProperValue (node_cost e + 1) s m
    before deep same locals)

pub binary_deep : {H : Type 0} (by : Teller) (functions : List FunctionCode) (levels : ℕ) (h : NodeHead) (site : ℕ) (l r : Node) (s : Frame) (m : Told)
    (before : H → List Asked → Type 0)
    → h ≡ head.Binary site l r → levels ≡ 0 → m.world.by ≡ by → AreProper by s.locals
    → Walked by functions levels (λ a. head_act a h levels s) IsProperValue (head_cost h) (Some (Fails Depth)) s s m m before before
binary_deep by functions levels h site l r s m before is deep same locals =
    head_walked by functions levels h (head.Binary site l r) (λ a. head_step a (NodeHead-F.Binary site (node_act a l) (node_act a r))) IsProperValue
    (node_cost l + node_cost r + 1) (Some (Fails Depth)) s s m m before before is
    (λ a. act-head-Binary a site l r) (cost-head-Binary site l r)
    (walked_depth by functions levels (λ a n. and_then (node_act a l n s) (λ v after. and_then (node_act a r n after)
    (λ w last. asks a.plan site (v ∷ w ∷ []) last))) IsProperValue
    (node_cost l + node_cost r + 1) s m before deep same locals)

-- the cost of one part, and of two
pub one_cost : (p : Part) (e : Node) → p.node.now ≡ e → sum (map part_cost (p ∷ [])) ≡ node_cost e
one_cost p e is = omega (arith, sum_first part_cost p [], ap node_cost is)

pub two_cost : (p q : Part) (l r : Node) → p.node.now ≡ l → q.node.now ≡ r → sum (map part_cost (p ∷ q ∷ [])) ≡ node_cost l + node_cost r
two_cost p q l r left right = omega (arith, sum_first part_cost p (q ∷ []), sum_first part_cost q [], ap node_cost left, ap node_cost right)

unary_alike : (a : Around) (site : ℕ) (p : Part) (e : Node) (levels : ℕ) (s : Frame) → p.opens ≡ false → p.node.now ≡ e
    → operation_act a site (p ∷ []) levels s ≡ and_then (node_act a e levels s) (λ v after. asks a.plan site (v ∷ []) after)
unary_alike a site p e levels s shut is =
    ap (λ f. and_then (operands_act [] (f ∷ []) levels s) (λ vs after. asks a.plan site vs after)) (part_plain a p e shut is)
    ∙ one_operand (node_act a e) levels s (λ vs after. asks a.plan site vs after)

binary_alike : (a : Around) (site : ℕ) (p q : Part) (l r : Node) (levels : ℕ) (s : Frame) → p.opens ≡ false → p.node.now ≡ l → q.opens ≡ false
    → q.node.now ≡ r
    → operation_act a site (p ∷ q ∷ []) levels s ≡ and_then (node_act a l levels s)
    (λ v after. and_then (node_act a r levels after) (λ w last. asks a.plan site (v ∷ w ∷ []) last))
binary_alike a site p q l r levels s shut_left left shut_right right =
    ap (λ f. and_then (operands_act [] (f ∷ part_act a q ∷ []) levels s) (λ vs after. asks a.plan site vs after)) (part_plain a p l shut_left left)
    ∙ ap (λ f. and_then (operands_act [] (node_act a l ∷ f ∷ []) levels s) (λ vs after. asks a.plan site vs after)) (part_plain a q r shut_right right)
    ∙ two_operands (node_act a l) (node_act a r) levels s (λ vs after. asks a.plan site vs after)

pub unary_whole : {H : Type 0} (by : Teller) (functions : List FunctionCode) (levels inner : ℕ) (h : NodeHead) (site : ℕ) (e : Node) (p : Part)
    (ending : Option (Ending Value))
    (first last : Frame) (old new : Told) (before now : H → List Asked → Type 0)
    → h ≡ head.Unary site e → levels ≡ suc inner → p.opens ≡ false → p.node.now ≡ e
    → Walked by functions inner (λ a. operation_act a site (p ∷ []) inner first) IsProperValue (sum (map part_cost (p ∷ [])) + 1) ending first last old new
    before now
    → Walked by functions levels (λ a. head_act a h levels first) IsProperValue (head_cost h) ending first last old new before now
unary_whole by functions levels inner h site e p ending first last old new before now is deep shut at one =
    let cost : sum (map part_cost (p ∷ [])) ≡ node_cost e = one_cost p e at in
    head_walked by functions levels h (head.Unary site e) (λ a. head_step a (NodeHead-F.Unary site (node_act a e))) IsProperValue (node_cost e + 1) ending
    first last old new before now is
    (λ a. act-head-Unary a site e) (cost-head-Unary site e)
    (walked_within by functions levels inner (λ a n. and_then (node_act a e n first) (λ v after. asks a.plan site (v ∷ []) after)) IsProperValue
    (node_cost e + 1) ending first first last old new before now deep
    (walked_as by functions inner (λ a. and_then (node_act a e inner first) (λ v after. asks a.plan site (v ∷ []) after))
    (λ a. operation_act a site (p ∷ []) inner first) IsProperValue
    (sum (map part_cost (p ∷ [])) + 1) (node_cost e + 1) ending first last old new before now (λ a. unary_alike a site p e inner first shut at) (omega arith)
    one))

pub binary_whole : {H : Type 0} (by : Teller) (functions : List FunctionCode) (levels inner : ℕ) (h : NodeHead) (site : ℕ) (l r : Node) (p q : Part)
    (ending : Option (Ending Value))
    (first last : Frame) (old new : Told) (before now : H → List Asked → Type 0)
    → h ≡ head.Binary site l r → levels ≡ suc inner → p.opens ≡ false → p.node.now ≡ l → q.opens ≡ false → q.node.now ≡ r
    → Walked by functions inner (λ a. operation_act a site (p ∷ q ∷ []) inner first) IsProperValue (sum (map part_cost (p ∷ q ∷ [])) + 1) ending first last
    old new before now
    → Walked by functions levels (λ a. head_act a h levels first) IsProperValue (head_cost h) ending first last old new before now
binary_whole by functions levels inner h site l r p q ending first last old new before now is deep shut_left left shut_right right one =
    let cost : sum (map part_cost (p ∷ q ∷ [])) ≡ node_cost l + node_cost r = two_cost p q l r left right in
    head_walked by functions levels h (head.Binary site l r) (λ a. head_step a (NodeHead-F.Binary site (node_act a l) (node_act a r))) IsProperValue
    (node_cost l + node_cost r + 1) ending first last old new before now is
    (λ a. act-head-Binary a site l r) (cost-head-Binary site l r)
    (walked_within by functions levels inner (λ a n. and_then (node_act a l n first)
    (λ v after. and_then (node_act a r n after) (λ w end. asks a.plan site (v ∷ w ∷ []) end))) IsProperValue
    (node_cost l + node_cost r + 1) ending first first last old new before now deep
    (walked_as by functions inner (λ a. and_then (node_act a l inner first) (λ v after. and_then (node_act a r inner after)
    (λ w end. asks a.plan site (v ∷ w ∷ []) end)))
    (λ a. operation_act a site (p ∷ q ∷ []) inner first) IsProperValue
    (sum (map part_cost (p ∷ q ∷ [])) + 1) (node_cost l + node_cost r + 1) ending first last old new before now
    (λ a. binary_alike a site p q l r inner first shut_left left shut_right right) (omega arith) one))

new_walked : {H : Type 0} (by : Teller) (functions : List FunctionCode) (levels : ℕ) (h : NodeHead) (ending : Option (Ending Value)) (s last : Frame)
    (old new : Told) (before now : H → List Asked → Type 0)
    → h ≡ head.New
    → Walked by functions levels (λ a. and_then (draws a.limit s) (λ n after. gives (value.Obj n) s)) IsProperValue 1 ending s last old new before now
    → Walked by functions levels (λ a. head_act a h levels s) IsProperValue (head_cost h) ending s last old new before now
new_walked by functions levels h ending s last old new before now is one =
    head_walked by functions levels h head.New (λ a. head_step a NodeHead-F.New) IsProperValue 1 ending s last old new before now is act-head-New
    cost-head-New
    (walked_as by functions levels (λ a. draws_object a.limit s (λ n. gives (value.Obj n) s))
    (λ a. and_then (draws a.limit s) (λ n after. gives (value.Obj n) s)) IsProperValue 1 1
    ending s last old new before now (λ a. draws_alike a.limit s (λ n. gives (value.Obj n) s)) (omega arith) one)

pub new_stopped : {H : Type 0} (why : Stop) (by : Teller) (functions : List FunctionCode) (levels : ℕ) (h : NodeHead) (s last : Frame) (old new : Told)
    (before now : H → List Asked → Type 0)
    → h ≡ head.New
    → Walked by functions levels (λ a. draws a.limit s) IsProperNumber 1 (stopped why) s last old new before now
    → Walked by functions levels (λ a. head_act a h levels s) IsProperValue (head_cost h) (stopped why) s last old new before now
new_stopped why by functions levels h s last old new before now is one =
    new_walked by functions levels h (stopped why) s last old new before now is
    (walked_stopped why by functions levels (λ a. draws a.limit s) (λ a n after. gives (value.Obj n) s) IsProperNumber IsProperValue 1 1 s last old new before
    now one (omega arith))

pub new_whole : {H : Type 0} (by : Teller) (functions : List FunctionCode) (levels : ℕ) (h : NodeHead) (n : ℕ) (s : Frame) (old new : Told)
    (before now : H → List Asked → Type 0)
    → h ≡ head.New
    → Walked by functions levels (λ a. draws a.limit s) IsProperNumber 1 (Some (Gives n)) s s old new before now
    → Walked by functions levels (λ a. head_act a h levels s) IsProperValue (head_cost h) (Some (Gives (value.Obj n))) s s old new before now
new_whole by functions levels h n s old new before now is one =
    new_walked by functions levels h (Some (Gives (value.Obj n))) s s old new before now is
    (walked_then by functions levels (λ a. draws a.limit s) (λ a k after. gives (value.Obj k) s) IsProperNumber IsProperValue 1 0 1 n
    (Some (Gives (value.Obj n))) s s s old new new before now now one
    (walked_end new.world.by functions levels IsProperValue 0 (Gives (value.Obj n)) s new now refl
    (subst (λ b. IsProperValue b (value.Obj n)) (sym one.same) one.proper) (subst (λ b. AreProper b s.locals) (sym one.same) one.locals)) (omega arith))

pub new_of_whole : {H : Type 0} (by : Teller) (functions : List FunctionCode) (levels : ℕ) (h : NodeHead) (site : ℕ) (target got : Node) (args xs : List Node)
    (ending : Option (Ending Value))
    (s last : Frame) (old new : Told) (before now : H → List Asked → Type 0)
    → h ≡ head.NewOf site target args → got ≡ target → xs ≡ args
    → Walked by functions levels (λ a. new_of_act a site got xs levels s) IsProperValue (node_cost got + sum (map node_cost xs) + 2) ending s last old new
    before now
    → Walked by functions levels (λ a. head_act a h levels s) IsProperValue (head_cost h) ending s last old new before now
new_of_whole by functions levels h site target got args xs ending s last old new before now is at row one =
    head_walked by functions levels h (head.NewOf site got xs) (λ a. head_step a (NodeHead-F.NewOf site (node_act a got) (map (node_act a) xs))) IsProperValue
    (node_cost got + sum (map node_cost xs) + 2)
    ending s last old new before now (is ∙ ap (λ t. head.NewOf site t args) (sym at) ∙ ap (λ ys. head.NewOf site got ys) (sym row))
    (λ a. act-head-NewOf a site got xs) (cost-head-NewOf site got xs) one
